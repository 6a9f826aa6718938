-- What an honest server shows to a client that follows its wall is accepted.
use Rattle.std.proofs.Common.{◌≡◌, ◌⊎◌, inl, inr, ℕ, zero, suc, ◌+◌, ◌-◌, ◌<◌, ◌≤◌, Bool, true, false, List, [], ◌∷◌, length, take, drop, Some, None, refl, ap, sym, subst, ◌∙◌, arith}
use Rattle.std.specs.Prelude.{slice_get, if◌then◌else◌}
use Rattle.std.specs.List.{AllByRecursion, drop-map}
use Rattle.std.proofs.lemmas.Bool.{cases_lt, lt-ltb, le-ltb}
use Rattle.std.proofs.lemmas.List.{drop-drop, drop_all, length-drop, length-map, take_all}
use Rattle.fr_digest.specs.Digest.{Digest}
use Rattle.op_types.specs.declared.op.Leaf.{Leaf}
use Rattle.op_types.specs.declared.view.View.{View}
use Rattle.op_types.specs.Spelling.{leaf_text}
use Rattle.tree_model.specs.History.{root, root_of_all}
use Rattle.hist_proof.specs.Pruned.{Tree, at, fits}
use Rattle.hist_proof.proofs.Trees.{prunes-digest, prunes-fits}
use Rattle.pruned_list.specs.PrunedList.{PrunedList}
use Rattle.vouch_rule.specs.declared.vouch.Vouch.{Vouch}
use Rattle.vouch_rule.specs.Vouching.{IsVouched, vouchers}
use Rattle.wall_law.specs.State.{state_of}
use Rattle.wall_law.specs.Lawful.{Told, told, told_of}
use Rattle.wall_law.proofs.Histories.{law-stands}
use Rattle.check_rules.specs.declared.known.Known.{Known}
use Rattle.check_rules.specs.Accepted.{Accepted, PositionsPass, told_at}
use Rattle.check_rules.specs.Shown.{anchor, leaf_shown, leaves_from, shows_from}
use Rattle.check_rules.specs.Verdict.{told_before, vouchers_found, vouches}
use Rattle.honest_replies.specs.HonestNews.{Begins, Follows, IsHonest, IsViewOf, ShowsNews, texts_of}
use Rattle.honest_replies.proofs.Lists.{all-drop, at-below, at-drop, below-at}
use Rattle.honest_replies.proofs.Places.{at-cut, passes-at}
use Rattle.honest_replies.proofs.Shown.{from-shown, leaf-shown, shows-among}

-- ---- what is told

-- behind a leaf that is there the leaf tells
told-behind : (before : Told) (leaves : List Leaf) (i : ℕ) (l : Leaf) → slice_get leaves i ≡ Some l
    → told_at before leaves (suc i) ≡ told l
told-behind before [] i l here = absurd cc
told-behind before (x ∷ xs) zero l here = let same : x ≡ l = cc in ap told same
told-behind before (x ∷ xs) (suc i) l here = told-behind (told x) xs i l here

all-of : {A : Type 0} (P : A → Type 0) (xs : List A) → ((k : ℕ) (x : A) → slice_get xs k ≡ Some x → P x) → AllByRecursion P xs
all-of P [] each = tt
all-of P (x ∷ xs) each = (each zero x refl, all-of P xs (λ k y here. each (suc k) y here))

-- ---- vouch points

no-vouchers : (m : ℕ) → vouchers [] m ≡ 0
no-vouchers m = refl

-- a vouched point stands in front of an operation
vouched-before : (ops : List Vouch) (have f m : ℕ) → IsVouched ops have f m → m - have < length ops
vouched-before ops have f m it = elim (cases_lt (m - have) (length ops)) [
  | inl less ↦ less
  | inr past ↦ absurd (
      let none : vouchers (drop (m - have) ops) m ≡ 0 = ap (λ xs. vouchers xs m) (drop_all (m - have) ops past) in
      let some = it.1 in omega arith)
]

module _ (d : Digest) (known : Known) (L : List Leaf) where
  -- the first shown position is past what the client has, no further than the list
  pub record StartsWell (from : ℕ) : Type 0 where
    pub old : known.size ≤ from
    pub some : from < length L
    pub vouched : (from ≡ known.size) ⊎ (known.f < vouchers (vouches (drop from L)) from)

  vouches-drop : (from : ℕ) → known.size ≤ from
      → drop (from - known.size) (vouches (drop known.size L)) ≡ vouches (drop from L)
  vouches-drop from le =
      let e : known.size + (from - known.size) ≡ from = omega arith in
      drop-map (λ (l : Leaf). let v : Vouch = record { author = l.op.author; size = l.op.view.size } in v) (from - known.size) (drop known.size L)
      ∙ ap vouches (drop-drop (from - known.size) known.size L ∙ ap (λ n. drop n L) e)

  starts-vouched : (from : ℕ) → known.size < length L
      → (from ≡ known.size) ⊎ IsVouched (vouches (drop known.size L)) known.size known.f from → StartsWell from
  starts-vouched from more (inl level) = record { old = omega arith; some = omega arith; vouched = inl level }
  starts-vouched from more (inr it) =
      let before = vouched-before (vouches (drop known.size L)) known.size known.f from it in
      let count : length (vouches (drop known.size L)) ≡ length L - known.size =
      length-map (drop known.size L) (λ (l : Leaf). let v : Vouch = record { author = l.op.author; size = l.op.view.size } in v)
      ∙ length-drop known.size L in
      let less = it.0 in
      record {
        old = omega arith;
        some = omega arith;
        vouched = inr (subst (λ (ops : List Vouch). known.f < vouchers ops from) (vouches-drop from (omega arith)) it.1);
      }

  pub starts : (whole : Bool) (from : ℕ) → known.size < length L → Begins known.size known.f L whole from → StartsWell from
  starts true from more begins = starts-vouched from more (inl begins)
  starts false from more begins = starts-vouched from more begins.found

  module _ (honest : IsHonest d known L) (from : ℕ) (tree : Tree) (lists : List PrunedList) (shows : ShowsNews d known.owner known.size L from tree lists) where
    pub leaves-are : from ≤ length L → leaves_from tree (length L) from ≡ drop from L
    leaves-are within = from-shown d tree L honest.spelled shows.prunes from within
        (λ k le below. shows.shows k (omega arith) below)

    told-first : from < length L → told_before d known.owner (anchor tree (length L) from) ≡ told_of d (state_of known.owner (take from L))
    told-first some = elim (cases_lt 0 from) [
      | inl past ↦ (
          let k : ℕ = from - 1 in
          let it = at-below L (from - 1) (omega arith) in
          let e : from - 1 + 1 ≡ from = omega arith in
          let own = leaf-shown d tree L honest.spelled shows.prunes (from - 1) it.0 it.1 (shows.shows (from - 1) (omega arith) (omega arith)) in
          let tells = (honest.lawful (from - 1) it.0 it.1).tells in
          ap (λ b. told_before d known.owner (if b then leaf_shown tree (length L) (from - 1) else None)) (lt-ltb 0 from past)
          ∙ ap (told_before d known.owner) own
          ∙ tells ∙ ap (λ n. told_of d (state_of known.owner (take n L))) e)
      | inr first ↦ (
          let e : from ≡ 0 = omega arith in
          ap (λ b. told_before d known.owner (if b then leaf_shown tree (length L) (from - 1) else None)) (le-ltb 0 from first)
          ∙ ap (λ n. told_of d (state_of known.owner (take n L))) (sym e))
    ]

    told-next : (i : ℕ) (l : Leaf) → from < length L → slice_get L (from + i) ≡ Some l
        → told_at (told_before d known.owner (anchor tree (length L) from)) (drop from L) i
        ≡ told_of d (state_of known.owner (take (from + i) L))
    told-next zero l some here =
        let e : from + 0 ≡ from = omega arith in
        told-first some ∙ ap (λ n. told_of d (state_of known.owner (take n L))) (sym e)
    told-next (suc i) l some here =
        let below = below-at L (from + suc i) l here in
        let it = at-below L (from + i) (omega arith) in
        let e : from + i + 1 ≡ from + suc i = omega arith in
        told-behind (told_before d known.owner (anchor tree (length L) from)) (drop from L) i it.0 (at-drop L from i ∙ it.1)
        ∙ (honest.lawful (from + i) it.0 it.1).tells ∙ ap (λ n. told_of d (state_of known.owner (take n L))) e

    pass : from < length L
        → PositionsPass d known tree (length L) (told_before d known.owner (anchor tree (length L) from)) from (drop from L) lists
    pass some i l p at beside =
        let here = sym (at-drop L from i) ∙ at in
        let one = passes-at d known L honest tree shows.prunes (from + i) l p here
        (shows.embeds (from + i) l (omega arith) here) (shows.proves i l p here beside) in
        rw (told-next i l some here) one

    same-wall : (k : ℕ) (l : Leaf) → slice_get L k ≡ Some l → l.op.wall ≡ known.wall
    same-wall k l here = (law-stands (state_of known.owner (take k L)) known.wall k l.op (honest.lawful k l here).lawful).same_wall

    root-whole : root d (texts_of L) (length L) ≡ root_of_all d (texts_of L)
    unfolding root
    root-whole = let size : length (texts_of L) ≡ length L = length-map L leaf_text in
        ap (root_of_all d) (take_all (length L) (texts_of L) (omega arith))

    fitting : fits tree (length L) ≡ true
    fitting = let size : length (texts_of L) ≡ length L = length-map L leaf_text in
        ap (fits tree) (sym size) ∙ prunes-fits d tree (texts_of L) shows.prunes

    pub news-accepted : (whole : Bool) (view : View) → Follows d known L → IsViewOf d known.wall known.server L view → known.size < length L
        → Begins known.size known.f L whole from → Accepted d known view from tree lists
    news-accepted whole view follows is more begins =
        let good = starts whole from more begins in
        let size = is.size in
        let within : from ≤ length L = (let less = good.some in omega arith) in
        let own : leaves_from tree view.size from ≡ drop from L = ap (λ n. leaves_from tree n from) size ∙ leaves-are within in
        record {
          later = rw size more;
          old = good.old;
          some = rw size (good.some);
          fitting = ap (fits tree) size ∙ fitting;
          shows = ap (λ n. shows_from tree n (from - 1)) size
              ∙ shows-among tree (length L) (length L - (from - 1)) (from - 1)
              (λ i le less. shows.shows i le (let all = good.some in omega arith));
          root = prunes-digest d tree (texts_of L) shows.prunes ∙ sym root-whole ∙ ap (root d (texts_of L)) (sym size)
              ∙ sym (is.seen (rw size (omega arith))).same;
          extends = λ some. ap (λ n. at d tree n known.size) size ∙ at-cut d tree L known.size shows.prunes (shows.sees some follows.within)
              ∙ ap (λ x. Some x) (sym (follows.root_is some));
          vouched = subst (λ (ls : List Leaf). (from ≡ known.size) ⊎ (known.f < vouchers_found ls from)) (sym own) good.vouched;
          wall = subst (λ (ls : List Leaf). AllByRecursion (λ (l : Leaf). l.op.wall ≡ known.wall) ls) (sym own)
              (all-drop (λ (l : Leaf). l.op.wall ≡ known.wall) from L (all-of (λ (l : Leaf). l.op.wall ≡ known.wall) L same-wall));
          positions = subst (λ (n : ℕ). PositionsPass d known tree n (told_before d known.owner (anchor tree n from)) from
              (leaves_from tree n from) lists) (sym size)
              (subst (λ (ls : List Leaf). PositionsPass d known tree (length L)
              (told_before d known.owner (anchor tree (length L) from)) from ls lists) (sym (leaves-are within)) (pass good.some));
        }

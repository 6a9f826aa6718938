-- A client that follows an honest wall follows it when it grows, and after it took what is new.
use Rattle.std.proofs.Common.{◌≡◌, ◌∙◌, ◌⊎◌, inl, inr, ℕ, zero, suc, ◌+◌, ◌<◌, ◌≤◌, true, false, List, [], ◌∷◌, ◌++◌, length, take, drop, Option, Some, None, refl, sym, ap, subst, arith, length-append}
use Rattle.std.specs.Prelude.{slice_get}
use Rattle.std.proofs.lemmas.Bool.{le-ltb, lt-ltb}
use Rattle.std.proofs.lemmas.List.{drop-append-le, take_all}
use Rattle.fr_bytes.specs.History.{Begins}
use Rattle.fr_digest.specs.Digest.{Digest}
use Rattle.op_types.specs.declared.op.Leaf.{Leaf}
use Rattle.op_types.specs.declared.op.Op.{Op}
use Rattle.op_types.specs.declared.view.View.{View}
use Rattle.tree_model.specs.History.{root}
use Rattle.wall_law.specs.Lawful.{Lawful, Told}
use Rattle.wall_law.specs.State.{state_of}
use Rattle.check_rules.specs.declared.known.Known.{Known}
use Rattle.check_rules.specs.Shown.{changes_of}
use Rattle.honest_replies.specs.HonestNews.{IsViewOf}
use Rattle.honest_replies.proofs.Changes.{epoch-counts}
use Rattle.honest_replies.proofs.Places.{root-front}
use Rattle.hall_core.specs.declared.facts.WallFacts.{WallFacts}
use Rattle.hall_core.specs.PlainWall.{texts_of}
use Rattle.hall_replies.specs.Knowing.{Knows}
use Rattle.client_core.specs.Keys.{KeysView, after_changes, fresh, held}
use Rattle.client_core.specs.Sides.{SideView}
use Rattle.client_core.specs.Taking.{epoch_after, keys_after, relearnt}
use Rattle.session_laws.specs.Doing.{needs_keys, sent_side}
use Rattle.run_laws.specs.Following.{Follows, IsFront, keys_of}
use Rattle.run_laws.proofs.Fronts.{front-take, front-within, has-last}
use Rattle.run_laws.proofs.Keys.{keys-anew, keys-count, keys-shown}

-- ---- a longer wall

root-longer : (d : Digest) (xs ys : List Leaf) (n : ℕ) → Begins xs ys → n ≤ length xs
    → root d (texts_of xs) n ≡ root d (texts_of ys) n
root-longer d xs ys n b le =
    let whole : take (length xs) ys ≡ xs = front-take (length xs) xs ys b (omega arith) ∙ take_all (length xs) xs
    (omega arith) in
    ap (λ (L : List Leaf). root d (texts_of L) n) (sym whole) ∙ root-front d ys (length xs) n le

module _ (d : Digest) (facts : WallFacts) where
  pub front-more : (xs ys : List Leaf) (known : Known) → Begins xs ys → IsFront d facts xs known
      → IsFront d facts ys known
  front-more xs ys known b is =
      let within = is.within in
      let longer = front-within xs ys b in
      record {
        knows = is.knows;
        within = omega arith;
        root_is = λ some. is.root_is some ∙ root-longer d xs ys known.size b within;
        epoch_is = is.epoch_is ∙ ap (λ (L : List Leaf). length (changes_of L)) (sym (front-take known.size xs ys b within));
      }

  pub follows-more : (xs ys : List Leaf) (s : SideView) → Begins xs ys → Follows d facts xs s → Follows d facts ys s
  follows-more xs ys s b f = record {
    accepted = front-more xs ys s.known b f.accepted;
    held = f.held ∙ ap (keys_of s.keys) (sym (front-take s.known.size xs ys b f.accepted.within));
  }

  -- a number that is used changes nothing of it
  pub follows-sent : (L : List Leaf) (s : SideView) (signed : Option Op) → Follows d facts L s
      → Follows d facts L (sent_side s signed)
  follows-sent L s None f = f
  follows-sent L s (Some op) f = record { accepted = f.accepted; held = f.held }

  -- who holds all changes needs no keys
  pub needs-none : (L : List Leaf) (s : SideView) → Follows d facts L s → needs_keys s ≡ false
  needs-none L s f =
      let mine : held s.keys ≡ length (changes_of (take s.known.size L)) =
      ap held f.held ∙ keys-count s.keys (take s.known.size L) in
      let epoch = f.accepted.epoch_is in
      le-ltb (held s.keys) s.known.epoch (omega arith)

  -- ---- what is new

  epoch-last : (e : ℕ) (leaves : List Leaf) (l : Leaf) → epoch_after e (leaves ++ l ∷ []) ≡ l.epoch
  epoch-last e [] l = refl
  epoch-last e (x ∷ leaves) l = epoch-last x.epoch leaves l

  place-end : {A : Type 0} (xs : List A) (x : A) → slice_get (xs ++ x ∷ []) (length xs) ≡ Some x
  place-end [] x = refl
  place-end (y ∷ xs) x = place-end xs x

  -- the epoch behind the last leaf counts the changes
  pub epoch-behind : (L : List Leaf) (e from : ℕ) → Lawful d facts.owner facts.wall L → from < length L
      → epoch_after e (drop from L) ≡ length (changes_of L)
  epoch-behind L e from lawful some =
      let end = has-last L (omega arith) in
      let count : length L ≡ length end.front + 1 = ap length end.is ∙ length-append end.front (end.last ∷ []) in
      let at : slice_get L (length end.front) ≡ Some end.last =
      ap (λ (ls : List Leaf). slice_get ls (length end.front)) end.is ∙ place-end end.front end.last in
      let tells = (lawful (length end.front) end.last at).tells in
      let all : take (length end.front + 1) L ≡ L = take_all (length end.front + 1) L (omega arith) in
      ap (λ (ls : List Leaf). epoch_after e (drop from ls)) end.is
      ∙ ap (epoch_after e) (drop-append-le from end.front (end.last ∷ []) (omega arith))
      ∙ epoch-last e (drop from end.front) end.last
      ∙ ap (λ (t : Told). t.epoch) tells
      ∙ ap (λ (ls : List Leaf). (state_of facts.owner ls).epoch) all
      ∙ epoch-counts facts.owner L

  -- what is known after a view of all is accepted
  abbrev pub known_after : Known → View → ℕ → Known
  known_after known view epoch = record known { size = view.size; root = view.root; epoch = epoch }

  pub front-all : (L : List Leaf) (known : Known) (view : View) (epoch : ℕ) → Knows facts known
      → IsViewOf d facts.wall facts.server L view → epoch ≡ length (changes_of L)
      → IsFront d facts L (known_after known view epoch)
  front-all L known view epoch knows is counts =
      let size = is.size in
      let all : take view.size L ≡ L = take_all view.size L (omega arith) in
      record {
        knows = record {
          wall = knows.wall;
          owner = knows.owner;
          f = knows.f;
          server = knows.server;
          users = knows.users;
        };
        within = omega arith;
        root_is = λ some. (is.seen some).same;
        epoch_is = counts ∙ ap (λ (ls : List Leaf). length (changes_of ls)) (sym all);
      }

  -- a side that has accepted all of the leaves, and its keys after the changes that were shown
  abbrev pub side_behind : SideView → View → ℕ → List Leaf → SideView
  side_behind s view epoch leaves = record s {
    known = known_after s.known view epoch;
    view = view;
    keys = keys_after s.keys epoch leaves;
  }

  -- A side that follows the leaves takes what is new of them: it follows all of them, or its keys are as before and it
  -- needs some.
  pub takes-all : (L : List Leaf) (s : SideView) (view : View) (from epoch : ℕ) → Follows d facts L s
      → IsViewOf d facts.wall facts.server L view → s.known.size ≤ from → from < length L
      → epoch ≡ length (changes_of L)
      → Follows d facts L (side_behind s view epoch (drop from L))
      ⊎ (IsFront d facts L (side_behind s view epoch (drop from L)).known
      × (needs_keys (side_behind s view epoch (drop from L)) ≡ true))
  takes-all L s view from epoch f is old some counts =
      let size = is.size in
      let all : take view.size L ≡ L = take_all view.size L (omega arith) in
      let after : IsFront d facts L (known_after s.known view epoch) = front-all L s.known view epoch f.accepted.knows is
      counts in
      let same : keys_after s.keys epoch (drop from L) ≡ keys_after s.keys (length (changes_of L)) (drop from L) =
      ap (λ (n : ℕ). keys_after s.keys n (drop from L)) counts in
      elim (keys-shown s.keys s.known.size from L f.held old (omega arith)) [
        | inl learnt ↦
            let now : keys_after s.keys epoch (drop from L) ≡ keys_of s.keys L = same ∙ learnt in
            inl (record {
              accepted = after;
              held = now ∙ sym (keys-anew s.keys L L)
                  ∙ ap (λ (k : KeysView). keys_of k L) (sym now)
                  ∙ ap (keys_of (keys_after s.keys epoch (drop from L))) (sym all);
            })
        | inr short ↦
            let less : held (keys_after s.keys epoch (drop from L)) < epoch =
            subst (λ (k : KeysView). held k < epoch) (sym (same ∙ short.0))
            (let few = short.1 in omega arith) in
            inr (after, lt-ltb (held (keys_after s.keys epoch (drop from L))) epoch less)
      ]

  -- ---- keys

  -- who learns all changes of the front that was accepted follows the leaves
  pub learns-all : (L : List Leaf) (s : SideView) (changes : List Op) → IsFront d facts L s.known
      → changes ≡ changes_of (take s.known.size L) → Follows d facts L (relearnt s changes)
  learns-all L s changes front are =
      let now : after_changes (fresh s.keys) changes ≡ keys_of s.keys (take s.known.size L) =
      ap (after_changes (fresh s.keys)) are in
      record {
        accepted = front;
        held = now ∙ sym (keys-anew s.keys (take s.known.size L) (take s.known.size L))
            ∙ ap (λ (k : KeysView). keys_of k (take s.known.size L)) (sym now);
      }

  -- who needs keys has accepted something
  pub needs-some : (L : List Leaf) (s : SideView) → IsFront d facts L s.known → needs_keys s ≡ true → 0 < s.known.size
  needs-some L s front needs = elim (cases-zero s.known.size) [
    | inl none ↦
        let epoch : s.known.epoch ≡ 0 = front.epoch_is ∙ ap (λ (n : ℕ). length (changes_of (take n L))) none in
        let not = le-ltb (held s.keys) s.known.epoch (omega arith) in
        let e = sym not ∙ needs in
        absurd cc
    | inr some ↦ some
  ]
    where
      cases-zero : (n : ℕ) → (n ≡ 0) ⊎ (0 < n)
      cases-zero zero = inl refl
      cases-zero (suc n) = inr (omega arith)

-- The changes that an honest server shows are those of the wall.
use Rattle.std.proofs.Common.{◌≡◌, ℕ, zero, suc, ◌+◌, ◌<◌, ◌≤◌, Bool, true, false, not, ◌||◌, List, [], ◌∷◌, length, take, drop, Some, None, refl, ap, sym, ◌∙◌, arith, eq-eqb, inl, inr}
use Rattle.std.specs.Prelude.{Ok, Result, slice_get, option_and_then, filter, fold, nat_eq, if◌then◌else◌}
use Rattle.std.specs.List.{AllByRecursion, take-map}
use Rattle.std.specs.Str.{bytes_eq}
use Rattle.std.proofs.lemmas.Bool.{cases_Bool}
use Rattle.std.proofs.lemmas.List.{length-map, length-take-le}
use Rattle.fr_bytes.specs.Bytes.{Text}
use Rattle.fr_bytes.specs.Reading.{◌>>=◌}
use Rattle.fr_digest.specs.Digest.{Digest}
use Rattle.op_types.specs.declared.op.Leaf.{Leaf}
use Rattle.op_types.specs.declared.op.Op.{Op}
use Rattle.op_types.specs.Kinds.{is_change}
use Rattle.op_types.specs.Spelling.{IsLeaf, leaf_text}
use Rattle.op_types.proofs.Ops.{leaf_again}
use Rattle.tree_model.specs.History.{root, root_of_all}
use Rattle.hist_proof.specs.Pruned.{Tree, Prunes, fits}
use Rattle.hist_proof.specs.Pruned as trees
use Rattle.hist_proof.specs.Shown.{shown}
use Rattle.hist_proof.specs.Spelling.{tree_text}
use Rattle.hist_proof.proofs.Trees.{prunes-digest, prunes-fits}
use Rattle.msg_form.specs.declared.message.Reply.TheVariants.{KeyOps}
use Rattle.msg_form.specs.declared.verdict.Verdict.{Verdict}
use Rattle.msg_form.specs.declared.verdict.Verdict.TheVariants as verdicts
use Rattle.msg_form.proofs.Spellings.{reply-read}
use Rattle.wall_law.specs.declared.state.State.{State}
use Rattle.wall_law.specs.State.{after, opening, state_of}
use Rattle.wall_law.specs.Rows.{row}
use Rattle.wall_law.proofs.Rows.{none-all, off-or, off-row}
use Rattle.check_rules.specs.declared.known.Known.{Known}
use Rattle.check_rules.specs.Heard.{KeysHeard, keys_heard_of, keys_in, leaf_of}
use Rattle.check_rules.specs.Shown.{changes_of, leaf_shown, leaves_in, present, with_some}
use Rattle.check_rules.specs.Verdict.{changes_or, is_other_root, is_other_wall, keys_judged, keys_judged_heard, keys_verdict}
use Rattle.check_rules.proofs.Present.{all-leaves}
use Rattle.check_rules.proofs.Tests.{bytes-equal, off-not}
use Rattle.honest_replies.specs.HonestNews.{texts_of}
use Rattle.honest_replies.specs.HonestReply.{KeysReply}
use Rattle.honest_replies.proofs.Heard.{tree-read}
use Rattle.honest_replies.proofs.Lists.{all-at, at-below, drop-at}

-- ---- epochs

-- a wall's epoch counts its changes
epoch-from : (s : State) (L : List Leaf)
    → (fold (λ (t : State) (leaf : Leaf). after t leaf.op) s L).epoch ≡ s.epoch + length (changes_of L)
epoch-from s [] = (let e : s.epoch ≡ s.epoch + 0 = omega arith in e)
epoch-from s (l ∷ ls) = elim (cases_Bool (is_change l.op.kind)) [
  | inl is ↦ epoch-from (after s l.op) ls ∙ rw is (omega arith)
  | inr not ↦ epoch-from (after s l.op) ls ∙ rw not refl
]

pub epoch-counts : (owner : ℕ) (L : List Leaf) → (state_of owner L).epoch ≡ length (changes_of L)
epoch-counts owner L = epoch-from (opening owner) L ∙ (let e : 0 + length (changes_of L) ≡ length (changes_of L) = omega arith in e)

-- ---- what is shown

abbrev is_changing : Leaf → Bool
is_changing l = is_change l.op.kind

changing : (L : List Leaf) → changes_of (filter is_changing L) ≡ changes_of L
changing [] = refl
changing (l ∷ ls) = elim (cases_Bool (is_change l.op.kind)) [
  | inl is ↦ rw (is, is) (ap (λ ops. l.op ∷ ops) (changing ls))
  | inr not ↦ rw not (changing ls)
]

module _ (d : Digest) (L : List Leaf) (n : ℕ) (within : n ≤ length L) (tree : Tree) (spelled : AllByRecursion IsLeaf L)
    (shows : (k : ℕ) (l : Leaf) → k < n → slice_get L k ≡ Some l
    → shown tree n k ≡ (if is_change l.op.kind then Some (leaf_text l) else None)) where
  one-shown : (k : ℕ) (l : Leaf) (b : Bool) → is_change l.op.kind ≡ b → k < n → slice_get L k ≡ Some l
      → leaf_shown tree n k ≡ (if b then Some l else None)
  one-shown k l true is below here = ap (option_and_then leaf_of) (shows k l below here)
      ∙ ap (λ b. option_and_then leaf_of (if b then Some (leaf_text l) else None)) is
      ∙ leaf_again (leaf_text l) l (record { is_leaf = all-at IsLeaf L k l spelled here; text = refl })
  one-shown k l false is below here = ap (option_and_then leaf_of) (shows k l below here)
      ∙ ap (λ b. option_and_then leaf_of (if b then Some (leaf_text l) else None)) is

  with-changing : (l : Leaf) (b : Bool) (ls : List Leaf) → is_change l.op.kind ≡ b
      → with_some (if b then Some l else None) (filter is_changing ls) ≡ filter is_changing (l ∷ ls)
  with-changing l true ls is = rw is refl
  with-changing l false ls is = rw is refl

  present-changes : (count k : ℕ) → k + count ≡ n
      → present (leaf_shown tree n) k count ≡ filter is_changing (take count (drop k L))
  unfolding present
  present-changes zero k whole = refl
  present-changes (suc count) k whole =
      let it = at-below L k (omega arith) in
      ap (λ o. with_some o (present (leaf_shown tree n) (k + 1) count))
      (one-shown k it.0 (is_change it.0.op.kind) refl (omega arith) it.1)
      ∙ ap (with_some (if is_change it.0.op.kind then Some it.0 else None)) (present-changes count (k + 1) (omega arith))
      ∙ with-changing it.0 (is_change it.0.op.kind) (take count (drop (k + 1) L)) refl
      ∙ ap (λ ls. filter is_changing (take (suc count) ls)) (sym (drop-at L k it.0 it.1))

  pub changes-shown : fits tree n ≡ true → changes_of (leaves_in tree) ≡ changes_of (take n L)
  changes-shown fit =
      let whole : 0 + n ≡ n = omega arith in
      ap changes_of (all-leaves tree n fit ∙ present-changes n 0 whole) ∙ changing (take n L)

-- ---- the reply

-- All of the first leaves have a spelling.
all-take : (n : ℕ) (L : List Leaf) → AllByRecursion IsLeaf L → AllByRecursion IsLeaf (take n L)
all-take zero L each = tt
all-take (suc n) [] each = tt
all-take (suc n) (l ∷ ls) each = (each.0, all-take n ls each.1)

keys-heard : (d : Digest) (wall n : ℕ) (L : List Leaf) (bytes : Text) → AllByRecursion IsLeaf L
    → (r : KeysReply d wall L n bytes)
    → keys_heard_of bytes ≡ Some (record { wall = wall; size = n; tree = r.tree })
unfolding keys_heard_of
keys-heard d wall n L bytes each r =
    ap (λ o. o >>= keys_in) (reply-read (KeyOps wall n (tree_text r.tree)) bytes r.text)
    ∙ ap (λ o. o >>= (λ p. let k : KeysHeard = record { wall = wall; size = n; tree = p } in Some k))
    (tree-read d r.tree (take n L) r.tree_is r.prunes (all-take n L each))

-- What a client that has accepted the wall's first n leaves, and knows how many changes there are among them, makes
-- of it.
pub keys-taken : (d : Digest) (known : Known) (L : List Leaf) (bytes : Text) → AllByRecursion IsLeaf L
    → known.size ≤ length L → known.root ≡ root d (texts_of L) known.size
    → known.epoch ≡ length (changes_of (take known.size L))
    → KeysReply d known.wall L known.size bytes
    → keys_judged d known bytes ≡ Ok (changes_of (take known.size L))
unfolding keys_judged keys_verdict root
keys-taken d known L bytes each within root_is epoch r =
    let n : ℕ = known.size in
    let size : length (texts_of (take known.size L)) ≡ known.size =
    length-map (take known.size L) leaf_text ∙ length-take-le known.size L within in
    let fit : fits r.tree known.size ≡ true =
    ap (fits r.tree) (sym size) ∙ prunes-fits d r.tree (texts_of (take known.size L)) r.prunes in
    let own = changes-shown d L known.size within r.tree each r.shows fit in
    let top : trees.digest_of d r.tree ≡ known.root =
    prunes-digest d r.tree (texts_of (take known.size L)) r.prunes
    ∙ ap (root_of_all d) (sym (take-map leaf_text known.size L)) ∙ sym root_is in
    ap (keys_judged_heard d known) (keys-heard d known.wall known.size L bytes each r)
    ∙ ap (changes_or (changes_of (leaves_in r.tree))) (none-all
    (row (is_other_wall known known.wall) verdicts.WrongWall
    ∷ row (not (nat_eq known.size known.size) || not (fits r.tree known.size)) verdicts.BadShape
    ∷ row (is_other_root (trees.digest_of d r.tree) known.root) verdicts.RootMismatch
    ∷ row (not (nat_eq (length (changes_of (leaves_in r.tree))) known.epoch))
    (verdicts.KeysMissing (length (changes_of (leaves_in r.tree))) known.epoch)
    ∷ []) (
      off-row (is_other_wall known known.wall) verdicts.WrongWall
          (off-not (nat_eq known.wall known.wall) (eq-eqb known.wall known.wall refl)),
      (
        off-row (not (nat_eq known.size known.size) || not (fits r.tree known.size)) verdicts.BadShape
            (off-or (not (nat_eq known.size known.size)) (not (fits r.tree known.size))
            (off-not (nat_eq known.size known.size) (eq-eqb known.size known.size refl))
            (off-not (fits r.tree known.size) fit)),
        (
          off-row (is_other_root (trees.digest_of d r.tree) known.root) verdicts.RootMismatch
              (off-not (bytes_eq (trees.digest_of d r.tree) known.root) (bytes-equal (trees.digest_of d r.tree) known.root top)),
          (
            off-row (not (nat_eq (length (changes_of (leaves_in r.tree))) known.epoch))
                (verdicts.KeysMissing (length (changes_of (leaves_in r.tree))) known.epoch)
                (off-not (nat_eq (length (changes_of (leaves_in r.tree))) known.epoch)
                (eq-eqb (length (changes_of (leaves_in r.tree))) known.epoch
                (ap (λ (ops : List Op). length ops) own ∙ sym epoch))),
            tt,
          ),
        ),
      ),
    ))
    ∙ ap (λ ops. let x : Result (List Op) Verdict = Ok ops in x) own

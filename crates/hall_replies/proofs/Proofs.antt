-- The list before a position, pruned for its operation, proves the position.
use Rattle.std.proofs.Common.{◌≡◌, ℕ, suc, ◌+◌, List, [], ◌∷◌, ◌++◌, length, take, Some, refl, ap, sym, subst, arith}
use Rattle.std.specs.Prelude.{IsSome, is_some, slice_get}
use Rattle.std.specs.List.{AllByRecursion}
use Rattle.fr_bytes.specs.Bytes.{Text}
use Rattle.fr_digest.specs.Digest.{Digest}
use Rattle.op_types.specs.declared.kind.Kind.{Kind}
use Rattle.op_types.specs.declared.kind.Kind.TheVariants.{Post, Admit, Remove}
use Rattle.op_types.specs.declared.op.Leaf.{Leaf}
use Rattle.op_types.specs.Kinds.{changed_user}
use Rattle.op_types.specs.Spelling.{IsLeaf}
use Rattle.tree_model.specs.declared.entry.Entry.{Entry}
use Rattle.tree_model.specs.AccessList.{FitsChange}
use Rattle.pruned_list.specs.PrunedList.{PrunedList, PrunesDict}
use Rattle.tree_prune.specs.LeastList.{FindsChanged, IsOpen}
use Rattle.wall_law.specs.Lawful.{Lawful}
use Rattle.wall_law.specs.State.{change_of, state_of}
use Rattle.wall_law.proofs.Histories.{state_of-rising}
use Rattle.wall_law.proofs.Owners.{law-fits}
use Rattle.check_rules.specs.Verdict.{looked, looked_user}
use Rattle.honest_replies.specs.HonestNews.{ProvesAt}
use Rattle.hall_replies.specs.Shown.{HasNumbers, SpellProofs, SpellsProof, SpellsShort}
use Rattle.hall_replies.proofs.ListTexts.{short, spelled, state-roles}
use Rattle.hall_replies.proofs.Trees.{all-take}

looked-changed : (p : PrunedList) (E : List Entry) (kind : Kind) → FindsChanged p E (change_of kind)
    → IsSome (looked_user p (changed_user kind))
looked-changed p E (Post body) found = refl
looked-changed p E (Admit user role slot wraps) found = ap (λ s. is_some (looked s)) found
looked-changed p E (Remove user slot wraps) found = ap (λ s. is_some (looked s)) found

pub proves : (d : Digest) (owner : ℕ) (L : List Leaf) (k : ℕ) (leaf : Leaf) (p : PrunedList)
    → PrunesDict d p (state_of owner (take k L)).entries
    → IsOpen p (state_of owner (take k L)).entries leaf.op.author (change_of leaf.op.kind)
    → ProvesAt d owner L k leaf p
proves d owner L k leaf p prunes open_ = record {
  prunes = prunes;
  author = ap (λ s. is_some (looked s)) open_.author_found;
  changed_user = looked-changed p (state_of owner (take k L)).entries leaf.op.kind open_.changed_found;
  carried = open_.carried (leaf.op.seq + 1);
}

pub fits-at : (d : Digest) (owner wall : ℕ) (L : List Leaf) (k : ℕ) (leaf : Leaf) → Lawful d owner wall L
    → slice_get L k ≡ Some leaf → FitsChange (state_of owner (take k L)).entries leaf.op.author (change_of leaf.op.kind)
fits-at d owner wall L k leaf lawful at = law-fits (state_of owner (take k L)) wall k leaf.op (lawful k leaf at).lawful

-- What is spelled of the pruned list proves the position: where no state has many entries, it is the pruned list itself.
pub spells-proof : (d : Digest) (owner : ℕ) (L : List Leaf) (k : ℕ) (leaf : Leaf) (p : PrunedList) (bytes : Text)
    → AllByRecursion IsLeaf L → slice_get L k ≡ Some leaf → HasNumbers p
    → PrunesDict d p (state_of owner (take k L)).entries
    → IsOpen p (state_of owner (take k L)).entries leaf.op.author (change_of leaf.op.kind)
    → SpellsShort p bytes → SpellsProof d owner L k bytes
spells-proof d owner L k leaf p bytes each at numbers prunes open_ it = record {
  leaf = leaf;
  at = at;
  list = it.list;
  spells = it.spells;
  short = it.short;
  proves = λ few.
      let E = (state_of owner (take k L)).entries in
      let rising = state_of-rising owner (take k L) in
      let is = spelled d p E rising prunes (few k) (state-roles owner (take k L) (all-take IsLeaf k L each)) numbers in
      let same = it.same is (short d p E rising prunes (few k) is.ranges) in
      subst (ProvesAt d owner L k leaf) (sym same) (proves d owner L k leaf p prunes open_);
}

pub spell-more : (d : Digest) (owner : ℕ) (L : List Leaf) (from : ℕ) (texts : List Text) (text : Text)
    → SpellProofs d owner L from texts → SpellsProof d owner L (from + length texts) text
    → SpellProofs d owner L from (texts ++ text ∷ [])
spell-more d owner L from [] text each last =
    let e : from + 0 ≡ from = omega arith in
    (subst (λ k. SpellsProof d owner L k text) e last, tt)
spell-more d owner L from (t ∷ texts) text each last =
    let e : from + suc (length texts) ≡ from + 1 + length texts = omega arith in
    (each.0, spell-more d owner L (from + 1) texts text each.1 (subst (λ k. SpellsProof d owner L k text) e last))

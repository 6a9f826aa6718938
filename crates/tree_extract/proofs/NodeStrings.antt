-- When the strings of two nodes are one.
use Rattle.std.proofs.Common.{◌≡◌, ℕ, ◌&&◌, nat_eq, List, [], ◌∷◌, ◌++◌, length, Option, None, Some, refl, ap, sym, ◌∙◌, arith}
use Rattle.std.proofs.Math.Bool.{and_assoc}
use Rattle.std.specs.Option.{option_or}
use Rattle.std.specs.Str.{bytes_eq}
use Rattle.fr_digest.specs.Digest.{IsDigest}
use Rattle.std.proofs.lemmas.Bool.{cases_Bool, false≢true}
use Rattle.std.proofs.Common.{Bool, true, false, inl, inr}
use Rattle.std.specs.Prelude.{◌↔◌, IsTrue}
use Rattle.tree_model.proofs.NodeStrings.{node_text-same}
use Rattle.std.proofs.lemmas.Slice.Eq.{bytes_eq-Decides}
use Rattle.tree_extract.proofs.Differences.{test-true}
use Rattle.tree_extract.specs.declared.nodes.EntryNode.{EntryNode}
use Rattle.tree_extract.specs.declared.nodes.NodeString.TheVariants.{Entry}
use Rattle.tree_extract.specs.NodeString.{IsShaped, found_strings, spelled}
use Rattle.tree_extract.specs.declared.nodes.Found.{Found}

pub bytes_eq-append : (xs xs' ys ys' : List ℕ) → length xs ≡ length xs' → bytes_eq (xs ++ ys) (xs' ++ ys') ≡ (bytes_eq xs xs' && bytes_eq ys ys')
bytes_eq-append [] [] ys ys' same = refl
bytes_eq-append [] (x' ∷ xs') ys ys' same = absurd (omega arith)
bytes_eq-append (x ∷ xs) [] ys ys' same = absurd (omega arith)
bytes_eq-append (x ∷ xs) (x' ∷ xs') ys ys' same =
    ap (λ b. nat_eq x x' && b) (bytes_eq-append xs xs' ys ys' (omega arith)) ∙ sym (and_assoc (nat_eq x x') (bytes_eq xs xs') (bytes_eq ys ys'))

-- digests that stand one after the other
pub bytes_eq-pair : (left left' right right' : List ℕ) → IsDigest left → IsDigest left' → bytes_eq (left ++ right) (left' ++ right') ≡ (bytes_eq left left' && bytes_eq right right')
bytes_eq-pair left left' right right' one two = bytes_eq-append left left' right right' (one ∙ sym two)

-- ---- what was found

pub found_strings-or : (x y : Option Found) → found_strings (option_or x y) ≡ option_or (found_strings x) (found_strings y)
found_strings-or None y = refl
found_strings-or (Some x) y = refl

-- ---- nodes of access lists

one_node : (n m : EntryNode) → n.entry ≡ m.entry → n.left ≡ m.left → n.right ≡ m.right → n ≡ m
one_node n m entry left right =
    ap (λ e. record n { entry = e }) entry
    ∙ ap (λ l. record m { left = l; right = n.right }) left
    ∙ ap (λ r. record m { right = r }) right

pub entry_nodes : (n m : EntryNode) (b : Bool) → IsShaped (Entry n) → IsShaped (Entry m) → IsTrue b ↔ (n ≡ m)
    → b ≡ bytes_eq (spelled (Entry n)) (spelled (Entry m))
entry_nodes n m true hn hm tells =
    sym (test-true (spelled (Entry n)) (spelled (Entry m)) (ap (λ (x : EntryNode). spelled (Entry x)) (tells.0 refl)))
entry_nodes n m false hn hm tells = elim (cases_Bool (bytes_eq (spelled (Entry n)) (spelled (Entry m)))) [
  | inl equal ↦
      let strings = (bytes_eq-Decides (spelled (Entry n)) (spelled (Entry m))).0 equal in
      let same = node_text-same 32 n.entry m.entry n.left n.right m.left m.right hn.0 hm.0 hn.1 hm.1 strings in
      absurd (false≢true (tells.1 (one_node n m same.0 same.1 same.2)))
  | inr differ ↦ sym differ
]

-- A pruned tree as a list of its nodes, each below its parts, and the tree back from the list: by it the values
-- of trees are told apart.
use Rattle.std.specs.Prelude.{◌≡◌, ℕ, zero, suc, List, [], ◌∷◌, ◌++◌, refl}
use Rattle.std.specs.Coded.{Coded, code_by, coded×, coded_ℕ, coded_list}
use Rattle.std.proofs.Common.{◌∙◌, ap, sym, append_assoc}
use Rattle.std.proofs.lemmas.List.{append-nil}
use Rattle.fr_bytes.specs.Bytes.{Text}
use Rattle.hist_proof.specs.Pruned.{Tree, hidden, leaf, node, single}
use Rattle.hist_proof.specs.Digested.{Sized}

abbrev pub nodes_of : Tree → List (ℕ × Text)
nodes_of (hidden x) = (0, x) ∷ []
nodes_of (leaf t) = (1, t) ∷ []
nodes_of (node l r) = nodes_of l ++ (nodes_of r ++ (2, []) ∷ [])
nodes_of (single l) = nodes_of l ++ (3, []) ∷ []

-- a node over the trees that stand ready
abbrev pub put_node : ℕ → Text → List Tree → List Tree
put_node zero x ready = hidden x ∷ ready
put_node (suc zero) x ready = leaf x ∷ ready
put_node (suc (suc zero)) x [] = []
put_node (suc (suc zero)) x (r ∷ []) = []
put_node (suc (suc zero)) x (r ∷ (l ∷ ready)) = node l r ∷ ready
put_node (suc (suc (suc n))) x [] = []
put_node (suc (suc (suc n))) x (l ∷ ready) = single l ∷ ready

abbrev pub put_nodes : List (ℕ × Text) → List Tree → List Tree
put_nodes [] ready = ready
put_nodes (x ∷ xs) ready = put_nodes xs (put_node x.0 x.1 ready)

abbrev pub first_tree : List Tree → Tree
first_tree [] = hidden []
first_tree (p ∷ ready) = p

put_back : (p : Tree) (rest : List (ℕ × Text)) (ready : List Tree)
    → put_nodes (nodes_of p ++ rest) ready ≡ put_nodes rest (p ∷ ready)
put_back (hidden x) rest ready = refl
put_back (leaf t) rest ready = refl
put_back (node l r) rest ready =
    ap (λ (xs : List (ℕ × Text)). put_nodes xs ready) (append_assoc (nodes_of l) (nodes_of r ++ (2, []) ∷ []) rest)
    ∙ put_back l ((nodes_of r ++ (2, []) ∷ []) ++ rest) ready
    ∙ ap (λ (xs : List (ℕ × Text)). put_nodes xs (l ∷ ready)) (append_assoc (nodes_of r) ((2, []) ∷ []) rest)
    ∙ put_back r ((2, []) ∷ rest) (l ∷ ready)
put_back (single l) rest ready =
    ap (λ (xs : List (ℕ × Text)). put_nodes xs ready) (append_assoc (nodes_of l) ((3, []) ∷ []) rest)
    ∙ put_back l ((3, []) ∷ rest) ready

abbrev pub tree_back : List (ℕ × Text) → Tree
tree_back nodes = first_tree (put_nodes nodes [])

pub tree_is_back : (p : Tree) → tree_back (nodes_of p) ≡ p
tree_is_back p =
    ap (λ (xs : List (ℕ × Text)). tree_back xs) (sym (append-nil (nodes_of p)))
    ∙ ap (λ (ready : List Tree). first_tree ready) (put_back p [] [])

abbrev pub tree_code : Coded Tree
tree_code = code_by (List (ℕ × Text)) (coded_list (coded× coded_ℕ (coded_list coded_ℕ))) nodes_of tree_back tree_is_back

abbrev pub sized_code : Coded Sized
sized_code =
    code_by (Tree × ℕ) (coded× tree_code coded_ℕ) (λ s. (s.tree, s.size)) (λ p. record {
      tree =
          p.0;
      size = p.1;
    }) (λ _. refl)

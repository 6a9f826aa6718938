-- A pruned list as a list of its parts, each node behind what is below it, and the pruned list back from the list:
-- by it the values of pruned lists are told apart.
use Rattle.std.specs.Prelude.{◌≡◌, ℕ, zero, suc, List, [], ◌∷◌, ◌++◌, refl}
use Rattle.std.specs.Coded.{Coded, code_by, coded×, coded_ℕ, coded_list}
use Rattle.std.proofs.Common.{◌∙◌, ap, sym, append_assoc}
use Rattle.std.proofs.lemmas.List.{append-nil}
use Rattle.pruned_list.specs.PrunedList.{PrunedList, absent, hidden, node}

abbrev pub Part : Type 0
Part = ℕ × List ℕ

abbrev pub parts_of : PrunedList → List Part
parts_of absent = (0, []) ∷ []
parts_of (hidden x) = (1, x) ∷ []
parts_of (node e l r) = parts_of l ++ (parts_of r ++ (2, e.user ∷ (e.role ∷ (e.next ∷ []))) ∷ [])

-- a node of these numbers
abbrev pub node_from : List ℕ → PrunedList → PrunedList → PrunedList
node_from [] l r = absent
node_from (user ∷ []) l r = absent
node_from (user ∷ (role ∷ [])) l r = absent
node_from (user ∷ (role ∷ (next ∷ more))) l r = node (record { user = user; role = role; next = next }) l r

-- a part over those that stand ready
abbrev pub put_part : ℕ → List ℕ → List PrunedList → List PrunedList
put_part zero x ready = absent ∷ ready
put_part (suc zero) x ready = hidden x ∷ ready
put_part (suc (suc n)) x [] = []
put_part (suc (suc n)) x (r ∷ []) = []
put_part (suc (suc n)) x (r ∷ (l ∷ ready)) = node_from x l r ∷ ready

abbrev pub put_parts : List Part → List PrunedList → List PrunedList
put_parts [] ready = ready
put_parts (x ∷ xs) ready = put_parts xs (put_part x.0 x.1 ready)

abbrev pub first_list : List PrunedList → PrunedList
first_list [] = absent
first_list (p ∷ ready) = p

put_back : (p : PrunedList) (rest : List Part) (ready : List PrunedList)
    → put_parts (parts_of p ++ rest) ready ≡ put_parts rest (p ∷ ready)
put_back absent rest ready = refl
put_back (hidden x) rest ready = refl
put_back (node e l r) rest ready =
    ap (λ (xs : List Part). put_parts xs ready) (append_assoc (parts_of l)
    (parts_of r ++ (2, e.user ∷ (e.role ∷ (e.next ∷ []))) ∷ []) rest)
    ∙ put_back l ((parts_of r ++ (2, e.user ∷ (e.role ∷ (e.next ∷ []))) ∷ []) ++ rest) ready
    ∙ ap (λ (xs : List Part). put_parts xs (l ∷ ready)) (append_assoc (parts_of r)
    ((2, e.user ∷ (e.role ∷ (e.next ∷ []))) ∷ []) rest)
    ∙ put_back r ((2, e.user ∷ (e.role ∷ (e.next ∷ []))) ∷ rest) (l ∷ ready)

abbrev pub list_back : List Part → PrunedList
list_back parts = first_list (put_parts parts [])

pub list_is_back : (p : PrunedList) → list_back (parts_of p) ≡ p
list_is_back p =
    ap (λ (xs : List Part). list_back xs) (sym (append-nil (parts_of p)))
    ∙ ap (λ (ready : List PrunedList). first_list ready) (put_back p [] [])

abbrev pub list_code : Coded PrunedList
list_code = code_by (List Part) (coded_list (coded× coded_ℕ (coded_list coded_ℕ))) parts_of list_back list_is_back

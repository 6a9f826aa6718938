-- The entry of greatest priority of a set: a member above whom nobody is.
use Rattle.std.proofs.Common.{◌≡◌, ◌≢◌, ℕ, Bool, true, false, cond, List, [], ◌∷◌, ◌++◌, Some, None, refl, ap, sym, subst, ◌∙◌, inl, inr}
use Rattle.std.specs.Prelude.{◌↔◌, filter}
use Rattle.std.specs.List.{AllByRecursion}
use Rattle.std.proofs.lemmas.Bool.{cases_Bool}
use Rattle.tree_model.specs.declared.entry.Entry.{Entry}
use Rattle.tree_model.specs.AccessList.{IsRising, IsTop, is_above, greatest, top_of}
use Rattle.tree_model.proofs.AccessLists.{Among, greatest-among}
use Rattle.tree_model.proofs.ListChanges.{All-filter, rising-filter}
use Rattle.tree_model.proofs.Members.{All-among, All-from_among, among-contains, among-filter, among-user, contains-among}
use Rattle.tree_model.proofs.Priorities.{above-self, above-trans, above-total}

pub above-asym : (a b : ℕ) → is_above a b ≡ true → is_above b a ≡ false
above-asym a b ab = elim (cases_Bool (is_above b a)) [
  | inl ba ↦ let self = above-trans a b a ab ba in let never = above-self a in absurd cc
  | inr not_so ↦ not_so
]

-- none of the entries has a greater priority than the user
abbrev pub NoneAbove : ℕ → List Entry → Type 0
NoneAbove user es = AllByRecursion (λ (x : Entry). is_above x.user user ≡ false) es

pub below-still : (a b c : ℕ) → is_above b a ≡ true → is_above b c ≡ false → is_above a c ≡ false
below-still a b c ba no_bc = elim (cases_Bool (is_above a c)) [
  | inl ac ↦ let bc = above-trans b a c ba ac in absurd cc
  | inr not_so ↦ not_so
]

pub greatest-most : (best : Entry) (es : List Entry) → NoneAbove (greatest best es).user (best ∷ es)
unfolding greatest
greatest-most best [] = (above-self best.user, tt)
greatest-most best (e ∷ es) =
    elim (cases_Bool (is_above e.user best.user)) [
      | inl above ↦
          let others : NoneAbove (greatest e es).user (e ∷ es) = greatest-most e es in
          let step : greatest best (e ∷ es) ≡ greatest e es = rw above refl in
          let all : NoneAbove (greatest e es).user (best ∷ (e ∷ es)) = (below-still best.user e.user (greatest e es).user above others.0, others) in
          subst (λ (x : Entry). NoneAbove x.user (best ∷ (e ∷ es))) (sym step) all
      | inr not_above ↦
          let others : NoneAbove (greatest best es).user (best ∷ es) = greatest-most best es in
          let step : greatest best (e ∷ es) ≡ greatest best es = rw not_above refl in
          let here : is_above e.user (greatest best es).user ≡ false = elim (above-total e.user best.user) [
            | inl same ↦ rw same others.0
            | inr (inl above) ↦ absurd cc
            | inr (inr below) ↦ below-still e.user best.user (greatest best es).user below others.0
          ] in
          let all : NoneAbove (greatest best es).user (best ∷ (e ∷ es)) = (others.0, (here, others.1)) in
          subst (λ (x : Entry). NoneAbove x.user (best ∷ (e ∷ es))) (sym step) all
    ]

pub above-other : (a b : ℕ) → a ≢ b → is_above a b ≡ false → is_above b a ≡ true
above-other a b apart no_ab = elim (above-total a b) [
  | inl same ↦ absurd (apart same)
  | inr (inl ab) ↦ absurd cc
  | inr (inr ba) ↦ ba
]

-- ---- the top of a set

pub top-among : (es : List Entry) (t : Entry) → top_of es ≡ Some t → Among t es
unfolding top_of
top-among [] t top = absurd cc
top-among (e ∷ es) t top = let same : greatest e es ≡ t = cc in subst (λ (x : Entry). Among x (e ∷ es)) same (greatest-among e es)

pub top-none_above : (es : List Entry) (t : Entry) → top_of es ≡ Some t → NoneAbove t.user es
unfolding top_of
top-none_above [] t top = absurd cc
top-none_above (e ∷ es) t top = let same : greatest e es ≡ t = cc in subst (λ (x : Entry). NoneAbove x.user (e ∷ es)) same (greatest-most e es)

pub top-is : (es : List Entry) (t : Entry) → IsRising es → Among t es → NoneAbove t.user es → top_of es ≡ Some t
unfolding top_of
top-is [] t h among none = absurd among
top-is (e ∷ es) t h among none =
    let top = greatest e es in
    let inside = greatest-among e es in
    let above_t = All-among (λ (x : Entry). is_above x.user t.user ≡ false) (e ∷ es) top none inside in
    let above_top = All-among (λ (x : Entry). is_above x.user top.user ≡ false) (e ∷ es) t (greatest-most e es) among in
    elim (above-total top.user t.user) [
      | inl same ↦ ap (λ (x : Entry). Some x) (among-user (e ∷ es) top t h inside among same)
      | inr (inl above) ↦ absurd cc
      | inr (inr below) ↦ absurd cc
    ]

-- An entry is the top exactly where it is a member and nobody is above it.
pub top-exactly : (es : List Entry) (t : Entry) → IsRising es → (top_of es ≡ Some t) ↔ IsTop es t
top-exactly es t h = (
  λ top. (among-contains es t (top-among es t top), λ x inside. All-among (λ (y : Entry). is_above y.user t.user ≡ false) es x (top-none_above es t top) (contains-among es x inside)),
  λ is. top-is es t h (contains-among es t is.0) (All-from_among (λ (y : Entry). is_above y.user t.user ≡ false) es (λ x among. is.1 x (among-contains es x among))),
)

pub top-none : (es : List Entry) → top_of es ≡ None → es ≡ []
unfolding top_of
top-none [] none = refl
top-none (e ∷ es) none = absurd cc

-- ---- the top of parts

-- It is the top of each part that has it.
pub top-filter : (p : Entry → Bool) (es : List Entry) (t : Entry) → IsRising es → top_of es ≡ Some t → p t ≡ true
    → top_of (filter p es) ≡ Some t
top-filter p es t h top passes =
    top-is (filter p es) t (rising-filter p es h) (among-filter p es t (top-among es t top) passes) (All-filter (λ (x : Entry). is_above x.user t.user ≡ false) p es (top-none_above es t top))

not_above : (a b c : ℕ) → is_above b c ≡ false → is_above a b ≡ false → is_above a c ≡ false
not_above a b c no_bc no_ab = elim (above-total a b) [
  | inl same ↦ rw same no_bc
  | inr (inl ab) ↦ absurd cc
  | inr (inr ba) ↦ below-still a b c ba no_bc
]

-- the greater of two entries
abbrev pub higher : Entry → Entry → Entry
higher best e = cond (is_above e.user best.user) e best

higher-higher : (s y t : Entry) → higher (higher s y) t ≡ higher s (higher y t)
higher-higher s y t = elim (cases_Bool (is_above t.user y.user)) [
  | inl ty ↦ elim (cases_Bool (is_above y.user s.user)) [
    | inl ys ↦ rw (ty, ys) (rw (ty, above-trans t.user y.user s.user ty ys) refl)
    | inr no_ys ↦ rw (ty, no_ys) refl
  ]
  | inr no_ty ↦ elim (cases_Bool (is_above y.user s.user)) [
    | inl ys ↦ rw (no_ty, ys) (rw no_ty refl)
    | inr no_ys ↦ rw (no_ty, no_ys) (rw (not_above t.user y.user s.user no_ys no_ty) refl)
  ]
]

pub greatest-higher : (s y : Entry) (ys : List Entry) → greatest s (y ∷ ys) ≡ higher s (greatest y ys)
unfolding greatest
greatest-higher s y [] = refl
greatest-higher s y (z ∷ zs) =
    let left : greatest s (y ∷ (z ∷ zs)) ≡ higher (higher s y) (greatest z zs) = greatest-higher (higher s y) z zs in
    let right : greatest y (z ∷ zs) ≡ higher y (greatest z zs) = greatest-higher y z zs in
    left ∙ higher-higher s y (greatest z zs) ∙ ap (higher s) (sym right)

greatest-append : (x : Entry) (xs ys : List Entry) → greatest x (xs ++ ys) ≡ greatest (greatest x xs) ys
unfolding greatest
greatest-append x [] ys = refl
greatest-append x (z ∷ zs) ys = greatest-append (higher x z) zs ys

-- The top of two lists in a row is the greater of their tops.
pub top-append : (xs ys : List Entry) (s t : Entry) → top_of xs ≡ Some s → top_of ys ≡ Some t
    → top_of (xs ++ ys) ≡ Some (cond (is_above t.user s.user) t s)
unfolding top_of
top-append [] ys s t left right = absurd cc
top-append (x ∷ xs) [] s t left right = absurd cc
top-append (x ∷ xs) (y ∷ ys) s t left right =
    let first : greatest x xs ≡ s = cc in
    let second : greatest y ys ≡ t = cc in
    ap (λ (e : Entry). Some e) (greatest-append x xs (y ∷ ys) ∙ ap (λ (e : Entry). greatest e (y ∷ ys)) first ∙ greatest-higher s y ys ∙ ap (higher s) second)

-- Members of a list by their users.
use Rattle.std.proofs.Common.{◌≡◌, ◌≢◌, ◌∙◌, ℕ, ◌+◌, ◌≤◌, Bool, cond, List, [], ◌∷◌, ◌++◌, length, length-append, map, refl, sym, ap, subst, append_assoc, inl, inr, eq-eqb, ne_eqb, arith}
use Rattle.std.specs.Prelude.{nat_eq}
use Rattle.std.proofs.lemmas.Bool.{cases_eq}
use Rattle.std.proofs.lemmas.List.{append-nil, map-append}
use Rattle.run_phases.specs.Members.{Member, member_at, times, users_of}
use Rattle.run_phases.specs.Phases.{Moved}

-- ---- how often a user is among some

pub times-append : (user : ℕ) (xs ys : List ℕ) → times user (xs ++ ys) ≡ times user xs + times user ys
times-append user [] ys = omega arith
times-append user (x ∷ xs) ys = let e = times-append user xs ys in omega arith

pub times-here : (user x : ℕ) → x ≡ user → times user (x ∷ []) ≡ 1
times-here user x is = ap (λ (b : Bool). cond b 1 0 + 0) (eq-eqb x user is)

pub times-other : (user x : ℕ) → x ≢ user → times user (x ∷ []) ≡ 0
times-other user x ne = ap (λ (b : Bool). cond b 1 0 + 0) (ne_eqb x user ne)

pub times-more : (user x : ℕ) (xs : List ℕ) → times user (x ∷ xs) ≡ times user (x ∷ []) + times user xs
times-more user x xs = omega arith

-- the head isn't the user, and the rest has it no more
pub none-ahead : (user x : ℕ) (xs : List ℕ) → times user (x ∷ xs) ≡ 0 → (x ≢ user) × (times user xs ≡ 0)
none-ahead user x xs none =
    let sum = times-more user x xs in (
      λ is. let one = times-here user x is in absurd (omega arith),
      omega arith,
    )

-- how often a user is among these members
pub tally : ℕ → List Member → ℕ
tally user ms = times user (users_of ms)

pub tally-append : (user : ℕ) (xs ys : List Member)
    → times user (users_of (xs ++ ys)) ≡ times user (users_of xs) + times user (users_of ys)
tally-append user xs ys =
    ap (times user) (map-append (λ (m : Member). m.user) xs ys) ∙ times-append user (users_of xs) (users_of ys)

pub tally-more : (user : ℕ) (xs : List Member) (m : Member) (ys : List Member)
    → times user (users_of (xs ++ m ∷ ys))
    ≡ times user (users_of xs) + times user (m.user ∷ []) + times user (users_of ys)
tally-more user xs m ys =
    let e = tally-append user xs (m ∷ ys) in
    let f = times-more user m.user (users_of ys) in
    omega arith

-- ---- the member of a user

pub at-other : (user : ℕ) (m : Member) (xs ys : List Member) → m.user ≢ user
    → member_at user (xs ++ m ∷ ys) ≡ member_at user (xs ++ ys)
at-other user m [] ys ne = ap (λ (b : Bool). cond b m (member_at user ys)) (ne_eqb m.user user ne)
at-other user m (x ∷ xs) ys ne = ap (λ (r : Member). cond (nat_eq x.user user) x r) (at-other user m xs ys ne)

pub at-here : (user : ℕ) (m : Member) (xs ys : List Member) → times user (users_of xs) ≡ 0 → m.user ≡ user
    → member_at user (xs ++ m ∷ ys) ≡ m
at-here user m [] ys none is = ap (λ (b : Bool). cond b m (member_at user ys)) (eq-eqb m.user user is)
at-here user m (x ∷ xs) ys none is =
    let ahead = none-ahead user x.user (users_of xs) none in
    ap (λ (b : Bool). cond b x (member_at user (xs ++ m ∷ ys))) (ne_eqb x.user user ahead.0)
    ∙ at-here user m xs ys ahead.1 is

-- ---- members that went away

pub moved-nothing : (ms : List Member) → Moved ms ms []
moved-nothing ms = record {
  same = λ user. ap (member_at user) (sym (append-nil ms));
  counted = λ user. ap (λ (l : List Member). times user (users_of l)) (sym (append-nil ms));
  many = omega arith;
}

pub moved-more : (before front back gone : List Member) (m : Member)
    → ((user : ℕ) → times user (users_of before) ≤ 1) → Moved before (front ++ m ∷ back) gone
    → Moved before (front ++ back) (gone ++ m ∷ [])
moved-more before front back gone m once p = record {
  same = λ user. elim (cases_eq m.user user) [
    | inl is ↦
        let none = alone-front user in
        let rest = alone-rest user in
        p.same user ∙ ap (member_at user) left ∙ at-here user m front (back ++ gone) (none is) is
        ∙ sym (ap (member_at user) right ∙ at-here user m ((front ++ back) ++ gone) [] (rest is) is)
    | inr ne ↦
        p.same user ∙ ap (member_at user) left ∙ at-other user m front (back ++ gone) ne
        ∙ ap (member_at user) (sym (append_assoc front back gone))
        ∙ sym (ap (member_at user) right ∙ at-other user m ((front ++ back) ++ gone) [] ne
        ∙ ap (member_at user) (append-nil ((front ++ back) ++ gone)))
  ];
  counted = λ user. omega (p.counted user, whole user, parts user, arith);
  many =
      omega (p.many, length-append front (m ∷ back), length-append front back, length-append gone (m ∷ []), arith);
}
  where
    left : (front ++ m ∷ back) ++ gone ≡ front ++ m ∷ (back ++ gone)
    left = append_assoc front (m ∷ back) gone

    right : (front ++ back) ++ (gone ++ m ∷ []) ≡ ((front ++ back) ++ gone) ++ m ∷ []
    right = sym (append_assoc (front ++ back) gone (m ∷ []))

    whole : (user : ℕ) → times user (users_of ((front ++ m ∷ back) ++ gone))
        ≡ times user (users_of front) + times user (m.user ∷ []) + times user (users_of back)
        + times user (users_of gone)
    whole user = omega (tally-append user (front ++ m ∷ back) gone, tally-more user front m back, arith)

    parts : (user : ℕ) → times user (users_of ((front ++ back) ++ (gone ++ m ∷ [])))
        ≡ times user (users_of front) + times user (users_of back) + times user (users_of gone)
        + times user (m.user ∷ [])
    parts user = omega (
      tally-append user (front ++ back) (gone ++ m ∷ []),
      tally-append user front back,
      tally-append user gone (m ∷ []),
      arith,
    )

    alone-front : (user : ℕ) → m.user ≡ user → times user (users_of front) ≡ 0
    alone-front user is = omega (p.counted user, once user, times-here user m.user is, whole user, arith)

    alone-rest : (user : ℕ) → m.user ≡ user → times user (users_of ((front ++ back) ++ gone)) ≡ 0
    alone-rest user is = omega (
      p.counted user,
      once user,
      times-here user m.user is,
      whole user,
      tally-append user (front ++ back) gone,
      tally-append user front back,
      arith,
    )

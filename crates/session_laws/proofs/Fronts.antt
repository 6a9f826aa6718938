-- Fronts of one history that grow phase by phase, and the history that they lead to.
use Rattle.std.proofs.Common.{◌≡◌, ◌∙◌, ◌⊎◌, ℕ, zero, suc, ◌<◌, List, [], ◌∷◌, ◌++◌, length, get_or, refl, sym, ap, subst, append_assoc, inl, inr, arith}
use Rattle.std.specs.List.{AllByRecursion, Contains}
use Rattle.std.proofs.lemmas.List.{append-nil, append_cancel_left}
use Rattle.fr_bytes.specs.History.{Begins, own}
use Rattle.fr_bytes.proofs.HistoryLaws.{begins_itself, begins_then, own-append, own_none}
use Rattle.fr_bytes.proofs.HistoryLaws as histories
use Rattle.std.proofs.lemmas.List.Elements.{All-from_recursion}
use Rattle.hall_core.specs.declared.ask.Called.{Called}
use Rattle.hall_core.specs.Calls.{caller_of}
use Rattle.session_laws.specs.Histories.{ClosedFronts, IsUser, PhaseFronts, Together}

-- ---- two fronts of one list

comparable-by : {E : Type 0} (xs ys zs : List E) (a b : List E) → zs ≡ xs ++ a → zs ≡ ys ++ b
    → Begins xs ys ⊎ Begins ys xs
comparable-by [] ys zs a b e f = inl (record { more = ys; whole = refl })
comparable-by (x ∷ xs) [] zs a b e f = inr (record { more = x ∷ xs; whole = refl })
comparable-by (x ∷ xs) (y ∷ ys) [] a b e f = absurd cc
comparable-by (x ∷ xs) (y ∷ ys) (z ∷ zs) a b e f =
    let first : x ≡ y = cc in
    let ex : zs ≡ xs ++ a = cc in
    let fy : zs ≡ ys ++ b = cc in
    elim (comparable-by xs ys zs a b ex fy) [
      | inl p ↦ inl (record { more = p.more; whole = λ i. sym first i ∷ p.whole i })
      | inr p ↦ inr (record { more = p.more; whole = λ i. first i ∷ p.whole i })
    ]

comparable : {E : Type 0} (xs ys zs : List E) → Begins xs zs → Begins ys zs → Begins xs ys ⊎ Begins ys xs
comparable xs ys zs p q = comparable-by xs ys zs p.more q.more p.whole q.whole

-- ---- the longest of some fronts

pub record Peak {E : Type 0} (users : List ℕ) (g : ℕ → List E) : Type 0 where
  pub at : ℕ
  pub listed : IsUser users at
  pub most : (user : ℕ) → IsUser users user → Begins (g user) (g at)

peak-more : {E : Type 0} (u : ℕ) (users : List ℕ) (g : ℕ → List E) (p : Peak users g)
    → Begins (g u) (g p.at) ⊎ Begins (g p.at) (g u) → Peak (u ∷ users) g
peak-more {E = E} u users g p (inl le) = record {
  at = p.at;
  listed = inr p.listed;
  most = λ v c. elim c [
    | inl is ↦ subst (λ (w : ℕ). Begins (g w) (g p.at)) is le
    | inr c' ↦ p.most v c'
  ];
}
peak-more {E = E} u users g p (inr le) = record {
  at = u;
  listed = inl refl;
  most = λ v c. elim c [
    | inl is ↦ subst (λ (w : ℕ). Begins (g w) (g u)) is (begins_itself (g u))
    | inr c' ↦ begins_then (g v) (g p.at) (g u) (p.most v c') le
  ];
}

peak : {E : Type 0} (u : ℕ) (users : List ℕ) (g : ℕ → List E) (all : List E)
    → ((v : ℕ) → IsUser (u ∷ users) v → Begins (g v) all) → Peak (u ∷ users) g
peak u [] g all each = record {
  at = u;
  listed = inl refl;
  most = λ v c. elim c [
    | inl is ↦ subst (λ (w : ℕ). Begins (g w) (g u)) is (begins_itself (g u))
    | inr none ↦ absurd none
  ];
}
peak u (v ∷ users) g all each =
    let p = peak v users g all (λ w c. each w (inr c)) in
    peak-more u (v ∷ users) g p (comparable (g u) (g p.at) all (each u (inl refl)) (each p.at (inr p.listed)))

-- ---- one phase more

front-none : {A : Type 0} (xs ys : List A) → xs ++ ys ≡ [] → xs ≡ []
front-none [] ys e = refl
front-none (x ∷ xs) ys e = absurd cc

-- a list between two fronts has the caller's entries that both have
between : (caller : ℕ) (xs ys zs : List Called) → Begins xs ys → Begins ys zs
    → own caller_of caller zs ≡ own caller_of caller xs → own caller_of caller ys ≡ own caller_of caller xs
between caller xs ys zs p q same =
    let all : zs ≡ xs ++ (p.more ++ q.more) =
    q.whole ∙ ap (λ (l : List Called). l ++ q.more) p.whole ∙ append_assoc xs p.more q.more in
    let none : own caller_of caller (p.more ++ q.more) ≡ [] =
    own_none caller_of caller xs (p.more ++ q.more) (ap (own caller_of caller) (sym all) ∙ same) in
    let parts : own caller_of caller p.more ++ own caller_of caller q.more ≡ [] =
    sym (own-append caller_of caller p.more q.more) ∙ none in
    ap (own caller_of caller) p.whole ∙ own-append caller_of caller xs p.more
    ∙ ap (λ (l : List Called). own caller_of caller xs ++ l) (front-none (own caller_of caller p.more) (own caller_of caller q.more) parts)
    ∙ append-nil (own caller_of caller xs)

-- what a phase adds to the history
pub record OneStretch (users : List ℕ) (history : List Called) (met : ℕ → List Called) (news : ℕ → List Called) : Type 0 where
  pub stretch : List Called
  pub together : Together users met (history ++ stretch)
  pub own_news : (user : ℕ) → IsUser users user → own caller_of user stretch ≡ news user

pub one-stretch : (u : ℕ) (users : List ℕ) (before lanes met news : ℕ → List Called) (history : List Called)
    → Together (u ∷ users) before history → PhaseFronts (u ∷ users) before lanes met news
    → OneStretch (u ∷ users) history met news
one-stretch u users before lanes met news history t p =
    let k = peak u users lanes (met u) (λ v c. p.told u v (inl refl) c) in
    let top = lanes k.at in
    let grown : Begins history top =
    begins_then history (before k.at) top (t.begins k.at k.listed) (p.begins k.at k.listed) in
    let same = λ (v : ℕ) (c : IsUser (u ∷ users) v).
    let e : own caller_of v top ≡ own caller_of v (lanes v) =
    between v (lanes v) top (met v) (k.most v c) (p.told v k.at c k.listed) (p.mine v c) in e in
    record {
      stretch = grown.more;
      together = record {
        begins = λ v c. subst (λ (l : List Called). Begins l (met v)) grown.whole (p.told v k.at c k.listed);
        mine = λ v c. ap (own caller_of v) (sym grown.whole) ∙ same v c ∙ sym (p.mine v c);
      };
      own_news = λ v c.
          append_cancel_left (own caller_of v history) (own caller_of v grown.more) (news v)
          (sym (own-append caller_of v history grown.more) ∙ ap (own caller_of v) (sym grown.whole) ∙ same v c
          ∙ p.own_news v c ∙ ap (λ (l : List Called). l ++ news v) (sym (t.mine v c)));
    }

-- ---- the end

contains-user : (users : List ℕ) (u k : ℕ) → k < length users → get_or users k u ≡ u → IsUser users u
contains-user [] u k lt e = absurd (omega arith)
contains-user (v ∷ users) u zero lt e = inl e
contains-user (v ∷ users) u (suc k) lt e = inr (contains-user users u k (omega arith) e)

user-contains : (users : List ℕ) (u : ℕ) → IsUser users u → Contains users u
user-contains [] u c = absurd c
user-contains (v ∷ users) u (inl e) = (0, omega arith, e)
user-contains (v ∷ users) u (inr c) =
    let more = user-contains users u c in
    (suc more.0, omega (arith, more.1), more.2)

known-callers : (users : List ℕ) (calls : List Called) → AllByRecursion (λ (call : Called). IsUser users call.caller) calls
    → AllByRecursion (λ (call : Called). Contains users (caller_of call)) calls
known-callers users [] all = tt
known-callers users (call ∷ calls) all = (user-contains users call.caller all.0, known-callers users calls all.1)

-- the entries of the closed gate are the history
pub closed-is-last : (u : ℕ) (users : List ℕ) (front : ℕ → List Called) (history entries : List Called)
    → Together (u ∷ users) front history → ClosedFronts (u ∷ users) front entries → entries ≡ history
closed-is-last u users front history entries t closed =
    histories.whole caller_of (u ∷ users) history entries
    (begins_then history (front u) entries (t.begins u (inl refl)) (closed.begins u (inl refl)))
    (λ v c.
    let listed = contains-user (u ∷ users) v c.0 c.1 c.2 in
    closed.mine v listed ∙ sym (t.mine v listed))
    (All-from_recursion (λ (call : Called). Contains (u ∷ users) (caller_of call)) entries
    (known-callers (u ∷ users) entries closed.callers))

-- Slots of a key tree: who has none, and how many are held.
use Rattle.std.proofs.Common.{◌≡◌, ◌∙◌, inl, inr, ℕ, zero, suc, ◌+◌, ◌<◌, ◌≤◌, ◌^◌, Bool, true, false, ◌&&◌, cond, List, [], ◌∷◌, Option, Some, None, is_none, refl, sym, ap, arith, eq-eqb, ne_eqb}
use Rattle.std.specs.Prelude.{◌↔◌, nat_lt}
use Rattle.std.proofs.lemmas.Bool.{cases_Bool, cases_eq, cases_lt, eqb-true, false≢true, ltb-true}
use Rattle.fr_bytes.specs.Bytes.{Text}
use Rattle.key_graph.specs.declared.change.Change.{Change}
use Rattle.key_graph.specs.declared.change.Member.{Member}
use Rattle.key_graph.specs.declared.change.KeyChange.TheVariants.{Admit, Remove}
use Rattle.key_graph.specs.Slots.{least_below}
use Rattle.key_graph.specs.KeyTree.{fits, free_slot, holder, holder_after, is_held, slot_of}
use Rattle.key_graph.specs.Reach.{HasSlot, IsMember}
use Rattle.key_graph.proofs.Law.{and_left, and_right}
use Rattle.key_graph.proofs.Runs.{least_fact}

-- ---- searches

none-step : (test : ℕ → Bool) (n : ℕ) (o : Option ℕ) → least_below test n ≡ o → (b : Bool) → test n ≡ b
    → least_below test (suc n) ≡ None → (o ≡ None) × (b ≡ false)
none-step test n (Some j) h b t e = let f : Some j ≡ None = rw h at e in absurd cc
none-step test n None h true t e = let f : Some n ≡ None = rw (h, t) at e in absurd cc
none-step test n None h false t e = (refl, refl)

none-before : (test : ℕ → Bool) (n : ℕ) → least_below test (suc n) ≡ None
    → (least_below test n ≡ None) × (test n ≡ false)
none-before test n e = none-step test n (least_below test n) refl (test n) refl e

-- where none is found, each fails
pub each-fails : (test : ℕ → Bool) (n i : ℕ) → least_below test n ≡ None → i < n → test i ≡ false
each-fails test zero i e less = absurd (omega (arith, less))
each-fails test (suc n) i e less =
    let both = none-before test n e in
    elim (cases_lt i n) [
      | inl below ↦ each-fails test n i both.0 below
      | inr past ↦ (let same : i ≡ n = omega arith in ap test same ∙ both.1)
    ]

none-found : (test : ℕ → Bool) (n : ℕ) (o : Option ℕ) → least_below test n ≡ o
    → ((i : ℕ) → i < n → test i ≡ true → ⊥) → o ≡ None
none-found test n None e none = refl
none-found test n (Some i) e none = let found = least_fact test n i e in absurd (none i found.0 found.1)

-- ---- who has no slot

pub no-slot-of : (t : ℕ) (cs : List Change) (u : ℕ) → slot_of t cs u ≡ None ↔ (IsMember t cs u → ⊥)
no-slot-of t cs u =
    let test : ℕ → Bool = λ s. is_held (Some u) (holder cs s) in (
      λ none member. absurd (false≢true (sym (each-fails test (2 ^ t) member.0 none member.1.within) ∙ member.1.held)),
      λ no. none-found test (2 ^ t) (slot_of t cs u) refl
          (λ s within held. no (s, record { within = within; held = held })),
    )

-- ---- how many are held

abbrev pub weight : Option Member → ℕ
weight m = cond (is_held None m) 0 1

-- of the slots below n
abbrev pub held : List Change → ℕ → ℕ
held cs zero = 0
held cs (suc n) = held cs n + weight (holder cs n)

weight-most : (m : Option Member) → weight m ≤ 1
weight-most None = omega arith
weight-most (Some member) = omega arith

held-most : (cs : List Change) (n : ℕ) → held cs n ≤ n
held-most cs zero = omega arith
held-most cs (suc n) = let rest = held-most cs n in let one = weight-most (holder cs n) in omega arith

all-held : (cs : List Change) (n : ℕ) → least_below (λ s. is_held None (holder cs s)) n ≡ None → held cs n ≡ n
all-held cs zero none = refl
all-held cs (suc n) none =
    let both = none-before (λ s. is_held None (holder cs s)) n none in
    let rest = all-held cs n both.0 in
    let one : weight (holder cs n) ≡ 1 = rw both.1 refl in omega arith

held-all : (cs : List Change) (n : ℕ) → held cs n ≡ n → least_below (λ s. is_held None (holder cs s)) n ≡ None
held-all cs zero all = refl
held-all cs (suc n) all =
    let most = held-most cs n in
    let one = weight-most (holder cs n) in
    let here : weight (holder cs n) ≡ 1 = omega arith in
    let none = held-all cs n (omega arith) in
    elim (cases_Bool (is_held None (holder cs n))) [
      | inl free ↦ (let no : weight (holder cs n) ≡ 0 = rw free refl in absurd (omega arith))
      | inr taken ↦ rw (none, taken) refl
    ]

-- no slot is free where as many are held as there are
pub full-of : (t : ℕ) (cs : List Change) → free_slot t cs ≡ None ↔ (held cs (2 ^ t) ≡ 2 ^ t)
full-of t cs = (all-held cs (2 ^ t), held-all cs (2 ^ t))

pub held-nil : (n : ℕ) → held [] n ≡ 0
held-nil zero = refl
held-nil (suc n) = let rest = held-nil n in omega arith

-- ---- after one more change

pub holder-here : (c : Change) (cs : List Change) (s : ℕ) → c.slot ≡ s → holder (c ∷ cs) s ≡ holder_after c.what
holder-here c cs s e = rw (eq-eqb c.slot s e) refl

pub holder-there : (c : Change) (cs : List Change) (s : ℕ) → (c.slot ≡ s → ⊥) → holder (c ∷ cs) s ≡ holder cs s
holder-there c cs s other = rw (ne_eqb c.slot s other) refl

held-below : (c : Change) (cs : List Change) (n : ℕ) → n ≤ c.slot → held (c ∷ cs) n ≡ held cs n
held-below c cs zero le = refl
held-below c cs (suc n) le =
    let rest = held-below c cs n (omega arith) in
    let here : weight (holder (c ∷ cs) n) ≡ weight (holder cs n) =
    ap weight (holder-there c cs n (λ e. omega arith)) in
    omega arith

-- the holder of the change's slot makes way for the next one
pub held-after : (c : Change) (cs : List Change) (n : ℕ) → c.slot < n
    → held (c ∷ cs) n + weight (holder cs c.slot) ≡ held cs n + weight (holder_after c.what)
held-after c cs zero less = absurd (omega arith)
held-after c cs (suc n) less = elim (cases_eq c.slot n) [
  | inl same ↦
      let rest = held-below c cs n (omega arith) in
      let new : weight (holder (c ∷ cs) n) ≡ weight (holder_after c.what) = ap weight (holder-here c cs n same) in
      let old : weight (holder cs c.slot) ≡ weight (holder cs n) = ap (λ (s : ℕ). weight (holder cs s)) same in
      omega arith
  | inr other ↦
      let rest = held-after c cs n (omega arith) in
      let here : weight (holder (c ∷ cs) n) ≡ weight (holder cs n) = ap weight (holder-there c cs n other) in
      omega arith
]

-- ---- what a change that fits tells

pub record Admitting (t : ℕ) (cs : List Change) (slot u : ℕ) : Type 0 where
  pub within : slot < 2 ^ t
  pub free : is_held None (holder cs slot) ≡ true
  pub no_slot : slot_of t cs u ≡ None

is-none-none : (o : Option ℕ) → is_none o ≡ true → o ≡ None
is-none-none None e = refl
is-none-none (Some x) e = absurd cc

pub admitting : (t : ℕ) (cs : List Change) (slot u : ℕ) (key : Text) → fits t cs slot (Admit u key) ≡ true
    → Admitting t cs slot u
admitting t cs slot u key fit =
    let none = is_none (slot_of t cs u) in
    let inside = nat_lt slot (2 ^ t) in
    let free = is_held None (holder cs slot) in
    let rest = and_right none (inside && free) fit in
    record {
      within = ltb-true slot (2 ^ t) (and_left inside free rest);
      free = and_right inside free rest;
      no_slot = is-none-none (slot_of t cs u) (and_left none (inside && free) fit);
    }

pub removing : (t : ℕ) (cs : List Change) (slot u : ℕ) → fits t cs slot (Remove u) ≡ true → HasSlot t cs u slot
removing t cs slot u fit = record {
  within = ltb-true slot (2 ^ t) (and_left (nat_lt slot (2 ^ t)) (is_held (Some u) (holder cs slot)) fit);
  held = and_right (nat_lt slot (2 ^ t)) (is_held (Some u) (holder cs slot)) fit;
}

-- ---- whose a slot is

pub not-free : (m : Option Member) (u : ℕ) → is_held (Some u) m ≡ true → is_held None m ≡ true → ⊥
not-free None u held free = absurd cc
not-free (Some member) u held free = absurd cc

pub one-holder : (m : Option Member) (u v : ℕ) → is_held (Some u) m ≡ true → is_held (Some v) m ≡ true → u ≡ v
one-holder None u v a b = absurd cc
one-holder (Some member) u v a b = sym (eqb-true member.user u a) ∙ eqb-true member.user v b

pub weight-free : (m : Option Member) → is_held None m ≡ true → weight m ≡ 0
weight-free m free = rw free refl

pub weight-held : (m : Option Member) (u : ℕ) → is_held (Some u) m ≡ true → weight m ≡ 1
weight-held None u held = absurd cc
weight-held (Some member) u held = refl

-- The changes of a wall rise, since its owner alone makes them.
use Rattle.std.proofs.Common.{◌≡◌, ◌≢◌, ◌∙◌, inl, inr, ℕ, ◌+◌, ◌<◌, ◌≤◌, Bool, true, false, not, ◌||◌, List, [], ◌∷◌, Option, Some, None, Ok, refl, sym, subst, arith}
use Rattle.std.proofs.lemmas.Bool.{cases_eq, eqb-true, false≢true}
use Rattle.op_types.specs.declared.kind.Kind.{Kind}
use Rattle.op_types.specs.declared.kind.Kind.TheVariants as kinds
use Rattle.op_types.specs.declared.kind.Wrap.{Wrap}
use Rattle.op_types.specs.declared.roles.TheConstants.{OWNER}
use Rattle.op_types.specs.Kinds.{is_change}
use Rattle.tree_model.specs.declared.entry.Entry.{Entry}
use Rattle.tree_model.specs.AccessList.{FitsChange, ListChange, stays, adds, drops, changed_set, entry_of, with_next, without}
use Rattle.tree_model.proofs.LookUps.{with_next-other, with_entry-other, without-own, without-other}
use Rattle.wall_law.specs.State.{HasOwner, IsOnlyOwner}
use Rattle.wall_law.specs.Law.{is_bad_change, is_owner, next_of}
use Rattle.key_graph.specs.declared.change.Change.{Change}
use Rattle.key_graph.specs.declared.change.KeyChange.{KeyChange}
use Rattle.key_graph.specs.declared.change.Setting.{Setting}
use Rattle.key_graph.specs.KeyTree.{planned}
use Rattle.key_graph.specs.Reach.{Event, IsPlanned, IsRun, Rises, follow, plan, tree_of}
use Rattle.key_graph.proofs.Runs.{all_fit}
use Rattle.key_graph.proofs.Streams.{planned_is}
use Rattle.run_laws.proofs.Names.{own-next}

-- ---- who makes changes

neither : (a b : Bool) → (not a || not b) ≡ false → a ≡ true
neither true b e = refl
neither false b e = absurd cc

owner-found : (found : Option Entry) → is_owner found ≡ true → (e : Entry) × (found ≡ Some e) × (e.role ≡ OWNER)
owner-found None is = absurd cc
owner-found (Some e) is = (e, refl, eqb-true e.role OWNER is)

-- only the owner's changes stand
pub by-owner : (owner author : ℕ) (es : List Entry) (changed : Option Entry) (kind : Kind) → IsOnlyOwner owner es
    → is_bad_change (entry_of es author) changed kind ≡ false
    → is_change kind ≡ true
    → author ≡ owner
by-owner owner author es changed (kinds.Post body) alone good is = absurd (false≢true is)
by-owner owner author es changed (kinds.Admit user role slot wraps) alone good is =
    let found = owner-found (entry_of es author) (neither (is_owner (entry_of es author)) _ good) in
    alone author found.0 found.1 found.2
by-owner owner author es changed (kinds.Remove user slot wraps) alone good is =
    let found = owner-found (entry_of es author) (neither (is_owner (entry_of es author)) _ good) in
    alone author found.0 found.1 found.2

-- ---- the owner's next number

-- the change leaves the owner's entry
owner-kept : (owner author next : ℕ) (es : List Entry) (change : ListChange) (e : Entry) → HasOwner owner es
    → FitsChange es author change
    → entry_of (changed_set es author next change) owner ≡ Some e
    → entry_of (with_next author next es) owner ≡ Some e
owner-kept owner author next es stays e owns fits found = found
owner-kept owner author next es (adds x) e owns fits found =
    let apart : owner ≢ x.user = λ same. (let none = subst (λ (u : ℕ). entry_of es u ≡ None) (sym same) fits.1 in
    let there = owns.1 in cc) in
    sym (with_entry-other x owner (with_next author next es) apart) ∙ found
owner-kept owner author next es (drops u) e owns fits found = elim (cases_eq owner u) [
  | inl same ↦
      let none = without-own u (with_next author next es) in
      let there = subst (λ (v : ℕ). entry_of (without u (with_next author next es)) v ≡ Some e) same found in
      absurd cc
  | inr apart ↦ sym (without-other u owner (with_next author next es) apart) ∙ found
]

-- ---- generations

rises-more : (g h : ℕ) (es : List Event) → g ≤ h → Rises g es → Rises h es
rises-more g h [] le rises = let positive : 0 < g = rises in omega arith
rises-more g h (plan c ∷ es) le rises = (let less = rises.0 in omega arith, rises-more g h es le rises.1)
rises-more g h (follow c ∷ es) le rises = rises-more g h es le rises

-- A key run whose generations are at most the owner's next number.
pub record Running (setting : Setting) (owner : ℕ) (es : List Entry) (events : List Event) : Type 0 where
  pub run : IsRun setting events
  pub next : (e : Entry) → entry_of es owner ≡ Some e → Rises (e.next + 1) events

pub opening-runs : (setting : Setting) (owner : ℕ) (es : List Entry) → Running setting owner es []
opening-runs setting owner es = record { run = tt; next = λ e found. omega arith }

module _ (setting : Setting) (owner : ℕ) (es : List Entry) (events : List Event) (st : Running setting owner es events)
    (owns : HasOwner owner es) (author seq : ℕ) (fresh : next_of (entry_of es author) ≤ seq) where
  -- an operation of the owner is later than all
  own-later : author ≡ owner → Rises (seq + 1) events
  own-later own =
      let at : next_of (entry_of es owner) ≤ seq =
      subst (λ (u : ℕ). next_of (entry_of es u) ≤ seq) own fresh in
      let same : next_of (entry_of es owner) ≡ owns.0 = rw owns.1 refl in
      rises-more (owns.0 + 1) (seq + 1) events (omega arith)
      (st.next (record { user = owner; role = OWNER; next = owns.0 }) owns.1)

  -- and what was behind the owner's number is behind the next one
  still-behind : (e : Entry) → entry_of (with_next author (seq + 1) es) owner ≡ Some e → Rises (e.next + 1) events
  still-behind e found = elim (cases_eq owner author) [
    | inl same ↦
        let is = own-next es author (seq + 1) e
        (subst (λ (u : ℕ). entry_of (with_next author (seq + 1) es) u ≡ Some e) same found) in
        rises-more (seq + 1) (e.next + 1) events (omega arith) (own-later (sym same))
    | inr other ↦ st.next e (sym (with_next-other author (seq + 1) owner es other) ∙ found)
  ]

  pub posted-runs : Running setting owner (with_next author (seq + 1) es) events
  posted-runs = record { run = st.run; next = still-behind }

  module _ (slot : ℕ) (what : KeyChange) (wraps : List Wrap) (own : author ≡ owner)
      (plans : planned (tree_of setting events) (seq + 1) what ≡ Ok (slot, wraps)) where
    abbrev made : Change
    made = record { generation = seq + 1; slot = slot; what = what }

    is-planned : IsPlanned setting made events
    is-planned =
        let is = planned_is (tree_of setting events) (seq + 1) what slot wraps (all_fit setting events st.run) plans in
        subst (λ (ws : List Wrap). planned (tree_of setting events) (seq + 1) what ≡ Ok (slot, ws)) (sym is.wraps_are)
        plans

    pub changed-runs : (change : ListChange) → FitsChange es author change
        → Running setting owner (changed_set es author (seq + 1) change) (follow made ∷ plan made ∷ events)
    changed-runs change fits = record {
      run = (inl refl, (is-planned, own-later own, st.run));
      next = λ e found. (
          let there = owner-kept owner author (seq + 1) es change e owns fits found in
          let is = own-next es author (seq + 1) e
          (subst (λ (u : ℕ). entry_of (with_next author (seq + 1) es) u ≡ Some e) (sym own) there) in
          (omega arith, still-behind e there)
          );
    }

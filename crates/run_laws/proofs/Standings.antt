-- What a wall's access list and its owner's key tree have in common, kept by each operation.
use Rattle.std.proofs.Common.{◌≡◌, ◌≢◌, ◌∙◌, inl, inr, ℕ, ◌+◌, ◌^◌, Bool, true, false, List, [], ◌∷◌, length, Some, None, refl, sym, ap, subst, arith, eq-eqb}
use Rattle.std.specs.Prelude.{◌↔◌, nat_eq}
use Rattle.std.proofs.lemmas.Bool.{cases_eq, eqb-true, false≢true}
use Rattle.fr_bytes.specs.Bytes.{Text}
use Rattle.tree_model.specs.declared.entry.Entry.{Entry}
use Rattle.tree_model.specs.AccessList.{IsListed, IsRising, entry_of, with_entry, with_next, without}
use Rattle.tree_model.proofs.ListChanges.{rising-with_next}
use Rattle.tree_model.proofs.LookUps.{with_entry-own, with_entry-other, without-own, without-other}
use Rattle.op_types.specs.declared.roles.TheConstants.{OWNER}
use Rattle.wall_law.specs.State.{HasOwner}
use Rattle.key_graph.specs.declared.change.Change.{Change}
use Rattle.key_graph.specs.declared.change.KeyChange.TheVariants.{Admit, Remove}
use Rattle.key_graph.specs.KeyTree.{fits, holder, holder_after, is_held}
use Rattle.key_graph.specs.Reach.{HasSlot, IsMember}
use Rattle.key_graph.specs.Streams.{AreFit}
use Rattle.key_graph.proofs.Streams.{one_slot}
use Rattle.run_laws.proofs.Slots.{Admitting, admitting, held, held-after, held-nil, holder-here, holder-there, not-free, one-holder, removing, weight-free, weight-held}
use Rattle.run_laws.proofs.Names.{length-entry, length-next, length-without, listed-next, nobody-next}

-- The changes of the tree fitted; who has a slot is in the list and isn't the owner, and the other way round; and the
-- list has one entry more than there are slots held.
pub record Standing (t owner : ℕ) (es : List Entry) (cs : List Change) : Type 0 where
  pub fit : AreFit t cs
  pub named : (u : ℕ) → IsMember t cs u ↔ ((u ≡ owner → ⊥) × IsListed es u)
  pub count : length es ≡ held cs (2 ^ t) + 1

-- a wall's first entry
abbrev first : ℕ → Entry
first owner = record { user = owner; role = OWNER; next = 0 }

found-first : (owner u : ℕ) (e : Entry) → (owner ≡ u → ⊥) → entry_of (first owner ∷ []) u ≡ Some e → ⊥
found-first owner u e other found = by (nat_eq owner u) refl found
  where
    by : (b : Bool) → nat_eq owner u ≡ b → entry_of (first owner ∷ []) u ≡ Some e → ⊥
    by true same found = other (eqb-true owner u same)
    by false off found = let none : None ≡ Some e = rw off at found in cc

pub opening-stands : (t owner : ℕ) → Standing t owner (first owner ∷ []) []
opening-stands t owner = record {
  fit = tt;
  named = λ u. (
    λ member. absurd (false≢true member.1.held),
    λ is. elim (cases_eq owner u) [
      | inl same ↦ absurd (is.0 (sym same))
      | inr other ↦ absurd (found-first owner u is.1.0 other is.1.1)
    ],
  );
  count = let none = held-nil (2 ^ t) in omega arith;
}

module _ (t owner : ℕ) (es : List Entry) (cs : List Change) (st : Standing t owner es cs) (author next : ℕ) where
  -- its author's next number alone changes
  pub posted-stands : Standing t owner (with_next author next es) cs
  posted-stands = record {
    fit = st.fit;
    named = λ u. (
      λ member. (let is = (st.named u).0 member in (is.0, (listed-next es author next u).1 is.1)),
      λ is. (st.named u).1 (is.0, (listed-next es author next u).0 is.1),
    );
    count = let same = length-next es author next in let count = st.count in omega arith;
  }

  -- a slot that this change leaves alone
  kept : (c : Change) (v s : ℕ) → (c.slot ≡ s → ⊥) → HasSlot t cs v s → HasSlot t (c ∷ cs) v s
  kept c v s other has = record {
    within = has.within;
    held = ap (is_held (Some v)) (holder-there c cs s other) ∙ has.held;
  }

  before : (c : Change) (v s : ℕ) → (c.slot ≡ s → ⊥) → HasSlot t (c ∷ cs) v s → HasSlot t cs v s
  before c v s other has = record {
    within = has.within;
    held = ap (is_held (Some v)) (sym (holder-there c cs s other)) ∙ has.held;
  }

  now : (c : Change) (v s : ℕ) → c.slot ≡ s → HasSlot t (c ∷ cs) v s → is_held (Some v) (holder_after c.what) ≡ true
  now c v s same has = ap (is_held (Some v)) (sym (holder-here c cs s same)) ∙ has.held

  module _ (generation slot u role : ℕ) (key : Text) (owns : HasOwner owner es) (absent : entry_of es u ≡ None)
      (fit : fits t cs slot (Admit u key) ≡ true) where
    abbrev admission : Change
    admission = record { generation = generation; slot = slot; what = Admit u key }

    abbrev entry : Entry
    entry = record { user = u; role = role; next = 0 }

    abbrev more : List Entry
    more = with_entry entry (with_next author next es)

    facts : Admitting t cs slot u
    facts = admitting t cs slot u key fit

    not-owner : (v : ℕ) → u ≡ v → v ≡ owner → ⊥
    not-owner v same is =
        let none : entry_of es owner ≡ None = subst (λ (w : ℕ). entry_of es w ≡ None) (same ∙ is) absent in
        let found = owns.1 in cc

    admitted-in : (v : ℕ) → u ≡ v → IsListed more v
    admitted-in v same = subst (IsListed more) same (entry, with_entry-own entry (with_next author next es))

    stays-in : (v : ℕ) → v ≢ u → IsListed es v → IsListed more v
    stays-in v other is =
        let still = (listed-next es author next v).1 is in
        (still.0, with_entry-other entry v (with_next author next es) other ∙ still.1)

    was-in : (v : ℕ) → v ≢ u → IsListed more v → IsListed es v
    was-in v other is =
        (listed-next es author next v).0
        (is.0, sym (with_entry-other entry v (with_next author next es) other) ∙ is.1)

    -- who has a slot
    admitted-named : (v : ℕ) → IsMember t (admission ∷ cs) v → (v ≡ owner → ⊥) × IsListed more v
    admitted-named v member = elim (cases_eq slot member.0) [
      | inl same ↦
          let own : u ≡ v = eqb-true u v (now admission v member.0 same member.1) in
          (not-owner v own, admitted-in v own)
      | inr other ↦
          let is = (st.named v).0 (member.0, before admission v member.0 other member.1) in
          let apart : v ≢ u = λ own. (let found = is.1.1 in
          let none : entry_of es v ≡ None = subst (λ (w : ℕ). entry_of es w ≡ None) (sym own) absent in cc) in
          (is.0, stays-in v apart is.1)
    ]

    admitted-member : (v : ℕ) → (v ≡ owner → ⊥) × IsListed more v → IsMember t (admission ∷ cs) v
    admitted-member v is = elim (cases_eq v u) [
      | inl own ↦ (
        slot,
        record {
          within = facts.within;
          held = ap (is_held (Some v)) (holder-here admission cs slot refl) ∙ eq-eqb u v (sym own);
        },
      )
      | inr apart ↦
          let member = (st.named v).1 (is.0, was-in v apart is.1) in
          let other : slot ≡ member.0 → ⊥ = λ same. not-free (holder cs slot) v
          (subst (λ (s : ℕ). is_held (Some v) (holder cs s) ≡ true) (sym same) member.1.held) facts.free in
          (member.0, kept admission v member.0 other member.1)
    ]

    pub admitted-stands : Standing t owner more (admission ∷ cs)
    admitted-stands = record {
      fit = (fit, st.fit);
      named = λ v. (admitted-named v, admitted-member v);
      count =
          let one = length-entry entry (with_next author next es) (nobody-next es author next u absent) in
          let same = length-next es author next in
          let count = st.count in
          let step = held-after admission cs (2 ^ t) facts.within in
          let none = weight-free (holder cs slot) facts.free in
          omega arith;
    }

  module _ (generation slot u : ℕ) (rise : IsRising es) (fit : fits t cs slot (Remove u) ≡ true) where
    abbrev removal : Change
    removal = record { generation = generation; slot = slot; what = Remove u }

    abbrev fewer : List Entry
    fewer = without u (with_next author next es)

    has : HasSlot t cs u slot
    has = removing t cs slot u fit

    removed-named : (v : ℕ) → IsMember t (removal ∷ cs) v → (v ≡ owner → ⊥) × IsListed fewer v
    removed-named v member = elim (cases_eq slot member.0) [
      | inl same ↦ absurd (false≢true (now removal v member.0 same member.1))
      | inr other ↦
          let old = before removal v member.0 other member.1 in
          let is = (st.named v).0 (member.0, old) in
          let apart : v ≢ u = λ own. other (one_slot t cs u slot member.0 st.fit has
          (subst (λ (w : ℕ). HasSlot t cs w member.0) own old)) in
          let still = (listed-next es author next v).1 is.1 in
          (is.0, (still.0, without-other u v (with_next author next es) apart ∙ still.1))
    ]

    removed-member : (v : ℕ) → (v ≡ owner → ⊥) × IsListed fewer v → IsMember t (removal ∷ cs) v
    removed-member v is =
        let apart : v ≢ u = λ own. (let none = without-own u (with_next author next es) in
        let found = subst (λ (w : ℕ). entry_of fewer w ≡ Some is.1.0) own is.1.1 in cc) in
        let listed = (listed-next es author next v).0
        (is.1.0, sym (without-other u v (with_next author next es) apart) ∙ is.1.1) in
        let member = (st.named v).1 (is.0, listed) in
        let other : slot ≡ member.0 → ⊥ = λ same. apart (one-holder (holder cs slot) v u
        (subst (λ (s : ℕ). is_held (Some v) (holder cs s) ≡ true) (sym same) member.1.held) has.held) in
        (member.0, kept removal v member.0 other member.1)

    pub removed-stands : Standing t owner fewer (removal ∷ cs)
    removed-stands = record {
      fit = (fit, st.fit);
      named = λ v. (removed-named v, removed-member v);
      count =
          let is = ((st.named u).0 (slot, has)).1 in
          let one = length-without u (with_next author next es) (rising-with_next author next es rise)
          ((listed-next es author next u).1 is) in
          let same = length-next es author next in
          let count = st.count in
          let step = held-after removal cs (2 ^ t) has.within in
          let held-one = weight-held (holder cs slot) u has.held in
          omega arith;
    }

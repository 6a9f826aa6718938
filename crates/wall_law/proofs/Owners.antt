-- What the law's silence says of a change, and that the owner stays in the list.
use Rattle.std.proofs.Common.{◌≡◌, ◌≢◌, ◌||◌, ℕ, zero, suc, ◌+◌, ◌<◌, ◌≤◌, Bool, true, false, not, cond, List, [], ◌∷◌, length, take, Option, Some, None, refl, ap, sym, subst, ◌∙◌, inl, inr, arith}
use Rattle.std.specs.Prelude.{fold, slice_get, nat_eq, option_and_then}
use Rattle.std.proofs.lemmas.Bool.{cases_eq, eq-eqb, eqb-true}
use Rattle.std.proofs.lemmas.List.{take_all}
use Rattle.op_types.specs.declared.kind.Kind.{Kind}
use Rattle.op_types.specs.declared.kind.Kind.TheVariants.{Post, Admit, Remove}
use Rattle.op_types.specs.declared.op.Op.{Op}
use Rattle.op_types.specs.declared.op.Leaf.{Leaf}
use Rattle.op_types.specs.declared.roles.TheConstants.{OWNER}
use Rattle.op_types.specs.Kinds.{changed_user}
use Rattle.op_types.specs.Roles.{may_be_given}
use Rattle.op_types.specs.Spelling.{IsKind, IsLeaf}
use Rattle.std.specs.List.{AllByRecursion}
use Rattle.tree_model.specs.declared.entry.Entry.{Entry}
use Rattle.std.specs.Option.{option_map}
use Rattle.fr_digest.specs.Digest.{Digest}
use Rattle.tree_model.specs.AccessList.{IsListed, FitsChange, ListChange, stays, adds, drops, entry_of, with_next, with_entry, without, change_by, changed_set}
use Rattle.tree_model.proofs.LookUps.{with_next-own, with_next-other, with_entry-own, with_entry-other, without-own, without-other}
use Rattle.wall_law.specs.declared.state.State.{State}
use Rattle.wall_law.specs.State.{HasOwner, IsOnlyOwner, opening, change_of, after, state_of}
use Rattle.wall_law.specs.Law.{may_add, is_owner, fits_change, is_bad_change, law}
use Rattle.wall_law.specs.Lawful.{Lawful}
use Rattle.wall_law.proofs.Histories.{law-stands, state_of-next}

-- ---- a change that the law lets stand

neither : (a b : Bool) → (not a || not b) ≡ false → (a ≡ true) × (b ≡ true)
neither true true e = (refl, refl)
neither true false e = absurd cc
neither false b e = absurd cc

may-listed : (found : Option Entry) → may_add found ≡ true → (e : Entry) × (found ≡ Some e)
may-listed None may = absurd cc
may-listed (Some e) may = (e, refl)

admitted-absent : (user role slot : ℕ) (wraps : _) (found : Option Entry) → fits_change (Admit user role slot wraps) found ≡ true → found ≡ None
admitted-absent user role slot wraps None fits = refl
admitted-absent user role slot wraps (Some e) fits = absurd cc

not-true : (b : Bool) → not b ≡ true → b ≡ false
not-true true e = absurd cc
not-true false e = refl

removed-present : (user slot : ℕ) (wraps : _) (found : Option Entry) → fits_change (Remove user slot wraps) found ≡ true → (e : Entry) × (found ≡ Some e) × (is_owner found ≡ false)
removed-present user slot wraps None fits = absurd cc
removed-present user slot wraps (Some e) fits = (e, refl, not-true (nat_eq e.role OWNER) fits)

-- the entry of a user whom a change changes
abbrev changed_in : List Entry → Kind → Option Entry
changed_in es kind = option_and_then (λ (user : ℕ). entry_of es user) (changed_user kind)

kind-fits : (es : List Entry) (author : ℕ) (kind : Kind) → may_add (entry_of es author) ≡ true → is_bad_change (entry_of es author) (changed_in es kind) kind ≡ false → FitsChange es author (change_of kind)
kind-fits es author (Post body) may good = may-listed (entry_of es author) may
kind-fits es author (Admit user role slot wraps) may good =
    let both = neither (is_owner (entry_of es author)) (fits_change (Admit user role slot wraps) (entry_of es user)) good in
    (may-listed (entry_of es author) may, admitted-absent user role slot wraps (entry_of es user) both.1)
kind-fits es author (Remove user slot wraps) may good =
    let both = neither (is_owner (entry_of es author)) (fits_change (Remove user slot wraps) (entry_of es user)) good in
    let there = removed-present user slot wraps (entry_of es user) both.1 in
    let apart : user ≢ author = λ same. let found = ap (λ (u : ℕ). is_owner (entry_of es u)) same in cc in
    (may-listed (entry_of es author) may, (there.0, there.1), apart)

-- where the law has no refusal, the change fits
pub law-fits : (s : State) (wall k : ℕ) (op : Op) → law s wall k op ≡ None → FitsChange s.entries op.author (change_of op.kind)
law-fits s wall k op none = let it = law-stands s wall k op none in kind-fits s.entries op.author op.kind it.allowed it.good_change

-- ---- the owner stays

numbered-owner : (es : List Entry) (author next owner : ℕ) → HasOwner owner es → HasOwner owner (with_next author next es)
numbered-owner es author next owner has = elim (cases_eq owner author) [
  | inl same ↦ (next, subst (λ (u : ℕ). entry_of (with_next u next es) owner ≡ Some (record { user = owner; role = OWNER; next = next })) same (with_next-own owner next es ∙ rw has.1 refl))
  | inr other ↦ (has.0, with_next-other author next owner es other ∙ has.1)
]

changed-owner : (es : List Entry) (author next owner : ℕ) (kind : Kind) → is_bad_change (entry_of es author) (changed_in es kind) kind ≡ false → HasOwner owner es → HasOwner owner (change_by (change_of kind) (with_next author next es))
changed-owner es author next owner (Post body) good has = numbered-owner es author next owner has
changed-owner es author next owner (Admit user role slot wraps) good has =
    let both = neither (is_owner (entry_of es author)) (fits_change (Admit user role slot wraps) (entry_of es user)) good in
    let absent = admitted-absent user role slot wraps (entry_of es user) both.1 in
    let apart : owner ≢ user = λ same. let found = ap (λ (u : ℕ). entry_of es u) same in let there = has.1 in cc in
    let still = numbered-owner es author next owner has in
    (still.0, with_entry-other (record { user = user; role = role; next = 0 }) owner (with_next author next es) apart ∙ still.1)
changed-owner es author next owner (Remove user slot wraps) good has =
    let both = neither (is_owner (entry_of es author)) (fits_change (Remove user slot wraps) (entry_of es user)) good in
    let present = removed-present user slot wraps (entry_of es user) both.1 in
    let owns : is_owner (entry_of es owner) ≡ true = rw has.1 (eq-eqb OWNER OWNER refl) in
    let apart : owner ≢ user = λ same. let found = ap (λ (u : ℕ). is_owner (entry_of es u)) same in let not_owner = present.2 in cc in
    let still = numbered-owner es author next owner has in
    (still.0, without-other user owner (with_next author next es) apart ∙ still.1)

pub after-owner : (s : State) (owner wall k : ℕ) (op : Op) → law s wall k op ≡ None → HasOwner owner s.entries → HasOwner owner (after s op).entries
after-owner s owner wall k op none has = changed-owner s.entries op.author (op.seq + 1) owner op.kind (law-stands s wall k op none).good_change has

opening-owner : (owner : ℕ) → HasOwner owner (opening owner).entries
opening-owner owner = (0, rw (eq-eqb owner owner refl) refl)

place-there : (leaves : List Leaf) (k : ℕ) → k < length leaves → (leaf : Leaf) × (slice_get leaves k ≡ Some leaf)
place-there [] k within = absurd (omega arith)
place-there (l ∷ leaves) zero within = (l, refl)
place-there (l ∷ leaves) (suc k) within = place-there leaves k (omega arith)

take-owner : (d : Digest) (owner wall : ℕ) (leaves : List Leaf) → Lawful d owner wall leaves → (k : ℕ) → k ≤ length leaves → HasOwner owner (state_of owner (take k leaves)).entries
take-owner d owner wall leaves lawful zero within = opening-owner owner
take-owner d owner wall leaves lawful (suc k) within =
    let place = place-there leaves k (omega arith) in
    let before = take-owner d owner wall leaves lawful k (omega arith) in
    let stays = after-owner (state_of owner (take k leaves)) owner wall k place.0.op (lawful k place.0 place.1).lawful before in
    let next = state_of-next owner leaves k place.0 place.1 in
    let number : k + 1 ≡ suc k = omega arith in
    subst (λ (n : ℕ). HasOwner owner (state_of owner (take n leaves)).entries) number (subst (λ (s : State). HasOwner owner s.entries) (sym next) stays)

-- after every lawful history the owner is in the list
pub state_of-owner : (d : Digest) (owner wall : ℕ) (leaves : List Leaf) → Lawful d owner wall leaves → HasOwner owner (state_of owner leaves).entries
state_of-owner d owner wall leaves lawful =
    subst (λ (ls : List Leaf). HasOwner owner (state_of owner ls).entries) (take_all (length leaves) leaves (omega arith)) (take-owner d owner wall leaves lawful (length leaves) (omega arith))

owner-some : (owner : ℕ) (es : List Entry) → HasOwner owner es → 0 < length es
owner-some owner [] has = let there = has.1 in absurd cc
owner-some owner (e ∷ es) has = omega arith

-- so the list is never empty
pub state_of-some : (d : Digest) (owner wall : ℕ) (leaves : List Leaf) → Lawful d owner wall leaves → 0 < length (state_of owner leaves).entries
state_of-some d owner wall leaves lawful = owner-some owner (state_of owner leaves).entries (state_of-owner d owner wall leaves lawful)

-- ---- a list that is left isn't empty

found-some : (es : List Entry) (user : ℕ) (e : Entry) → entry_of es user ≡ Some e → 0 < length es
found-some [] user e found = absurd cc
found-some (x ∷ es) user e found = omega arith

listed-next : (es : List Entry) (user next : ℕ) → IsListed es user → IsListed (with_next user next es) user
listed-next es user next (e, found) = (_, with_next-own user next es ∙ ap (λ (o : Option Entry). option_map (λ (x : Entry). record { user = x.user; role = x.role; next = next }) o) found)

change-some : (es : List Entry) (author next : ℕ) (change : ListChange) → FitsChange es author change → 0 < length (changed_set es author next change)
change-some es author next stays fits = let own = listed-next es author next fits in found-some (with_next author next es) author own.0 own.1
change-some es author next (adds e) fits = found-some (with_entry e (with_next author next es)) e.user e (with_entry-own e (with_next author next es))
change-some es author next (drops user) fits =
    let own = listed-next es author next fits.0 in
    let apart : author ≢ user = λ same. fits.2 (sym same) in
    found-some (without user (with_next author next es)) author own.0 (without-other user author (with_next author next es) apart ∙ own.1)

-- where the law lets an operation stand, the list that it leaves isn't empty
pub some-after : (s : State) (wall k : ℕ) (op : Op) → law s wall k op ≡ None → 0 < length (after s op).entries
some-after s wall k op none = change-some s.entries op.author (op.seq + 1) (change_of op.kind) (law-fits s wall k op none)

abbrev some_entry : Entry → Option Entry
some_entry e = Some e

-- ---- nobody else has the owner's role

renumbered : (next : ℕ) (o : Option Entry) (e : Entry) → option_map (λ (x : Entry). record { user = x.user; role = x.role; next = next }) o ≡ Some e
    → (x : Entry) × (o ≡ Some x) × (x.role ≡ e.role)
renumbered next None e found = absurd cc
renumbered next (Some x) e found = (x, refl, cc)

alone-next : (owner author next : ℕ) (es : List Entry) → IsOnlyOwner owner es → IsOnlyOwner owner (with_next author next es)
alone-next owner author next es alone user e found role = elim (cases_eq user author) [
  | inl same ↦
      let own = subst (λ (u : ℕ). entry_of (with_next author next es) u ≡ Some e) same found in
      let before = renumbered next (entry_of es author) e (sym (with_next-own author next es) ∙ own) in
      alone user before.0 (subst (λ (u : ℕ). entry_of es u ≡ Some before.0) (sym same) before.1) (before.2 ∙ role)
  | inr other ↦ alone user e (sym (with_next-other author next user es other) ∙ found) role
]

given-differs : (role : ℕ) → may_be_given role ≡ true → role ≡ OWNER → ⊥
given-differs role given is = let owner : may_be_given OWNER ≡ true = subst (λ (r : ℕ). may_be_given r ≡ true) is given in cc

alone-changed : (owner : ℕ) (kind : Kind) (es : List Entry) → IsKind kind → IsOnlyOwner owner es → IsOnlyOwner owner (change_by (change_of kind) es)
alone-changed owner (Post body) es fits alone user e found is = alone user e found is
alone-changed owner (Admit new role slot wraps) es fits alone user e found is =
    let entry : Entry = record { user = new; role = role; next = 0 } in
    elim (cases_eq user new) [
      | inl same ↦
          let own = subst (λ (u : ℕ). entry_of (with_entry entry es) u ≡ Some e) same found in
          let equal : some_entry entry ≡ some_entry e = sym (with_entry-own entry es) ∙ own in
          let role-is : role ≡ e.role = cc in
          absurd (given-differs role fits.role.1 (role-is ∙ is))
      | inr other ↦ alone user e (sym (with_entry-other entry user es other) ∙ found) is
    ]
alone-changed owner (Remove gone slot wraps) es fits alone user e found is = elim (cases_eq user gone) [
  | inl same ↦
      let own = subst (λ (u : ℕ). entry_of (without gone es) u ≡ Some e) same found in
      let none = without-own gone es in absurd cc
  | inr other ↦ alone user e (sym (without-other gone user es other) ∙ found) is
]

alone-fold : (owner : ℕ) (s : State) (leaves : List Leaf) → AllByRecursion IsLeaf leaves → IsOnlyOwner owner s.entries
    → IsOnlyOwner owner (fold (λ (t : State) (leaf : Leaf). after t leaf.op) s leaves).entries
alone-fold owner s [] fit alone = alone
alone-fold owner s (leaf ∷ leaves) fit alone =
    let op = leaf.op in
    let next = alone-changed owner op.kind (with_next op.author (op.seq + 1) s.entries) fit.0.op.kind (alone-next owner op.author (op.seq + 1) s.entries alone) in
    alone-fold owner (after s op) leaves fit.1 next

alone-opening : (owner : ℕ) → IsOnlyOwner owner (opening owner).entries
alone-opening owner user e found is = opened (nat_eq owner user) refl found where
  opened : (b : Bool) → nat_eq owner user ≡ b → cond b (some_entry (record { user = owner; role = OWNER; next = 0 })) None ≡ Some e → user ≡ owner
  opened true same found = sym (eqb-true owner user same)
  opened false other found = absurd cc

-- after any leaves that have a spelling the owner alone has the owner's role
pub state_of-alone : (owner : ℕ) (leaves : List Leaf) → AllByRecursion IsLeaf leaves → IsOnlyOwner owner (state_of owner leaves).entries
state_of-alone owner leaves fit = alone-fold owner (opening owner) leaves fit (alone-opening owner)

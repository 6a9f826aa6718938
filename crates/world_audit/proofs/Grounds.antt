-- Where as many users may be in league with the server as there are rogues, every record has a history.
use Rattle.std.proofs.Common.{◌≡◌, inl, inr, ℕ, zero, suc, ◌<◌, ◌≤◌, Bool, true, false, List, [], ◌∷◌, ◌++◌, length, map, take, Option, Some, None, refl, ap, sym, ◌∙◌, arith, eq-eqb}
use Rattle.std.specs.Prelude.{IsSome, filter, find, nat_eq, nat_lt, not, option_and_then, slice_get}
use Rattle.std.specs.List.{list_any}
use Rattle.std.specs.Option.{option_map}
use Rattle.std.proofs.lemmas.Bool.{and_from, and_parts, cases_Bool, cases_lt, cond-true, cond-false, eqb-true, eqb-false, le-ltb, lt-ltb, ltb-false, not-true, not_from_false, or_left, or_right}
use Rattle.std.proofs.lemmas.List.{length-map}
use Rattle.std.proofs.lemmas.Option.{slice_get-map}
use Rattle.fr_digest.specs.Digest.{Digest}
use Rattle.lms_tree.specs.Valid.{Key}
use Rattle.op_types.specs.declared.op.Leaf.{Leaf}
use Rattle.signed_ops.specs.Signed.{key_of}
use Rattle.vouch_rule.specs.declared.vouch.Vouch.{Vouch}
use Rattle.vouch_rule.proofs.Outsiders.{outsider}
use Rattle.check_rules.specs.Verdict.{vouchers_found, vouches}
use Rattle.world_book.specs.declared.book.UserBook.{UserBook}
use Rattle.world_book.specs.declared.took.Took.{Took}
use Rattle.world_book.specs.declared.world.WallNote.{WallNote}
use Rattle.world_book.specs.declared.world.World.{World}
use Rattle.world_book.specs.Kept.{Kept}
use Rattle.world_book.specs.Records.{IsIn, is_honest, is_no_rogue, keys_of, note_of, record_of, records_of}
use Rattle.world_book.proofs.Leaves.{facts, leaf-listed, leaf-wall}
use Rattle.world_book.proofs.Places.{find-first, find-some}
use Rattle.world_book.proofs.Records.{book-found, signed-seen}
use Rattle.world_audit.specs.Sound.{NothingUnsigned, rogues}
use Rattle.world_audit.specs.Story.{Grounded, base_of, front_of, prev, record_seen, story, voucher, vouched, vouches_for}
use Rattle.world_audit.proofs.Stories.{mapped, prev-smaller, unfolds, vouched-smaller}

-- ---- rogues

abbrev is_rogue : UserBook → Bool
is_rogue b = b.rogue

abbrev user_of : UserBook → ℕ
user_of b = b.user

abbrev rogue_users : World → List ℕ
rogue_users w = map user_of (filter is_rogue w.users)

rogue-listed : (a : ℕ) (books : List UserBook) (i : ℕ) (b : UserBook) → slice_get books i ≡ Some b → b.rogue ≡ true
    → a ≡ b.user → list_any (nat_eq a) (map user_of (filter is_rogue books)) ≡ true
rogue-listed a [] i b at is same = absurd cc
rogue-listed a (x ∷ xs) zero b at is same =
    let one : x ≡ b = cc in
    let first = ap (λ (bs : List UserBook). list_any (nat_eq a) (map user_of bs))
    (cond-true x.rogue (x ∷ filter is_rogue xs) (filter is_rogue xs) (ap is_rogue one ∙ is)) in
    first ∙ or_left (nat_eq a x.user) (list_any (nat_eq a) (map user_of (filter is_rogue xs)))
    (eq-eqb a x.user (same ∙ ap user_of (sym one)))
rogue-listed a (x ∷ xs) (suc i) b at is same =
    let rest = rogue-listed a xs i b at is same in
    elim (cases_Bool x.rogue) [
      | inl rogue ↦
          ap (λ (bs : List UserBook). list_any (nat_eq a) (map user_of bs))
          (cond-true x.rogue (x ∷ filter is_rogue xs) (filter is_rogue xs) rogue)
          ∙ or_right (nat_eq a x.user) (list_any (nat_eq a) (map user_of (filter is_rogue xs))) rest
      | inr honest ↦
          ap (λ (bs : List UserBook). list_any (nat_eq a) (map user_of bs))
          (cond-false x.rogue (x ∷ filter is_rogue xs) (filter is_rogue xs) honest) ∙ rest
    ]

abbrev as_vouch : Leaf → Vouch
as_vouch l = record { author = l.op.author; size = l.op.view.size }

abbrev keyed : UserBook → ℕ × Key
keyed b = (b.user, b.key)

some-is : {A : Type 0} (o : Option A) (x : A) → o ≡ Some x → IsSome o
some-is None x e = absurd cc
some-is (Some y) x e = refl

module _ (d : Digest) (w : World) (kept : Kept d w) where
  -- A listed user who isn't among the rogues is honest.
  listed-honest : (a : ℕ) (key : Key) → key_of (keys_of w.users) a ≡ Some key
      → list_any (nat_eq a) (rogue_users w) ≡ false
      → is_honest w a ≡ true
  listed-honest a key listed other =
      let one = mapped (λ (p : ℕ × Key). p.1) (find (λ (p : ℕ × Key). nat_eq p.0 a) (keys_of w.users)) key listed in
      let it = find-some (λ (p : ℕ × Key). nat_eq p.0 a) (keys_of w.users) one.0 one.1 in
      let book = mapped keyed (slice_get w.users it.0.place) one.0
      (sym (slice_get-map keyed w.users it.0.place) ∙ it.0.there) in
      let b = book.0 in
      let user : b.user ≡ a = ap (λ (p : ℕ × Key). p.0) book.2 ∙ eqb-true one.0.0 a it.1 in
      let found = book-found d w kept b (record { place = it.0.place; there = book.1 }) in
      let honest : not b.rogue ≡ true = elim (cases_Bool b.rogue) [
        | inl rogue ↦ absurd (let e = sym other ∙ rogue-listed a w.users it.0.place b book.1 rogue (sym user) in cc)
        | inr e ↦ not_from_false b.rogue e
      ] in
      ap (is_honest w) (sym user) ∙ ap is_no_rogue found ∙ honest

  module _ (unsigned : NothingUnsigned w) where
    -- who vouches has a record of the view
    voucher-seen : (r : Took) (l : Leaf) → IsIn (records_of w) r → r.have < r.from → voucher w r ≡ Some l
        → (s : Took) × (vouched w r ≡ Some s)
    voucher-seen r l at skips first =
        let it = find-some (vouches_for w r.from) r.leaves l first in
        let both = and_parts (is_honest w l.op.author) (not (nat_lt l.op.view.size r.from)) it.1 in
        let covers = ltb-false l.op.view.size r.from (not-true (nat_lt l.op.view.size r.from) both.1) in
        let seen = signed-seen d w kept l.op.author l.op (unsigned r l at it.0 both.0) (omega arith) in
        let wall = leaf-wall d w kept r at it.0.place l it.0.there in (
          seen.0,
          ap (option_and_then (record_seen w r.wall)) first
              ∙ ap (λ (n : ℕ). record_of w l.op.author n l.op.view.size) (sym wall) ∙ seen.1,
        )

    -- Whoever skips does so on an honest author's record.
    some-vouched : (r : Took) (note : WallNote) → IsIn (records_of w) r → r.have < r.from
        → note_of w.walls r.wall ≡ Some note → rogues w ≤ note.f → (s : Took) × (vouched w r ≡ Some s)
    some-vouched r note at skips noted few =
        let it = facts d w kept r at in
        let same : it.note ≡ note = let e = sym it.noted ∙ noted in cc in
        let f = ap (λ (n : WallNote). n.f) same in
        let have = it.have in
        let more : length (rogue_users w) < vouchers_found r.leaves r.from = elim it.accepted.vouched [
          | inl level ↦ absurd (omega arith)
          | inr enough ↦
              let many = ap (λ (ls : List Leaf). vouchers_found ls r.from) it.leaves in
              let count = length-map (filter is_rogue w.users) user_of in
              omega arith
        ] in
        let out = outsider (vouches r.leaves) r.from (rogue_users w) more in
        let one = mapped as_vouch (slice_get r.leaves out.0) out.1 (sym (slice_get-map as_vouch r.leaves out.0)
        ∙ out.2) in
        let l = one.0 in
        let author : l.op.author ≡ out.1.author = ap (λ (o : Vouch). o.author) one.2 in
        let size : l.op.view.size ≡ out.1.size = ap (λ (o : Vouch). o.size) one.2 in
        let covers = out.3 in
        let listed = leaf-listed d w kept r at out.0 l one.1 in
        let honest = listed-honest l.op.author listed.0 listed.1
        (ap (λ (a : ℕ). list_any (nat_eq a) (rogue_users w)) author ∙ out.4) in
        let vouching = and_from (is_honest w l.op.author) (not (nat_lt l.op.view.size r.from)) honest
        (not_from_false (nat_lt l.op.view.size r.from) (le-ltb l.op.view.size r.from (omega arith))) in
        let first = find-first (vouches_for w r.from) r.leaves out.0 l one.1 vouching in
        voucher-seen r first.0 at skips first.1

    -- ---- grounds

    abbrev Below : Took → Option (List Leaf)
    Below r = option_and_then (story w) (prev w r)

    abbrev Beside : Took → Option (List Leaf)
    Beside r = option_and_then (story w) (vouched w r)

    abbrev Skipped : Took → Option (List Leaf)
    Skipped r = option_and_then (λ (old : List Leaf). option_map (take r.from) (Beside r)) (base_of r (Below r))

    stands-by : (r : Took) (front : List Leaf) → IsIn (records_of w) r
        → front_of r (base_of r (Below r)) (Beside r) ≡ Some front
        → (L : List Leaf) × (story w r ≡ Some L)
    stands-by r front at is =
        (front ++ r.leaves, unfolds d w kept r at ∙ ap (option_map (λ (ls : List Leaf). ls ++ r.leaves)) is)

    based : (r p : Took) (K : List Leaf) → 0 < r.have → prev w r ≡ Some p → story w p ≡ Some K
        → base_of r (Below r) ≡ Some K
    based r p K some is history =
        cond-true (nat_lt 0 r.have) (Below r) (Some []) (lt-ltb 0 r.have some) ∙ ap (option_and_then (story w)) is
        ∙ history

    beside : (r s : Took) (M : List Leaf) → vouched w r ≡ Some s → story w s ≡ Some M → Beside r ≡ Some M
    beside r s M is history = ap (option_and_then (story w)) is ∙ history

    grounds : (m : ℕ) (r : Took) (note : WallNote) → IsIn (records_of w) r → r.size ≤ m
        → note_of w.walls r.wall ≡ Some note
        → rogues w ≤ note.f → (L : List Leaf) × (story w r ≡ Some L)
    grounds zero r note at small noted few = absurd (let later = (facts d w kept r at).accepted.later in omega arith)
    grounds (suc m) r note at small noted few =
        let base : (old : List Leaf) × (base_of r (Below r) ≡ Some old) = elim (cases_lt 0 r.have) [
          | inl some ↦
              let last = (facts d w kept r at).prev some in
              let is = cond-true (nat_lt 0 r.have) (record_of w r.user r.wall r.have) None (lt-ltb 0 r.have some)
              ∙ last.1.found in
              let it = (prev-smaller d w kept r last.0 at is).0 in
              let fewer = it.fewer in
              let below = grounds m last.0 note it.kept (omega arith) (ap (note_of w.walls) it.wall ∙ noted) few in
              (below.0, based r last.0 below.0 some is below.1)
          | inr none ↦ ([], cond-false (nat_lt 0 r.have) (Below r) (Some []) (le-ltb 0 r.have none))
        ] in
        elim (cases_Bool (nat_eq r.from r.have)) [
          | inl level ↦ stands-by r base.0 at
              (cond-true (nat_eq r.from r.have) (base_of r (Below r)) (Skipped r) level ∙ base.1)
          | inr skip ↦
              let apart = eqb-false r.from r.have skip in
              let have = (facts d w kept r at).have in
              let least = (facts d w kept r at).accepted.old in
              let s = some-vouched r note at (omega (arith, apart)) noted few in
              let it = (vouched-smaller d w kept r s.0 at s.1).0 in
              let fewer = it.fewer in
              let by = grounds m s.0 note it.kept (omega arith) (ap (note_of w.walls) it.wall ∙ noted) few in
              stands-by r (take r.from by.0) at
              (cond-false (nat_eq r.from r.have) (base_of r (Below r)) (Skipped r) skip
              ∙ ap (option_and_then (λ (old : List Leaf). option_map (take r.from) (Beside r))) base.1
              ∙ ap (option_map (take r.from)) (beside r s.0 by.0 s.1 by.1))
        ]

    pub few-grounded : (r : Took) (note : WallNote) → IsIn (records_of w) r → note_of w.walls r.wall ≡ Some note
        → rogues w ≤ note.f → Grounded w r
    few-grounded r note at noted few =
        let it = grounds r.size r note at (omega arith) noted few in some-is (story w r) it.0 it.1

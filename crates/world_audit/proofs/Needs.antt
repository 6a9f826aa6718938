-- The records that a record's comparisons speak of: each is kept, has a history and is of fewer positions.
use Rattle.std.proofs.Common.{◌≡◌, inl, inr, ◌<◌, ◌&&◌, List, ◌++◌, Option, Some, None, ap, sym, ◌∙◌, arith}
use Rattle.std.specs.Prelude.{filter, if◌then◌else◌, is_some, nat_eq, nat_lt}
use Rattle.std.specs.List.{flat_map}
use Rattle.std.proofs.lemmas.Bool.{cases_Bool, cond-true, cond-false, eqb-false, ltb-true}
use Rattle.fr_digest.specs.Digest.{Digest}
use Rattle.op_types.specs.declared.op.Leaf.{Leaf}
use Rattle.world_book.specs.declared.took.Took.{Took}
use Rattle.world_book.specs.declared.world.World.{World}
use Rattle.world_book.specs.Kept.{Kept}
use Rattle.world_book.specs.Records.{IsIn, is_honest, record_of, records_of}
use Rattle.world_book.proofs.Places.{flat-place}
use Rattle.world_audit.specs.Comparisons.{needed, seen_by, some_in}
use Rattle.world_audit.specs.Story.{prev, record_seen, story, vouched}
use Rattle.world_audit.proofs.Members.{in-either, in-filter, in-some, there-is}
use Rattle.world_audit.proofs.Stories.{follows, old-story, prev-smaller, seen-smaller, skips, stands-on, vouched-smaller, whole}

-- ---- what is needed

-- a record of the world that has a history
pub record HasStory (w : World) (r : Took) : Type 0 where
  pub kept : IsIn (records_of w) r
  pub leaves : List Leaf
  pub history : story w r ≡ Some leaves

module _ (d : Digest) (w : World) (kept : Kept d w) (r : Took) (has : HasStory w r) where
  prev-needed : (p : Took) → prev w r ≡ Some p → HasStory w p × (p.size < r.size)
  prev-needed p is =
      let it = (prev-smaller d w kept r p has.kept is).0 in
      let some : 0 < r.have = elim (cases_Bool (nat_lt 0 r.have)) [
        | inl e ↦ ltb-true 0 r.have e
        | inr e ↦ absurd (let f = sym (cond-false (nat_lt 0 r.have) (record_of w r.user r.wall r.have) None e)
            ∙ is in cc)
      ] in
      let old = old-story d w kept r has.leaves has.kept has.history some in
      let same : old.0 ≡ p = let e = sym old.2 ∙ is in cc in (
        record {
          kept = it.kept;
          leaves = old.1;
          history = ap (story w) (sym same) ∙ old.3;
        },
        it.fewer,
      )

  beside-needed : (s : Took) → (r.from ≡ r.have → ⊥) → vouched w r ≡ Some s → HasStory w s × (s.size < r.size)
  beside-needed s apart is = elim (stands-on d w kept r has.leaves has.kept has.history) [
    | whole have from joined ↦ absurd (apart (omega arith))
    | follows p M level some before history joined ↦ absurd (apart level)
    | skips x M least beside history joined ↦
        let it = (vouched-smaller d w kept r s has.kept is).0 in
        let same : x ≡ s = let e = sym beside ∙ is in cc in
        (record { kept = it.kept; leaves = M; history = ap (story w) (sym same) ∙ history }, it.fewer)
  ]

  abbrev skipped : Option Took
  skipped = if nat_eq r.from r.have then None else vouched w r

  skipped-needed : (s : Took) → skipped ≡ Some s → HasStory w s × (s.size < r.size)
  skipped-needed s is = elim (cases_Bool (nat_eq r.from r.have)) [
    | inl level ↦ absurd (let e = sym (cond-true (nat_eq r.from r.have) None (vouched w r) level) ∙ is in cc)
    | inr skip ↦ beside-needed s (eqb-false r.from r.have skip)
        (sym (cond-false (nat_eq r.from r.have) None (vouched w r) skip) ∙ is)
  ]

  abbrev seen : List Took
  seen = flat_map (λ (l : Leaf). some_in (seen_by w r.wall l)) r.leaves

  seen-needed : (s : Took) → IsIn (filter (λ (x : Took). is_some (story w x)) seen) s → HasStory w s × (s.size < r.size)
  seen-needed s at =
      let one = in-filter (λ (x : Took). is_some (story w x)) seen s at in
      let of = there-is (story w s) one.1 in
      let it = flat-place (λ (l : Leaf). some_in (seen_by w r.wall l)) r.leaves one.0.place s one.0.there in
      let leaf = it.0 in
      let found = in-some (seen_by w r.wall leaf) s it.2 in
      elim (cases_Bool (is_honest w leaf.op.author && nat_lt 0 leaf.op.view.size)) [
        | inl is ↦
            let sees =
            sym (cond-true (is_honest w leaf.op.author && nat_lt 0 leaf.op.view.size)
            (record_seen w r.wall leaf) None is)
            ∙ found in
            let smaller = (seen-smaller d w kept r s it.1.place leaf has.kept it.1.there sees).0 in
            (record { kept = smaller.kept; leaves = of.0; history = of.1 }, smaller.fewer)
        | inr not ↦ absurd (let e = sym (cond-false (is_honest w leaf.op.author && nat_lt 0 leaf.op.view.size)
            (record_seen w r.wall leaf) None not) ∙ found in cc)
      ]

  -- Each has a history, and is of fewer positions.
  pub each-needed : (s : Took) → IsIn (needed w r) s → HasStory w s × (s.size < r.size)
  each-needed s at = elim (in-either (some_in (prev w r)) (some_in skipped ++ filter (λ (x : Took). is_some
      (story w x)) seen) s at) [
        | inl before ↦ prev-needed s (in-some (prev w r) s before)
        | inr others ↦ elim (in-either (some_in skipped) (filter (λ (x : Took). is_some (story w x)) seen) s others) [
          | inl beside ↦ skipped-needed s (in-some skipped s beside)
          | inr views ↦ seen-needed s views
        ]
      ]

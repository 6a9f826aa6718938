use Rattle.std.proofs.Common.{◌≡◌, ◌∙◌, ◌++◌, map, sym, ap, subst, List}
use Rattle.std.specs.Prelude.{filter}
use Rattle.std.specs.List.{flat_map}
use Rattle.std.proofs.lemmas.List.{append_assoc}
use Rattle.op_types.specs.declared.op.Leaf.{Leaf}
use Rattle.world_audit.specs.Comparisons.{seen_by, some_in}
use Rattle.world_audit.specs.Story.{prev}
use Rattle.audit_run.specs.Answer.{has_story}
use Rattle.audit_run.specs.Table.{ArePicked}
use Rattle.audit_run.proofs.Ordering.{picked-append, picked-some}
use Rattle.audit_run.proofs.Reaching.{skipped}
use Rattle.audit_run.proofs.order.needed_places.Goals as goal

pub returns : goal.returns
returns c =
    let w = c.args.index.now.world.now in
    let R = map (λ r. r.now) c.args.index.now.records.items in
    let r = c.args.r.now in
    let one = picked-some R c.prev.result (prev w r) c.prev.ensures.within c.prev.ensures.is in
    let two = picked-some R c.skipped.result (skipped w r) c.skipped.ensures.within c.skipped.ensures.is in
    let both = picked-append R (some_in c.prev.result) (some_in c.skipped.result) (some_in (prev w r)) (some_in (skipped w r)) one two in
    let there : c.push_some-2.new.places.items ≡ some_in c.prev.result ++ some_in c.skipped.result =
    c.in_ok-push_some-2.ensures ∙ ap (λ xs. xs ++ some_in c.skipped.result) c.in_ok-push_some.ensures
    ∙ ap (λ xs. (xs ++ some_in c.prev.result) ++ some_in c.skipped.result) c.new-out.ensures.items in
    subst (ArePicked R c.push_seen.new.out.items)
    (append_assoc (some_in (prev w r)) (some_in (skipped w r)) (filter (has_story w) (flat_map (λ (l : Leaf). some_in (seen_by w r.wall l)) r.leaves)))
    (subst (λ (ls : List Leaf). ArePicked R c.push_seen.new.out.items ((some_in (prev w r) ++ some_in (skipped w r)) ++ filter (has_story w) (flat_map (λ (l : Leaf). some_in (seen_by w r.wall l)) ls)))
    c.as_slice.ensures
    (c.in_ok-push_seen.ensures (some_in (prev w r) ++ some_in (skipped w r))
    (subst (λ xs. ArePicked R xs (some_in (prev w r) ++ some_in (skipped w r))) (sym there) both)))

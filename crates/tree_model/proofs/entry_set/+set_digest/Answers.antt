use Rattle.std.proofs.Common.{◌<◌, sym, length, take, drop, rules, arith}
use Rattle.std.proofs.lemmas.List.{length-take-le, length-drop}
use Rattle.tree_model.specs.AccessList.{IsRising}
use Rattle.tree_model.proofs.AccessLists.{rising-take, rising-drop, set_digest-none, set_digest-parts}
use Rattle.tree_model.proofs.entry_set.+set_digest.Goals as goal

pub returns-then-is_empty : goal.returns-then-is_empty
returns-then-is_empty g t c = sym (set_digest-none g.D.Digester.digest_of c.args.entries.now (search rules))

pub set_digest-left-requires : goal.set_digest-left-requires
set_digest-left-requires g t c κs within =
    let k = c.top_in-place.result.0 in
    let es = c.args.entries.now in
    let left : IsRising (take k es) = rising-take k es c.requires in
    let whole : k < length es = c.top_in-place.ensures.within in
    let size = length-take-le k es (omega arith) in
    let fewer : length (take k es) < length es = omega arith in search rules

pub set_digest-right-requires : goal.set_digest-right-requires
set_digest-right-requires g t c κs within =
    let k = c.top_in-place.result.0 in
    let es = c.args.entries.now in
    let right : IsRising (drop 1 (drop k es)) = rising-drop 1 (drop k es) (rising-drop k es c.requires) in
    let whole : k < length es = c.top_in-place.ensures.within in
    let fewer : length (drop 1 (drop k es)) < length es = omega (arith, length-drop k es, length-drop 1 (drop k es)) in search rules

pub returns : goal.returns
returns g t c =
    set_digest-parts g.D.Digester.digest_of c.args.entries.now c.top_in-place.result.0 c.top_in-place.result.1 c.split_at.result.0.now c.split_at-2.result.1.now _ _ _ c.requires c.top_in-place.ensures.place c.top_in-place.ensures.top
    (search rules) (search rules) c.set_digest-left.ensures c.set_digest-right.ensures c.node_digest.ensures

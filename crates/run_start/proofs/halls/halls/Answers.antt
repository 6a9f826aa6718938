use Rattle.std.proofs.Common.{◌≡◌, ◌∷◌, ◌++◌, [], List, ap, arith, length, map, subst, sym}
use Rattle.std.specs.List.{All, AllByRecursion}
use Rattle.std.specs.Vec.Iter.{into_iter_items}
use Rattle.hall_core.specs.Standing as standing
use Rattle.run_start.specs.Parties.{IsWallParty, facts_of}
use Rattle.run_start.proofs.Passing.{each-more, one-more}
use Rattle.run_start.proofs.halls.halls.Goals as goal

pub loop-party-preserved : goal.loop-party-preserved
loop-party-preserved g c =
    let script = c.args.script.now in
    let at = c.loop-party in
    let x = c.in-Some.party in
    let made = c.in_ok-hall.field-0 in
    let f = facts_of script c.args.keys.now in
    let all = map f (into_iter_items c.into_iter-party-iterator.result) in
    let v : standing.Hall → _ = λ hall. hall.facts in
    let steps : into_iter_items at.party-iterator ≡ x ∷ into_iter_items c.next.new.self = c.in-Some.ensures.steps.0 in
    let pushed : c.push.new.self.items ≡ at.halls.items ++ made ∷ [] = c.in_ok-push.ensures.items in
    record {
      done = subst (λ (hs : List standing.Hall). map v hs ++ map f (into_iter_items c.next.new.self) ≡ all) (sym pushed)
          (one-more v f at.halls.items made (into_iter_items at.party-iterator) (into_iter_items c.next.new.self) x all
          at.invariant.done steps c.in_ok-hall.ensures.facts);
      fresh = subst (All (λ (hall : standing.Hall). hall.entries ≡ [])) (sym pushed)
          (each-more (λ (hall : standing.Hall). hall.entries ≡ []) at.halls.items made at.invariant.fresh
          c.in_ok-hall.ensures.fresh);
      each = (subst (AllByRecursion (IsWallParty script)) steps at.invariant.each).1;
      left = let was = at.invariant.left in
          let gone = c.in-Some.ensures.steps.1 in
          let short = ap length steps in
          omega arith;
    }

use Rattle.std.proofs.Common.{◌≡◌, ◌+◌, ◌-◌, ◌++◌, ◌∷◌, [], List, map, refl, ap, subst, arith}
use Rattle.std.specs.List.{range_with_len}
use Rattle.std.proofs.lemmas.List.FromFn.{map-range_with_len_more}
use Rattle.script_form.proofs.numbered.numbered.Goals as goal

pub loop-x-init : goal.loop-x-init
loop-x-init g c f holds =
    let none : c.args.first - c.args.first ≡ 0 = omega arith in
    rw (c.new-made.ensures.items, none) refl

pub loop-x-preserved : goal.loop-x-preserved
loop-x-preserved g c f holds =
    let x = c.loop-x.x in
    let first = c.args.first in
    let n = x - first in
    let made : c.in-Ok.t ≡ f x = holds x _ (omega arith) c.in-Ok.ensures in
    let more : x + 1 - first ≡ n + 1 = omega arith in
    let place : first + n ≡ x = omega arith in
    rw (c.in_ok-push-in-Ok.ensures.items, made, more, map-range_with_len_more f first n x place)
    (ap (λ (items : List g.row.T.Denot). items ++ f x ∷ []) (c.loop-x.invariant f holds))

pub returns : goal.returns
returns g c f holds =
    let first = c.args.first in
    let all : c.loop-x.x - first ≡ c.args.count = omega arith in
    subst (λ n. c.loop-x.made.items ≡ map f (range_with_len first n)) all (c.loop-x.invariant f holds)

use Rattle.std.proofs.Common.{◌≡◌, ◌∙◌, sym, subst}
use mathlib.Core.Option.{some-injective}
use Rattle.hall_gate.specs.Rule.{Closes}
use Rattle.hall_gate.proofs.Closing.{closes}
use Rattle.hall_gate.proofs.close.unlock.Goals as goal

pub unreachable-requires : goal.unreachable-requires
unreachable-requires g c = let t = g.T.Turned in
    let closed = closes t.valid t.fixed t.entries t.legal t.caller _ _ _ _ _ (rw c.requires.state at c.close_with-closed.ensures.values.2) c.requires.all in
    c.in_default.not-Some closed.0 (some-injective _ _ (sym c.take-slot.ensures.value ∙ closed.1))

pub returns : goal.returns
returns g c = let t = g.T.Turned in
    let closed = closes t.valid t.fixed t.entries t.legal t.caller _ _ _ _ _ (rw c.requires.state at c.close_with-closed.ensures.values.2) c.requires.all in
    let same : closed.0 ≡ c.in-Some.inner = let e = some-injective _ _ (sym c.take-slot.ensures.value ∙ closed.1) in let is = c.in-Some.is in cc in
    subst (Closes t.valid t.fixed t.entries t.caller c.args.table.shared.key.items c.args.place.me.0.charges) same closed.2

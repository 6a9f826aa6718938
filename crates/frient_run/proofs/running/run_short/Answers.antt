use Rattle.std.proofs.Common.{refl, ◌∙◌}
use Rattle.fr_digest.specs.Digest.{short_digest}
use Rattle.script_read.specs.declared.script.DigestName.TheVariants as names
use Rattle.frient_run.proofs.Landing.{came, whole_of}
use Rattle.frient_run.proofs.running.run_short.Goals as goal

pub returns : goal.returns
returns g c =
    let view = g.W.Wire.view in
    let script = c.args.script.now in
    let wires = c.args.wires.items in
    let ran = c.in_ok-outcomes.field-0 in
    let run = c.in_ok-outcomes.ensures in
    came names.Short script view wires _ ran.halls.items c.requires.digest refl
    (whole_of short_digest view script wires ran c.requires.sixteen run) (run.sixteen ∙ c.requires.sixteen)

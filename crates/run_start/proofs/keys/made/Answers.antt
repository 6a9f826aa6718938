use Rattle.std.proofs.Common.{◌∙◌, ap}
use Rattle.lms_params.specs.declared.pair.Pair.{Pair}
use Rattle.lms_tree.specs.Signer.{Signing}
use Rattle.run_start.specs.declared.keys.Party.{Party}
use Rattle.run_start.specs.Keys.{unused}
use Rattle.run_start.proofs.Rows.{pair-is}
use Rattle.run_start.proofs.keys.made.Goals as goal

pub returns-in-Ok : goal.returns-in-Ok
returns-in-Ok c =
    let seed = c.args.seed.now in
    let party : Signing → Party = λ s. record { number = seed.number; signer = s } in
    ap party (
    c.in-Ok.ensures.made
    ∙ ap (λ (p : Pair). unused seed.private seed.id p)
    (pair-is seed.lms seed.ots c.in-Some.pair c.in-Some.ensures.table))

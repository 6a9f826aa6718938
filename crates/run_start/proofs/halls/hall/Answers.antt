use Rattle.std.proofs.Common.{◌∙◌, ap}
use Rattle.run_start.specs.declared.keys.Party.{Party}
use Rattle.run_start.specs.Numbers.{the_wall}
use Rattle.run_start.proofs.Chosen.{known-wall}
use Rattle.run_start.proofs.Rows.{tall-height}
use Rattle.run_start.proofs.halls.hall.Goals as goal

pub make-requires-clause-tall : goal.make-requires-clause-tall
make-requires-clause-tall g c =
    let script = c.args.script.now in
    let n = c.args.party.number in
    ap (λ (p : Party). p.signer.pair.lms.h) c.requires.party.made
    ∙ tall-height (the_wall script n).ots (known-wall script c.requires.script n c.requires.party.listed).ranges.ots

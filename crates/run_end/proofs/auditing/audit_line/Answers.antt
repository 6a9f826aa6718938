use Rattle.run_end.proofs.Lines.{forged-op}
use Rattle.run_end.proofs.auditing.audit_line.Goals as goal

pub forged_line-requires : goal.forged_line-requires
forged_line-requires g c =
    let it = c.in-Err-Forged in
    let found = rw it.field-0-is at it.ensures.forged in
    forged-op g.D.Digester.digest_of c.args.world.now c.requires it.user it.wall it.op (found it.user it.wall it.op cc)

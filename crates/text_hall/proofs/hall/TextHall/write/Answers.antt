use Rattle.text_hall.proofs.Playing.{kept_more}
use Rattle.text_hall.proofs.hall.TextHall.write.Goals as goal

pub returns-clause-kept : goal.returns-clause-kept
returns-clause-kept g c = λ kept. let hung = c.hang-reply.ensures in
    rw (c.add.ensures, hung.same.0, hung.same.1)
    (kept_more g.D.Digester.digest_of _ _ _ _ _ kept (rw c.as_slice.ensures at (hung.gives kept))
    (rw c.as_slice.ensures at (hung.root kept)))

use Rattle.std.proofs.Common.{[], ◌∷◌, arith}
use Rattle.audit_worlds.proofs.Staying.{on-ok, together-set}
use Rattle.audit_bench.proofs.people.People.take_post.Goals as goal

pub returns : goal.returns
returns g c =
    let self = c.args.self.now in
    on-ok c.take.result c.take.ensures (λ same. together-set (self.note ∷ []) (self.writer ∷ self.reader ∷ []) 0
    c.take.new.client self.writer (omega arith) same c.requires.together)

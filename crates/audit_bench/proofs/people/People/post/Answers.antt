use Rattle.std.proofs.Common.{[], ◌∷◌, arith}
use Rattle.audit_worlds.proofs.Staying.{on-ok, together-set}
use Rattle.audit_bench.proofs.people.People.post.Goals as goal

pub returns-clause-together : goal.returns-clause-together
returns-clause-together g c =
    let self = c.args.self.now in
    on-ok c.post.result c.post.ensures.same (λ same. together-set (self.note ∷ []) (self.writer ∷ self.reader ∷ []) 0
    c.post.new.client self.writer (omega arith) same c.requires)

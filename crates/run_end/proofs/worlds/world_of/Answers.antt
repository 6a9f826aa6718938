use Rattle.std.proofs.Common.{sym, subst, List}
use Rattle.world_book.specs.declared.book.UserBook.{UserBook}
use Rattle.world_book.specs.Kept.{Kept}
use Rattle.run_end.proofs.Together.{together-kept}
use Rattle.run_end.proofs.worlds.world_of.Goals as goal

pub returns-clause-kept : goal.returns-clause-kept
returns-clause-kept g c together =
    let d = g.D.Digester.digest_of in
    subst (λ (books : List UserBook). Kept d (record { users = books; walls = c.args.notes }))
    (sym c.in_ok-users.ensures.value)
    (together-kept d c.args.notes c.args.clients.items c.in_ok-users.ensures.ended together)

use Rattle.std.proofs.Common.{◌≡◌, ◌∙◌, ◌<◌, List, length, slice_index_or, ap, subst}
use Rattle.hall_server.specs.declared.seats.Seats.{Seats}
use Rattle.hall_server.specs.Sights.{user_of}
use Rattle.run_phases.proofs.Finding.{takes}
use Rattle.run_phases.proofs.running.Running.take_user.Goals as goal

pub returns-clause-taken : goal.returns-clause-taken
returns-clause-taken g c =
    let i = c.place_of-place.result in
    let same = c.as_slice.ensures.value in
    let within = subst (λ (l : List (Seats g.row.D.Denot)). i < length l) same c.place_of-place.ensures.within in
    let here = subst (λ (l : List (Seats g.row.D.Denot)). user_of (slice_index_or l i c.remove-2.result) ≡ c.args.user)
    same (c.place_of-place.ensures.here c.remove-2.result) in
    takes c.args.user c.args.self.now.clients.items c.remove.new.self.items c.args.self.now.seats.items
    c.remove-2.new.self.items i c.remove.result c.remove-2.result c.requires.even within c.remove.ensures.value
    c.remove-2.ensures.value c.remove.ensures.items c.remove-2.ensures.items (ap user_of c.remove-2.ensures.value ∙ here)

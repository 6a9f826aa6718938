use Rattle.fr_bytes.proofs.HistoryLaws as laws
use Rattle.fr_bytes.proofs.history.turns_grow.Goals as goal

pub returns : goal.returns
returns g c = λ caller. laws.turns_grow caller g.row.L.Denot

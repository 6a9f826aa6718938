use Rattle.fr_bytes.proofs.HistoryLaws as laws
use Rattle.fr_bytes.proofs.history.turns_stay.Goals as goal

pub returns : goal.returns
returns g c = λ caller. laws.turns_stay caller g.row.L.Denot

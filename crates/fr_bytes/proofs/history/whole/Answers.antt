use Rattle.fr_bytes.proofs.HistoryLaws as laws
use Rattle.fr_bytes.proofs.history.whole.Goals as goal

pub returns : goal.returns
returns g c = λ caller. laws.whole caller

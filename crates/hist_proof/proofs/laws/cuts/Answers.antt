use Rattle.hist_proof.proofs.Spellings.{cut-spelled}
use Rattle.hist_proof.proofs.Trees.{cut-again, cut-fits, cut-shown, prunes-cut}
use Rattle.hist_proof.proofs.laws.cuts.Goals as goal

pub returns : goal.returns
returns g c = record {
  fits = cut-fits;
  texts = cut-shown;
  spelled = cut-spelled;
  again = cut-again;
  front = prunes-cut g.D.Digester.digest_of;
}

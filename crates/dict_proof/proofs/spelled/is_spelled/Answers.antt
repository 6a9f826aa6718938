use Rattle.dict_proof.specs.View.{list_view}
use Rattle.dict_proof.proofs.Levels.{some_level}
use Rattle.dict_proof.proofs.Views.{list_view-some}
use Rattle.dict_proof.proofs.spelled.is_spelled.Goals as goal

pub returns : goal.returns
returns c = (
  λ is. let fits = c.is_within.ensures.0 is in record {
    some = some_level (list_view c.args.p.now) (list_view-some c.args.p.now);
    low = fits.0;
    ranges = fits.1;
  },
  λ h. c.is_within.ensures.1 (h.low, h.ranges),
)

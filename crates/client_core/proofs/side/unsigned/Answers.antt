use Rattle.std.proofs.Common.{◌∙◌, sym, subst, arith}
use Rattle.fr_bytes.proofs.Limits.{limited_none}
use Rattle.fr_bytes.specs.Parts.{IsLimited}
use Rattle.op_types.specs.declared.limits.TheConstants.{SIGNATURE_BYTES_MAX}
use Rattle.client_core.proofs.side.unsigned.Goals as goal

pub returns-clause-is_op : goal.returns-clause-is_op
returns-clause-is_op c = record {
  wall = c.ranges.wall.fits;
  author = c.ranges.author.fits;
  seq = (omega arith, c.requires.number);
  epoch = c.ranges.epoch.fits;
  view = c.requires.view;
  kind = c.requires.kind;
  sig = subst (IsLimited SIGNATURE_BYTES_MAX) (sym (c.of.ensures
      ∙ c.new.ensures.items)) (limited_none SIGNATURE_BYTES_MAX);
}

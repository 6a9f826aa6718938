use Rattle.std.proofs.Common.{◌∙◌, ◌<◌, ◌^◌, length, sym, subst}
use Rattle.fr_bytes.specs.Bytes.{IsBytes, Text}
use Rattle.client_core.proofs.Texts.{op-short}
use Rattle.client_core.proofs.signing.Draft.of.Goals as goal

pub write_request-requires : goal.write_request-requires
write_request-requires c =
    let text = c.in_ok-copy.ensures ∙ c.in_ok-text.ensures in (
      c.requires.wall,
      (
        c.ranges.have.fits,
        (
          subst (λ (t : Text). length t < 2 ^ 32) (sym text) (op-short c.args.op c.requires),
          subst IsBytes (c.as_slice.ensures ∙ sym c.in_ok-copy.ensures) c.slices_of_bytes.ensures,
        ),
      ),
    )

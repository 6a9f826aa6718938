use Rattle.std.proofs.Common.{[], ◌∷◌}
use Rattle.std.specs.Int.{w32, w64, to_be_bytes}
use Rattle.msg_form.specs.declared.tags.TheConstants.{LOOK_TAG, KEYS_TAG}
use Rattle.msg_form.specs.Formats.{flag}
use Rattle.msg_form.proofs.Joining.{joined3, joined4}
use Rattle.msg_form.proofs.writing.put_request.Goals as goal

pub returns-in_ok-put_flag-in-Look : goal.returns-in_ok-put_flag-in-Look
returns-in_ok-put_flag-in-Look c =
    rw (
      c.in-Look.is,
      c.in_ok-put_flag-in-Look.ensures,
      c.in_ok-put_u64-in-Look.ensures.appended,
      c.in_ok-put_u32-in-Look.ensures.appended,
      c.in_ok-put_u8-in-Look.ensures.appended,
    )
    (joined4 c.args.out.now.items (LOOK_TAG ∷ []) (to_be_bytes w32 c.in-Look.wall) (to_be_bytes w64 c.in-Look.have) (flag.text c.in-Look.whole))

pub returns-in_ok-put_u64-in-Keys : goal.returns-in_ok-put_u64-in-Keys
returns-in_ok-put_u64-in-Keys c =
    rw (c.in-Keys.is, c.in_ok-put_u64-in-Keys.ensures.appended, c.in_ok-put_u32-in-Keys.ensures.appended, c.in_ok-put_u8-in-Keys.ensures.appended)
    (joined3 c.args.out.now.items (KEYS_TAG ∷ []) (to_be_bytes w32 c.in-Keys.wall) (to_be_bytes w64 c.in-Keys.size))

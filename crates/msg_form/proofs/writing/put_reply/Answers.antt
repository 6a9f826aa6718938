use Rattle.std.proofs.Common.{◌-◌, [], ◌∷◌}
use Rattle.std.specs.Int.{w32, w64, to_be_bytes}
use Rattle.fr_bytes.specs.Bytes.{counted}
use Rattle.op_types.specs.Spelling.{view_text}
use Rattle.msg_form.specs.declared.tags.TheConstants.{SHOW_TAG, REFUSED_TAG, KEY_OPS_TAG}
use Rattle.msg_form.specs.Formats.{shown}
use Rattle.msg_form.proofs.Joining.{joined4, joined5}
use Rattle.msg_form.proofs.writing.put_reply.Goals as goal

pub returns-in_ok-put_shown-in-Show : goal.returns-in_ok-put_shown-in-Show
returns-in_ok-put_shown-in-Show c =
    let view = c.in-Show.view in
    let text = (shown (view.size - c.in-Show.from)).text (c.in-Show.tree, c.in-Show.dicts) in
    rw (
      c.in-Show.is,
      c.in_ok-put_shown-in-Show.ensures,
      c.in_ok-put_u64-in-Show.ensures.appended,
      c.in_ok-put_view-in-Show.ensures.added,
      c.in_ok-put_u32-in-Show.ensures.appended,
      c.in_ok-put_u8-in-Show.ensures.appended,
    )
    (joined5 c.args.out.now.items (SHOW_TAG ∷ []) (to_be_bytes w32 view.wall) (view_text view) (to_be_bytes w64 c.in-Show.from) text)

pub returns-in_ok-put_u64-in-Refused : goal.returns-in_ok-put_u64-in-Refused
returns-in_ok-put_u64-in-Refused c =
    rw (
      c.in-Refused.is,
      c.in_ok-put_u64-in-Refused.ensures.appended,
      c.in_ok-put_u8-in-Refused-2.ensures.appended,
      c.in_ok-put_u32-in-Refused.ensures.appended,
      c.in_ok-put_u8-in-Refused.ensures.appended,
    )
    (joined4 c.args.out.now.items (REFUSED_TAG ∷ []) (to_be_bytes w32 c.in-Refused.wall) (c.in-Refused.cause ∷ []) (to_be_bytes w64 c.in-Refused.number))

pub returns-in_ok-put_counted-in-KeyOps : goal.returns-in_ok-put_counted-in-KeyOps
returns-in_ok-put_counted-in-KeyOps c =
    rw (
      c.in-KeyOps.is,
      c.in_ok-put_counted-in-KeyOps.ensures.appended,
      c.as_slice.ensures,
      c.in_ok-put_u64-in-KeyOps.ensures.appended,
      c.in_ok-put_u32-in-KeyOps.ensures.appended,
      c.in_ok-put_u8-in-KeyOps.ensures.appended,
    )
    (joined4 c.args.out.now.items (KEY_OPS_TAG ∷ []) (to_be_bytes w32 c.in-KeyOps.wall) (to_be_bytes w64 c.in-KeyOps.size) (counted c.in-KeyOps.tree))

use Rattle.std.proofs.Common.{◌≡◌, List, ℕ, ◌++◌, append_assoc}
use Rattle.std.specs.Int.{w32, w64, to_be_bytes}
use Rattle.op_types.specs.Spelling.{view_text, kind_text, unsigned_text}
use Rattle.op_types.proofs.writing.put_unsigned.Goals as goal

-- six pieces, appended one after the other
joined : (o a b c d e f : List ℕ) → (((((o ++ a) ++ b) ++ c) ++ d) ++ e) ++ f ≡ o ++ (a ++ (b ++ (c ++ (d ++ (e ++ f)))))
joined o a b c d e f = simp append_assoc

pub returns : goal.returns
unfolding unsigned_text
returns c =
    let op = c.args.op.now in
    rw (c.in_ok-put_kind.ensures, c.in_ok-put_view.ensures.added, c.in_ok-put_u64.ensures.appended, c.in_ok-put_u32-3.ensures.appended, c.in_ok-put_u32-2.ensures.appended, c.in_ok-put_u32.ensures.appended)
    (joined c.args.out.now.items (to_be_bytes w32 op.wall) (to_be_bytes w32 op.author) (to_be_bytes w32 op.seq) (to_be_bytes w64 op.epoch) (view_text op.view) (kind_text op.kind))

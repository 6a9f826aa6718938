use Rattle.std.proofs.Common.{arith}
use Rattle.std.proofs.lemmas.Result.{IfOk-weaker}
use Rattle.pruned_list.specs.PrunedList.{hidden}
use Rattle.dict_proof.specs.Spelling.{Spells}
use Rattle.dict_proof.specs.View.{list_view}
use Rattle.hall_replies.specs.Shown.{SpellsShort}
use Rattle.hall_replies.proofs.ListTexts.{hidden-short, too-long}
use Rattle.hall_replies.proofs.lists.short_text.Goals as goal

pub returns-then-not-is_spelled : goal.returns-then-not-is_spelled
returns-then-not-is_spelled c =
    IfOk-weaker c.hidden_text.result (Spells (hidden c.args.digest)) (SpellsShort (list_view c.args.list))
    (λ bytes it. hidden-short (list_view c.args.list) c.args.digest bytes it
    (λ is small. let so = c.is_spelled.ensures.1 is in absurd cc)) c.hidden_text.ensures

pub returns-then-len-gt-LIST_BYTES_MAX : goal.returns-then-len-gt-LIST_BYTES_MAX
returns-then-len-gt-LIST_BYTES_MAX c =
    IfOk-weaker c.hidden_text-then-len-gt-LIST_BYTES_MAX.result (Spells (hidden c.args.digest)) (SpellsShort (list_view c.args.list))
    (λ bytes it. hidden-short (list_view c.args.list) c.args.digest bytes it
    (too-long (list_view c.args.list) c.in_ok-bytes.bytes c.in_ok-bytes.ensures (omega (arith, c.len.ensures, c.if-len-gt-LIST_BYTES_MAX.true))))
    c.hidden_text-then-len-gt-LIST_BYTES_MAX.ensures

use Rattle.std.proofs.Common.{sym, ◌∙◌}
use Rattle.script_form.proofs.Texts.{words_of}
use Rattle.script_form.proofs.shown.printable.Goals as goal

pub returns-then-is_printable_text : goal.returns-then-is_printable_text
returns-then-is_printable_text c = rw c.ok.ensures.value (words_of c.args.text.now c.from_utf8.result _
    (sym c.is_printable_text.ensures ∙ c.if-is_printable_text.true) c.from_utf8.ensures.cases)

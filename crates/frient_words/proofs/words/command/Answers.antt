use Rattle.std.proofs.Common.{rules, codes, map, ◌≡◌, ◌∙◌, List, []}
use Rattle.std.specs.Prelude.{true, ◌∷◌}
use Rattle.std.proofs.Common.{ap, ap₂}
use Rattle.std.proofs.lemmas.Result.{IfOk-weaker}
use Rattle.clap.specs.Built.{AddsArg}
use Rattle.clap.specs.Simple.{app_of_fields, on_top}
use Rattle.clap.specs.Words.{App, app_of, new_app, rule_of, with_rule}
use Rattle.frient_words.specs.Words.{IsFrient, IsRunAlone, number, verb}
use Rattle.frient_words.proofs.words.command.Goals as goal

pub returns : goal.returns
returns c =
    let given = c.value_parser-verb.ensures.given in
    let words_are : map (λ s. s.now) c.as_slice.result.now ≡ codes "run" ∷ [] = search rules in
    let run : IsRunAlone given.0 = (c.as_slice.result, given.2, words_are) in
    let verb_is : rule_of c.value_parser-verb.result ≡ verb given.0 = search rules in
    let number_is : rule_of c.long-number.result ≡ number = search rules in
    let nameless_is : app_of c.no_binary_name-nameless.result ≡ on_top (λ s. record s { no_binary_name = true }) (new_app (codes "frient")) =
    ap app_of_fields c.no_binary_name-nameless.ensures ∙ ap (on_top (λ s. record s { no_binary_name = true })) c.new-3.ensures.app in
    let first_is = c.in_ok-arg.ensures.shape (search rules) ∙ ap₂ with_rule nameless_is verb_is in
    IfOk-weaker c.arg-2.result (AddsArg c.in_ok-arg.field-0 c.long-number.result) IsFrient
    (λ r h. (given.0, run, h.shape (search rules) ∙ ap₂ with_rule first_is number_is)) c.arg-2.ensures

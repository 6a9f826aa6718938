use Rattle.std.proofs.Common.{sym, ap, ◌∙◌, Bool}
use Rattle.check_rules.specs.Verdict.{early_verdict}
use Rattle.check_core.proofs.Unfitting.{unfit-from, unfit-same, unfit-shape, unfit-verdict}
use Rattle.check_core.proofs.judging.judge_unfitting.Goals as goal

pub returns-in-Some : goal.returns-in-Some
returns-in-Some c = λ d tree lists unfit. sym
    (unfit-verdict d c.args.known.now c.args.asked.now c.args.view.now c.args.from tree lists
    c.in-Some.verdict unfit
    (ap (λ (b : Bool). early_verdict c.args.known.now b c.args.view.now) (sym c.is_other_wall.ensures)
    ∙ sym c.early_verdict.ensures ∙ c.in-Some.is))

pub returns-then-is_same_size : goal.returns-then-is_same_size
returns-then-is_same_size c = λ d tree lists unfit.
    c.nothing_new.ensures ∙ sym
    (unfit-same d c.args.known.now c.args.asked.now c.args.view.now c.args.from tree lists unfit
    (ap (λ (b : Bool). early_verdict c.args.known.now b c.args.view.now) (sym c.is_other_wall.ensures)
    ∙ sym c.early_verdict.ensures ∙ c.in_default.is)
    (sym c.is_same_size.ensures ∙ c.if-is_same_size.true))

pub returns-then-is_bad_from : goal.returns-then-is_bad_from
returns-then-is_bad_from c = λ d tree lists unfit.
    sym (unfit-from d c.args.known.now c.args.asked.now c.args.view.now c.args.from tree lists unfit
    (ap (λ (b : Bool). early_verdict c.args.known.now b c.args.view.now) (sym c.is_other_wall.ensures)
    ∙ sym c.early_verdict.ensures ∙ c.in_default.is)
    (sym c.is_same_size.ensures ∙ c.if-is_same_size.false) (sym c.is_bad_from.ensures ∙ c.if-is_bad_from.true))

pub returns : goal.returns
returns c = λ d tree lists unfit.
    sym (unfit-shape d c.args.known.now c.args.asked.now c.args.view.now c.args.from tree lists unfit
    (ap (λ (b : Bool). early_verdict c.args.known.now b c.args.view.now) (sym c.is_other_wall.ensures)
    ∙ sym c.early_verdict.ensures ∙ c.in_default.is)
    (sym c.is_same_size.ensures ∙ c.if-is_same_size.false) (sym c.is_bad_from.ensures ∙ c.if-is_bad_from.false))

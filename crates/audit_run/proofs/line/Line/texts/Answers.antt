use Rattle.std.proofs.Common.{◌≡◌, ◌∙◌, ap, sym, arith, map, take, Some}
use Rattle.std.specs.List.{take-map}
use Rattle.op_types.specs.Spelling.{leaf_text}
use Rattle.audit_run.specs.Line.{History}
use Rattle.audit_run.proofs.Lines.{text-at}
use Rattle.audit_run.proofs.Places.{grown}
use Rattle.audit_run.proofs.line.Line.texts.Goals as goal

pub loop-k-preserved : goal.loop-k-preserved
loop-k-preserved g c =
    grown (map leaf_text c.args.self.now.leaves) c.loop-k.texts.items c.push.new.self.items c.loop-k.k c.in_ok-copy.field-0
    c.loop-k.invariant c.in_ok-push.ensures.items
    (text-at c.self.inside.placed.items c.args.self.now.leaves c.self.inside.texts c.loop-k.k c.item.result.now
    c.self.invariant.3 (ap (λ (h : History). h.leaves) c.self.view_is) c.item.ensures
    ∙ ap (λ t. Some t) (sym c.in_ok-copy.ensures))

pub returns : goal.returns
returns g c =
    let past = c.loop-k-test.false in
    let within = c.loop-k.auto.k-end in
    let e : c.loop-k.k ≡ c.args.v = omega arith in
    c.of.ensures ∙ c.loop-k.invariant ∙ ap (λ n. take n (map leaf_text c.args.self.now.leaves)) e
    ∙ take-map leaf_text c.args.v c.args.self.now.leaves

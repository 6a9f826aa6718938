use Rattle.std.proofs.Common.{◌≡◌, Option, Some, None, true, false, not, refl, sym, ap, ◌∙◌, arith}
use Rattle.std.specs.Option.{option_copied, option_map}
use denote.Ref.{Bor}
use Rattle.op_types.specs.declared.op.Leaf.{Leaf}
use Rattle.check_rules.proofs.Present.{anchored, seen}
use Rattle.check_core.proofs.shown.anchor.Goals as goal

copied : (r : Option (Bor Leaf)) → option_map (λ (l : Bor Leaf). l.now) r ≡ option_copied r
copied None = refl
copied (Some x) = refl

pub returns : goal.returns
returns g c =
    let some = seen _ c.leaf_at.result _ _ c.leaf_at.ensures (c.is_none.ensures ∙ ap not c.if-is_none.false) in
    copied c.last.result ∙ c.last.ensures.value
    ∙ anchored c.args.tree.now.tree c.args.tree.now.size c.args.from c.args.before.now
    (omega arith) c.requires.holds some c.requires.read

use Rattle.std.proofs.Common.{ℕ, List, [], ◌∷◌, ◌++◌, ◌∙◌, ap, drop, map}
use Rattle.vouch_rule.specs.declared.vouch.Vouch.{Vouch}
use Rattle.hall_replies.specs.Kept.{leaves_of}
use Rattle.hall_replies.proofs.Vouches.{sizes-of}
use Rattle.hall_replies.proofs.tree.versions.Goals as goal

pub returns : goal.returns
returns g c =
    c.in_ok-push.ensures.items
    ∙ ap (λ (ns : List ℕ). ns ++ c.args.have ∷ []) (c.in_ok-sizes.ensures
    ∙ ap (map (λ (o : Vouch). o.size)) (c.deref.ensures.value ∙ c.in_ok-ops.ensures)
    ∙ sizes-of (drop c.args.from (leaves_of c.args.snap.now)))

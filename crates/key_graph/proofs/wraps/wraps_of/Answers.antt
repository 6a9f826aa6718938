use Rattle.std.proofs.Common.{◌≡◌, ◌+◌, ◌^◌, ◌∷◌, ◌++◌, [], ◌∙◌, reverse, ap, List, arith}
use Rattle.key_graph.specs.declared.change.Change.{Change}
use Rattle.key_graph.proofs.Histories.{newest_above}
use Rattle.std.proofs.lemmas.List.{reverse-append}
use Rattle.key_graph.proofs.wraps.wraps_of.Goals as goal

pub put_wraps-requires-clause-newest : goal.put_wraps-requires-clause-newest
put_wraps-requires-clause-newest c x h =
    let e : reverse c.as_slice-changes.result.now ≡ c.args.change.now ∷ reverse c.args.before.now =
    ap reverse (c.as_slice-changes.ensures.value ∙ (c.in_ok-push.ensures.items ∙ ap (λ (xs : List Change). xs ++ c.args.change.now ∷ []) c.in_ok-after.ensures.items))
    ∙ reverse-append c.args.before.now (c.args.change.now ∷ []) in
    let n : c.from-first.result + c.from.result ≡ 2 ^ c.args.setting.now.depth + c.args.change.now.slot = omega arith in
    rw e (newest_above c.args.setting.now.depth c.args.change.now (reverse c.args.before.now) x (rw n at h))

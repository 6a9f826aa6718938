use Rattle.std.proofs.Common.{◌≡◌, ◌+◌, ◌-◌, ◌*◌, ◌/◌, ◌^◌, ◌<◌, ◌≤◌, ◌++◌, Some, None, reverse, sym, subst, ◌∙◌, append_assoc, arith}
use Rattle.std.specs.Prelude.{if◌then◌else◌, OnOk}
use Rattle.std.specs.Option.{option_to_list}
use Rattle.std.proofs.Math.Pow.{pow_mono}
use Rattle.key_graph.specs.KeyTree.{has_member, key_at, wrap_at, wraps_above}
use Rattle.key_graph.proofs.Histories.{above_leaves, level, pow_step, key_above, first_above, others_above}
use Rattle.key_graph.proofs.wraps.+put_wraps.Goals as goal
use Rattle.key_graph.proofs.wraps.+put_wraps.Goals.{then-has_member, else-has_member}

pub put_wrap-requires-clause-child : goal.put_wrap-requires-clause-child
put_wrap-requires-clause-child t c =
    let h : 2 ^ c.args.setting.now.depth ≤ 2 ^ 6 = pow_mono c.requires.depth.0 in
    let two : 2 ≤ c.args.n = above_leaves c.args.levels c.args.n (omega arith) c.requires.node.0 in omega arith

pub put_wrap-requires-2-clause-child : goal.put_wrap-requires-2-clause-child
put_wrap-requires-2-clause-child t c =
    let h : 2 ^ c.args.setting.now.depth ≤ 2 ^ 6 = pow_mono c.requires.depth.0 in
    let two : 2 ≤ c.args.n = above_leaves c.args.levels c.args.n (omega arith) c.requires.node.0 in omega arith

pub put_wraps-requires : goal.put_wraps-requires
put_wraps-requires t c =
    let positive : 0 < c.args.levels = omega arith in
    let step : 2 ^ c.args.levels ≡ 2 * 2 ^ (c.args.levels - 1) = pow_step c.args.levels positive in
    let cs = reverse c.args.changes.now in
    let above : c.if-has_member.above ≡ (if has_member c.args.setting.now.depth cs (c.args.n / 2) then Some c.inner_key-new.result else None) =
    elim c.if-has_member.branch [
      | then-has_member w ↦ rw (sym c.has_member.ensures ∙ w.if-has_member.true) w.above-is
      | else-has_member w ↦ rw (sym c.has_member.ensures ∙ w.if-has_member.false) w.above-is
    ] in
    let key : c.if-has_member.above ≡ key_at c.args.setting.now cs (c.args.n / 2) =
    above ∙ sym (key_above c.args.setting.now cs c.args.gen_ (c.args.n / 2) c.inner_key-new.result (omega arith)
    (c.requires.newest (c.args.n / 2) (first_above c.args.levels c.args.n positive)) c.inner_key-new.ensures) in (
      omega arith,
      (
        (c.requires.depth.0, omega arith),
        (
          (omega arith, omega arith),
          (
            omega arith,
            (
              key,
              λ x h. c.requires.newest x (others_above c.args.levels c.args.n x positive h),
            ),
          ),
        ),
      ),
    )

pub returns-clause-wraps : goal.returns-clause-wraps
returns-clause-wraps t c =
    let cs = reverse c.args.changes.now in
    let w = wrap_at c.args.setting.now cs c.args.gen_ in
    let left = option_to_list (w (2 * (c.args.n / 2))) in
    let right = option_to_list (w (2 * (c.args.n / 2) + 1)) in
    let above = wraps_above c.args.setting.now cs c.args.gen_ (c.args.levels - 1) (c.args.n / 2) in
    let out = c.args.out.now.items in
    let e : c.put_wrap-2.new.out.items ++ above ≡ out ++ wraps_above c.args.setting.now cs c.args.gen_ c.args.levels c.args.n =
    rw (level c.args.setting.now cs c.args.gen_ c.args.levels c.args.n (omega arith), c.in_ok-put_wrap-2.ensures.wraps, c.in_ok-put_wrap.ensures.wraps)
    (append_assoc (out ++ left) right above ∙ append_assoc out left (right ++ above)) in
    subst (λ xs. OnOk c.put_wraps.result (c.put_wraps.new.out.items ≡ xs)) e c.put_wraps.ensures.wraps

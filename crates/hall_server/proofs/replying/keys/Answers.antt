use Rattle.std.proofs.Common.{◌⊎◌, ◌≡◌, ◌<◌, ◌≤◌, length, inl, inr, rules}
use Rattle.std.proofs.lemmas.Result.{IfOk-weaker}
use Rattle.msg_form.specs.declared.causes.TheConstants.{BAD_REQUEST}
use Rattle.honest_replies.specs.HonestReply.{KeysReply}
use Rattle.hall_server.specs.HonestReplies.{Refuses, ShowsKeys}
use Rattle.hall_server.proofs.KeyReplies.{keys_refused, keys_shown}
use Rattle.hall_server.proofs.replying.keys.Goals as goal
use Rattle.hall_server.proofs.replying.keys.Goals.{then-size-eq0-via-then-size-eq0, then-size-eq0-via-else-size-eq0+then-size}

pub returns-then-size-eq0 : goal.returns-then-size-eq0
returns-then-size-eq0 g c = λ facts L stands honest.
    let s = c.args.snapshot.now in
    let d = g.D.Digester.digest_of in
    let why : (c.args.size ≡ 0) ⊎ (length s.history < c.args.size) = elim c.then-size-eq0.branch [
      | then-size-eq0-via-then-size-eq0 w ↦ inl (search (rules, w.if-size-eq0.true))
      | then-size-eq0-via-else-size-eq0+then-size w ↦ inr (search (rules, w.size.ensures, w.if-size.true))
    ] in
    IfOk-weaker c.refuse.result (Refuses c.view.result.now.wall BAD_REQUEST 0) (ShowsKeys d facts.wall L c.args.size)
    (λ bytes it. keys_refused d facts L s stands c.args.size bytes why (rw c.view.ensures at it)) c.refuse.ensures

pub returns : goal.returns
returns g c = λ facts L stands honest.
    let s = c.args.snapshot.now in
    let d = g.D.Digester.digest_of in
    let some : 0 < c.args.size = search (rules, c.if-size-eq0.false) in
    let within : c.args.size ≤ length s.history = search (rules, c.size.ensures, c.if-size.false) in
    IfOk-weaker c.show_keys.result (KeysReply d facts.wall L c.args.size) (ShowsKeys d facts.wall L c.args.size)
    (λ bytes it. keys_shown d facts L s stands c.args.size bytes some within it)
    (c.show_keys.ensures facts L stands honest)

-- One task, from what the client, the server and the wire did for it.
use Rattle.std.proofs.Common.{◌≡◌, ◌∙◌, ℕ, true, false, List, [], ◌∷◌, ◌++◌, Option, Some, None, Ok, Err, refl, sym, ap, subst}
use Rattle.std.specs.Prelude.{IfSome}
use Rattle.fr_bytes.specs.Bytes.{IsBytes, Text}
use Rattle.fr_digest.specs.Digest.{Digest}
use Rattle.fr_edges.specs.Wire.{WireView}
use Rattle.msg_form.specs.declared.decline.Decline.{Decline}
use Rattle.msg_form.specs.declared.message.Request.{Request}
use Rattle.msg_form.specs.declared.message.Request.TheVariants as requests
use Rattle.hall_core.specs.declared.ask.Ask.{Ask}
use Rattle.hall_core.specs.declared.ask.Ask.TheVariants as asks
use Rattle.hall_server.specs.Answers.{Sights}
use Rattle.script_form.specs.declared.outcome.CommandEnd.TheVariants as ends
use Rattle.script_form.specs.declared.outcome.KeysEnd.TheVariants as keys_ends
use Rattle.client_core.specs.declared.sent.Sent.{Sent}
use Rattle.client_core.specs.Asking.{ask}
use Rattle.client_core.specs.Sides.{SideView, side_of, with_side}
use Rattle.session_laws.specs.Doing.{Carry, Done, Exchange, Hearing, Heard, Learning, Task, ask_of, asked_by, asks_keys, done, done_alone, done_declined, done_heard, done_keyed, done_sent, end_of, exchange, heard_by, hearing, keys_end, keys_exchange, learning, on, outcome_of, request_of, sent_from, sent_side, shown_of, side_heard, side_learnt, wall_of}
use Rattle.session_laws.specs.Halves.{SeatHalf, WireHalf}
use Rattle.session_laws.specs.Lanes.{LaneView, Passed, TaskRun}
use Rattle.session_laws.proofs.Steps.{done-alone, done-asked, done-declined, done-keyed, seat-turn}
use Rattle.session_laws.proofs.Stretches.{seat-nothing, seat-then, wire-nothing, wire-then}
use Rattle.session_laws.proofs.Streams.{on-append}

-- a carry that wasn't made
abbrev no-carry : Carry
no-carry = record { reply = []; delivered = None; faults = 0 }

-- ---- a command that is declined

pub task-declined : (d : Digest) (user : ℕ) (before : LaneView) (task : Task) (s : SideView) (decline : Decline)
    → side_of (wall_of task.command) before.client.sides ≡ Some s
    → ask before.client.signer before.client.user s (asked_by task.command) ≡ Err decline
    → TaskRun d user before (record before {
      outcomes = before.outcomes ++ outcome_of task (ends.Declined decline) [] keys_ends.Fine ∷ [];
    }) task
task-declined d user before task s decline found asked =
    let h : Heard = record { task = task; first = no-carry; keys = no-carry } in
    let is : done d before.client h ≡ done_declined before.client task decline =
    done-declined d before.client h s decline found asked in
    record {
      heard = h;
      asked = refl;
      bytes = (tt, tt);
      told = ap (λ (x : Done). before.outcomes ++ x.outcome ∷ []) (sym is);
      knows = ap (λ (x : Done). x.client) (sym is);
      seats = λ wall.
          subst (λ (x : Done). SeatHalf d user (before.seat wall) (before.seat wall) (on wall x.exchanges)) (sym is)
          (seat-nothing d user (before.seat wall));
      wire = subst (λ (x : Done). WireHalf before.wire before.wire x.exchanges) (sym is) (wire-nothing before.wire);
    }

-- ---- a command of one exchange

seats-passed : (d : Digest) (user : ℕ) (before now : Sights) (wire wire' : WireView) (task : Task) (request : Request)
    (a : Ask) (delivered : Option Text) (p : Passed d user before now wire wire' request a delivered) (wall : ℕ)
    → SeatHalf d user (before wall) (now wall) (on wall (exchange task request a p.carry ∷ []))
seats-passed d user before now wire wire' task request a delivered p wall =
    seat-turn d user before now (exchange task request a p.carry) p.answers wall

pub task-alone : (d : Digest) (user : ℕ) (before now : LaneView) (task : Task) (s : SideView) (sent : Sent)
    (delivered : Option Text) (j : Hearing)
    → side_of (wall_of task.command) before.client.sides ≡ Some s
    → ask before.client.signer before.client.user s (asked_by task.command) ≡ Ok sent
    → Passed d user before.seat now.seat before.wire now.wire (request_of s task.command sent.signed)
    (ask_of sent.signed) delivered
    → j ≡ hearing d s.known sent.asked delivered
    → asks_keys j (side_heard (sent_side s sent.signed) j) ≡ false
    → now.client ≡ heard_by (sent_from before.client s sent.signed) (sent_side s sent.signed) j
    → now.outcomes ≡ before.outcomes
    ++ outcome_of task (end_of j) (shown_of (side_heard (sent_side s sent.signed) j) j) keys_ends.Fine ∷ []
    → TaskRun d user before now task
task-alone d user before now task s sent delivered j found asked p made without knows told =
    let h : Heard = record { task = task; first = p.carry; keys = no-carry } in
    let s' = sent_side s sent.signed in
    let c' = sent_from before.client s sent.signed in
    let x = exchange task (request_of s task.command sent.signed) (ask_of sent.signed) p.carry in
    let is : done d before.client h ≡ done_alone (heard_by c' s' j) task x (side_heard s' j) j =
    done-asked d before.client h s sent found asked
    ∙ ap (λ (o : Option Text). done_sent d c' h x s' (hearing d s.known sent.asked o)) p.delivered_is
    ∙ ap (done_sent d c' h x s') (sym made)
    ∙ done-alone d (heard_by c' s' j) h x (side_heard s' j) j without in
    record {
      heard = h;
      asked = refl;
      bytes = (subst (λ (o : Option Text). IfSome o IsBytes) (sym p.delivered_is) p.bytes, tt);
      told = told ∙ ap (λ (y : Done). before.outcomes ++ y.outcome ∷ []) (sym is);
      knows = knows ∙ ap (λ (y : Done). y.client) (sym is);
      seats = λ wall.
          subst (λ (y : Done). SeatHalf d user (before.seat wall) (now.seat wall) (on wall y.exchanges)) (sym is)
          (seats-passed d user before.seat now.seat before.wire now.wire task _ _ delivered p wall);
      wire = subst (λ (y : Done). WireHalf before.wire now.wire y.exchanges) (sym is) (p.wires task);
    }

-- ---- a command with an exchange for keys behind the first

pub task-keyed : (d : Digest) (user : ℕ) (before now : LaneView) (mid : Sights) (wire : WireView) (task : Task)
    (s : SideView) (sent : Sent) (first keys : Option Text) (j : Hearing) (t : SideView) (learnt : Learning)
    → side_of (wall_of task.command) before.client.sides ≡ Some s
    → ask before.client.signer before.client.user s (asked_by task.command) ≡ Ok sent
    → Passed d user before.seat mid before.wire wire (request_of s task.command sent.signed) (ask_of sent.signed) first
    → j ≡ hearing d s.known sent.asked first
    → t ≡ side_heard (sent_side s sent.signed) j
    → asks_keys j t ≡ true
    → Passed d user mid now.seat wire now.wire (requests.Keys t.known.wall t.known.size) asks.Look keys
    → learnt ≡ learning d t.known keys
    → now.client ≡ record (heard_by (sent_from before.client s sent.signed) (sent_side s sent.signed) j) {
      sides = with_side t.known.wall (side_learnt t learnt)
          (heard_by (sent_from before.client s sent.signed) (sent_side s sent.signed) j).sides;
    }
    → now.outcomes ≡ before.outcomes
    ++ outcome_of task (end_of j) (shown_of (side_learnt t learnt) j) (keys_end learnt) ∷ []
    → TaskRun d user before now task
task-keyed d user before now mid wire task s sent first keys j t learnt found asked p made heard with-keys q judged knows told =
    let h : Heard = record { task = task; first = p.carry; keys = q.carry } in
    let s' = sent_side s sent.signed in
    let c' = sent_from before.client s sent.signed in
    let k = heard_by c' s' j in
    let x = exchange task (request_of s task.command sent.signed) (ask_of sent.signed) p.carry in
    let y = keys_exchange task t q.carry in
    let learned : learning d t.known q.carry.delivered ≡ learnt =
    ap (learning d t.known) q.delivered_is ∙ sym judged in
    let is : done d before.client h ≡ done_keyed k task x y t j learnt =
    done-asked d before.client h s sent found asked
    ∙ ap (λ (o : Option Text). done_sent d c' h x s' (hearing d s.known sent.asked o)) p.delivered_is
    ∙ ap (done_sent d c' h x s') (sym made)
    ∙ ap (λ (r : SideView). done_heard d k h x r j) (sym heard)
    ∙ done-keyed d k h x t j with-keys
    ∙ ap (done_keyed k task x y t j) learned in
    record {
      heard = h;
      asked = refl;
      bytes = (
        subst (λ (o : Option Text). IfSome o IsBytes) (sym p.delivered_is) p.bytes,
        subst (λ (o : Option Text). IfSome o IsBytes) (sym q.delivered_is) q.bytes,
      );
      told = told ∙ ap (λ (z : Done). before.outcomes ++ z.outcome ∷ []) (sym is);
      knows = knows ∙ ap (λ (z : Done). z.client) (sym is);
      seats = λ wall.
          subst (λ (z : Done). SeatHalf d user (before.seat wall) (now.seat wall) (on wall z.exchanges)) (sym is)
          (subst (λ (xs : List Exchange). SeatHalf d user (before.seat wall) (now.seat wall) xs)
          (sym (on-append wall (x ∷ []) (y ∷ [])))
          (seat-then d user (before.seat wall) (mid wall) (now.seat wall) (on wall (x ∷ [])) (on wall (y ∷ []))
          (seats-passed d user before.seat mid before.wire wire task _ _ first p wall)
          (seats-passed d user mid now.seat wire now.wire task _ _ keys q wall)));
      wire =
          subst (λ (z : Done). WireHalf before.wire now.wire z.exchanges) (sym is)
          (wire-then before.wire wire now.wire (x ∷ []) (y ∷ []) (p.wires task) (q.wires task));
    }

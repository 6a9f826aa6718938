-- A client that did a command can do those that are left.
use Rattle.std.proofs.Common.{◌≡◌, ◌∙◌, ℕ, ◌+◌, ◌≤◌, ◌^◌, Bool, true, false, List, [], ◌∷◌, Option, Some, None, Result, Ok, Err, refl, sym, ap, subst, inl, inr, arith}
use Rattle.std.specs.List.{AllByRecursion}
use Rattle.std.proofs.lemmas.Bool.{cases_eq}
use Rattle.fr_digest.specs.Digest.{Digest}
use Rattle.op_types.specs.declared.op.Op.{Op}
use Rattle.lms_params.specs.declared.pair.Pair.{Pair}
use Rattle.msg_form.specs.declared.decline.Decline.{Decline}
use Rattle.check_rules.specs.Verdict.{Judged, same, taken, refusal}
use Rattle.script_read.specs.declared.script.Command.{Command}
use Rattle.script_read.specs.declared.script.Command.TheVariants as commands
use Rattle.client_core.specs.declared.sent.Sent.{Sent}
use Rattle.client_core.specs.Asking.{ask, look_sent}
use Rattle.client_core.specs.Sides.{SideView, side_of, with_side}
use Rattle.client_core.proofs.Places.{found-wall, put-found, put-other}
use Rattle.session_laws.specs.Doing.{Exchange, Hearing, Heard, Learning, PlainClient, ask_of, asked_by, asks_keys, done, done_asked, done_heard, done_on, exchange, heard_by, hearing, request_of, sent_from, sent_side, side_heard, side_learnt, wall_of}
use Rattle.session_laws.specs.Readiness.{CanDo, IsFound, write_of, writes}
use Rattle.session_laws.proofs.Clients.{heard-found, sent-found}

-- ---- what stays

-- Each wall has a side as before, whose number has grown by no more than this.
pub record SidesStay (extra : ℕ) (sides sides' : List SideView) : Type 0 where
  pub kept : (wall : ℕ) → IsFound wall sides → IsFound wall sides'
  pub numbers : (wall : ℕ) (s' : SideView) → side_of wall sides' ≡ Some s'
      → (s : SideView) × (side_of wall sides ≡ Some s) × (s'.next ≤ s.next + extra)

-- So it is with a client's, and with the leaves that it has used.
pub record Stays (extra : ℕ) (c c' : PlainClient) : Type 0 where
  pub pair : c'.signer.pair ≡ c.signer.pair
  pub used : c'.signer.used ≤ c.signer.used + extra
  pub sides : SidesStay extra c.sides c'.sides

sides-itself : (extra : ℕ) (sides : List SideView) → SidesStay extra sides sides
sides-itself extra sides = record {
  kept = λ wall found. found;
  numbers = λ wall s e. (s, e, omega arith);
}

sides-then : (a b extra : ℕ) (x y z : List SideView) → a + b ≤ extra → SidesStay a x y → SidesStay b y z
    → SidesStay extra x z
sides-then a b extra x y z le p q = record {
  kept = λ wall found. q.kept wall (p.kept wall found);
  numbers = λ wall s e.
      let mid = q.numbers wall s e in
      let first = p.numbers wall mid.0 mid.1 in
      (first.0, first.1, omega (arith, mid.2, first.2));
}

sides-put : (extra wall : ℕ) (s t : SideView) (sides : List SideView) → side_of wall sides ≡ Some s
    → t.known.wall ≡ wall → t.next ≤ s.next + extra → SidesStay extra sides (with_side wall t sides)
sides-put extra wall s t sides found at le = record {
  kept = λ v r. elim (cases_eq v wall) [
    | inl is ↦ (t, ap (λ (w : ℕ). side_of w (with_side wall t sides)) is ∙ put-found wall t sides s found at)
    | inr ne ↦ (r.0, put-other wall v t sides at ne ∙ r.1)
  ];
  numbers = λ v r e. elim (cases_eq v wall) [
    | inl is ↦
        let here : Some t ≡ Some r =
        sym (ap (λ (w : ℕ). side_of w (with_side wall t sides)) is ∙ put-found wall t sides s found at) ∙ e in
        let t-is : t ≡ r = cc in
        (s, ap (λ (w : ℕ). side_of w sides) is ∙ found, subst (λ (q : SideView). q.next ≤ s.next + extra) t-is le)
    | inr ne ↦ (r, sym (put-other wall v t sides at ne) ∙ e, omega arith)
  ];
}

stays-itself : (extra : ℕ) (c : PlainClient) → Stays extra c c
stays-itself extra c = record { pair = refl; used = omega arith; sides = sides-itself extra c.sides }

stays-then : (a b extra : ℕ) (c e f : PlainClient) → a + b ≤ extra → Stays a c e → Stays b e f → Stays extra c f
stays-then a b extra c e f le p q = record {
  pair = q.pair ∙ p.pair;
  used = omega (arith, p.used, q.used);
  sides = sides-then a b extra c.sides e.sides f.sides le p.sides q.sides;
}

-- ---- one command

sent-stays : (c : PlainClient) (wall : ℕ) (s : SideView) (signed : Option Op) → side_of wall c.sides ≡ Some s
    → Stays 1 c (sent_from c s signed)
sent-stays c wall s None found = stays-itself 1 c
sent-stays c wall s (Some op) found = record {
  pair = refl;
  used = omega arith;
  sides =
      let at = found-wall wall c.sides s found in
      subst (λ (w : ℕ). SidesStay 1 c.sides (with_side w (sent_side s (Some op)) c.sides)) (sym at)
      (sides-put 1 wall s (sent_side s (Some op)) c.sides found at (omega arith));
}

asks-stays : (command : Command) (c : PlainClient) (s : SideView) (sent : Sent)
    → side_of (wall_of command) c.sides ≡ Some s → ask c.signer c.user s (asked_by command) ≡ Ok sent
    → Stays (write_of command) c (sent_from c s sent.signed)
asks-stays (commands.Post wall text) c s sent found asked = sent-stays c wall s sent.signed found
asks-stays (commands.Admit wall user role) c s sent found asked = sent-stays c wall s sent.signed found
asks-stays (commands.Remove wall user) c s sent found asked = sent-stays c wall s sent.signed found
asks-stays (commands.Read wall) c s sent found asked =
    let is : look_sent s false ≡ sent = cc in
    subst (λ (x : Sent). Stays 0 c (sent_from c s x.signed)) is (stays-itself 0 c)
asks-stays (commands.ReadAll wall) c s sent found asked =
    let is : look_sent s true ≡ sent = cc in
    subst (λ (x : Sent). Stays 0 c (sent_from c s x.signed)) is (stays-itself 0 c)

heard-side : (s : SideView) (j : Judged) → (side_heard s (Some (Ok j))).next ≡ s.next
heard-side s (same size) = refl
heard-side s (taken view from tree leaves lists) = refl
heard-side s (refusal cause number) = refl

pub heard-wall : (s : SideView) (j : Hearing) → (side_heard s j).known.wall ≡ s.known.wall
heard-wall s None = refl
heard-wall s (Some (Err verdict)) = refl
heard-wall s (Some (Ok (same size))) = refl
heard-wall s (Some (Ok (taken view from tree leaves lists))) = refl
heard-wall s (Some (Ok (refusal cause number))) = refl

heard-stays : (c : PlainClient) (wall : ℕ) (s : SideView) (j : Hearing) → side_of wall c.sides ≡ Some s
    → Stays 0 c (heard_by c s j)
heard-stays c wall s None found = stays-itself 0 c
heard-stays c wall s (Some (Err verdict)) found = stays-itself 0 c
heard-stays c wall s (Some (Ok j)) found = record {
  pair = refl;
  used = omega arith;
  sides =
      let at = found-wall wall c.sides s found in
      let t = side_heard s (Some (Ok j)) in
      let next : t.next ≤ s.next + 0 = let e = heard-side s j in omega arith in
      subst (λ (w : ℕ). SidesStay 0 c.sides (with_side w t c.sides)) (sym at)
      (sides-put 0 wall s t c.sides found (heard-wall s (Some (Ok j)) ∙ at) next);
}

pub learnt-wall : (s : SideView) (k : Learning) → (side_learnt s k).known.wall ≡ s.known.wall
learnt-wall s None = refl
learnt-wall s (Some (Err verdict)) = refl
learnt-wall s (Some (Ok changes)) = refl

learnt-next : (s : SideView) (k : Learning) → (side_learnt s k).next ≡ s.next
learnt-next s None = refl
learnt-next s (Some (Err verdict)) = refl
learnt-next s (Some (Ok changes)) = refl

learnt-stays : (c : PlainClient) (wall : ℕ) (s : SideView) (k : Learning) → side_of wall c.sides ≡ Some s
    → Stays 0 c (record c { sides = with_side s.known.wall (side_learnt s k) c.sides })
learnt-stays c wall s k found = record {
  pair = refl;
  used = omega arith;
  sides =
      let at = found-wall wall c.sides s found in
      let next : (side_learnt s k).next ≤ s.next + 0 = let e = learnt-next s k in omega arith in
      subst (λ (w : ℕ). SidesStay 0 c.sides (with_side w (side_learnt s k) c.sides)) (sym at)
      (sides-put 0 wall s (side_learnt s k) c.sides found (learnt-wall s k ∙ at) next);
}

-- c and s are the client and the side that have heard
heard-done : (d : Digest) (c : PlainClient) (h : Heard) (x : Exchange) (wall : ℕ) (s : SideView) (j : Hearing)
    → side_of wall c.sides ≡ Some s → (b : Bool) → asks_keys j s ≡ b → Stays 0 c (done_heard d c h x s j).client
heard-done d c h x wall s j found false is = rw is (stays-itself 0 c)
heard-done d c h x wall s j found true is = rw is (learnt-stays c wall s _ found)

asked-done : (d : Digest) (c : PlainClient) (h : Heard) (s : SideView) (r : Result Sent Decline)
    → side_of (wall_of h.task.command) c.sides ≡ Some s → ask c.signer c.user s (asked_by h.task.command) ≡ r
    → Stays (write_of h.task.command) c (done_asked d c h s r).client
asked-done d c h s (Err decline) found asked = stays-itself (write_of h.task.command) c
asked-done d c h s (Ok sent) found asked =
    let e = write_of h.task.command in
    let wall = wall_of h.task.command in
    let c' = sent_from c s sent.signed in
    let s' = sent_side s sent.signed in
    let first : Stays e c c' = asks-stays h.task.command c s sent found asked in
    let at : side_of wall c'.sides ≡ Some s' = sent-found c wall s sent.signed found in
    let j = hearing d s.known sent.asked h.first.delivered in
    let x = exchange h.task (request_of s h.task.command sent.signed) (ask_of sent.signed) h.first in
    let second = heard-stays c' wall s' j at in
    let third = heard-done d (heard_by c' s' j) h x wall (side_heard s' j) j (heard-found c' wall s' j at)
    (asks_keys j (side_heard s' j)) refl in
    let last = (done_heard d (heard_by c' s' j) h x (side_heard s' j) j).client in
    stays-then e 0 e c c' last (omega arith) first
    (stays-then 0 0 0 c' (heard_by c' s' j) last (omega arith) second third)

on-done : (d : Digest) (c : PlainClient) (h : Heard) (o : Option SideView)
    → side_of (wall_of h.task.command) c.sides ≡ o → Stays (write_of h.task.command) c (done_on d c h o).client
on-done d c h None found = stays-itself (write_of h.task.command) c
on-done d c h (Some s) found = asked-done d c h s (ask c.signer c.user s (asked_by h.task.command)) found refl

pub done-stays : (d : Digest) (c : PlainClient) (h : Heard) → Stays (write_of h.task.command) c (done d c h).client
unfolding done
done-stays d c h = on-done d c h (side_of (wall_of h.task.command) c.sides) refl

-- ---- the commands that are left

walls-stay : (extra : ℕ) (sides sides' : List SideView) (todo : List Command) → SidesStay extra sides sides'
    → AllByRecursion (λ (command : Command). IsFound (wall_of command) sides) todo
    → AllByRecursion (λ (command : Command). IsFound (wall_of command) sides') todo
walls-stay extra sides sides' [] stay all = tt
walls-stay extra sides sides' (command ∷ todo) stay all =
    (stay.kept (wall_of command) all.0, walls-stay extra sides sides' todo stay all.1)

pub ready-after : (d : Digest) (c : PlainClient) (h : Heard) (todo : List Command)
    → CanDo c (h.task.command ∷ todo) → CanDo (done d c h).client todo
ready-after d c h todo can =
    let s = done-stays d c h in
    record {
      walls = walls-stay (write_of h.task.command) c.sides (done d c h).client.sides todo s.sides can.walls.1;
      leaves =
          let small : (done d c h).client.signer.used + writes todo ≤ 2 ^ c.signer.pair.lms.h =
          omega (arith, s.used, can.leaves) in
          subst (λ (p : Pair). (done d c h).client.signer.used + writes todo ≤ 2 ^ p.lms.h) (sym s.pair) small;
      numbers = λ wall t e.
          let before = s.sides.numbers wall t e in
          let room = can.numbers wall before.0 before.1 in
          omega (arith, before.2, room);
    }

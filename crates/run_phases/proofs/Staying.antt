-- What commands leave of a client: its user, and what it can do.
use Rattle.std.proofs.Common.{◌≡◌, ◌∙◌, ℕ, ◌+◌, Bool, true, false, cond, List, [], ◌∷◌, ◌++◌, map, Option, Some, None, Result, Ok, Err, refl, sym, ap, subst, append_assoc, inl, inr, eq-eqb, ne_eqb}
use Rattle.std.specs.Prelude.{filter, nat_eq}
use Rattle.std.proofs.lemmas.Bool.{cases_eq}
use Rattle.std.proofs.lemmas.List.{map-append}
use Rattle.std.proofs.lemmas.List.Elements.{filter-append}
use Rattle.fr_digest.specs.Digest.{Digest}
use Rattle.op_types.specs.declared.op.Op.{Op}
use Rattle.msg_form.specs.declared.decline.Decline.{Decline}
use Rattle.script_read.specs.declared.script.Command.{Command}
use Rattle.script_read.specs.declared.script.ScriptSession.{ScriptSession}
use Rattle.client_core.specs.declared.sent.Sent.{Sent}
use Rattle.client_core.specs.Asking.{ask}
use Rattle.client_core.specs.Keeping.{note_of_side}
use Rattle.client_core.specs.Sides.{SideView, side_of, with_side}
use Rattle.client_core.proofs.Places.{found-wall, put-map}
use Rattle.check_rules.specs.Verdict.{Judged, same, taken, refusal}
use Rattle.session_laws.specs.Doing.{Exchange, Hearing, Heard, Learning, PlainClient, Task, ask_of, asked_by, asks_keys, done, done_asked, done_heard, done_on, exchange, heard_by, hearing, last, request_of, sent_from, sent_side, side_heard, side_learnt, stream, tasks_from, tasks_of, wall_of}
use Rattle.session_laws.specs.Readiness.{CanDo}
use Rattle.session_laws.proofs.Clients.{heard-found, sent-found}
use Rattle.session_laws.proofs.Ready.{ready-after}
use Rattle.run_phases.specs.Tasks.{commands_in, tasks_in}

-- ---- what is the same

-- A client is the same user's, and its sides are of the same walls with the same users.
pub record Same (c c' : PlainClient) : Type 0 where
  pub user : c'.user ≡ c.user
  pub rogue : c'.rogue ≡ c.rogue
  pub notes : map note_of_side c'.sides ≡ map note_of_side c.sides
  pub users : map (λ (s : SideView). s.known.users) c'.sides ≡ map (λ (s : SideView). s.known.users) c.sides

same-itself : (c : PlainClient) → Same c c
same-itself c = record { user = refl; rogue = refl; notes = refl; users = refl }

same-then : (a b c : PlainClient) → Same a b → Same b c → Same a c
same-then a b c p q = record {
  user = q.user ∙ p.user;
  rogue = q.rogue ∙ p.rogue;
  notes = q.notes ∙ p.notes;
  users = q.users ∙ p.users;
}

-- with another side of its wall
same-put : (c c' : PlainClient) (wall : ℕ) (s t : SideView) → side_of wall c.sides ≡ Some s → c'.user ≡ c.user
    → c'.rogue ≡ c.rogue → c'.sides ≡ with_side s.known.wall t c.sides → note_of_side t ≡ note_of_side s
    → t.known.users ≡ s.known.users → Same c c'
same-put c c' wall s t found user rogue sides note users =
    let own : side_of s.known.wall c.sides ≡ Some s =
    subst (λ (w : ℕ). side_of w c.sides ≡ Some s) (sym (found-wall wall c.sides s found)) found in
    record {
      user = user;
      rogue = rogue;
      notes = ap (map note_of_side) sides ∙ put-map note_of_side s.known.wall t c.sides s own note;
      users =
          ap (map (λ (x : SideView). x.known.users)) sides
          ∙ put-map (λ (x : SideView). x.known.users) s.known.wall t c.sides s own users;
    }

sent-same : (c : PlainClient) (wall : ℕ) (s : SideView) (signed : Option Op) → side_of wall c.sides ≡ Some s
    → Same c (sent_from c s signed)
sent-same c wall s None found = same-itself c
sent-same c wall s (Some op) found =
    same-put c (sent_from c s (Some op)) wall s (sent_side s (Some op)) found refl refl refl refl refl

heard-note : (s : SideView) (j : Judged) → note_of_side (side_heard s (Some (Ok j))) ≡ note_of_side s
heard-note s (same size) = refl
heard-note s (taken view from tree leaves lists) = refl
heard-note s (refusal cause number) = refl

heard-users : (s : SideView) (j : Judged) → (side_heard s (Some (Ok j))).known.users ≡ s.known.users
heard-users s (same size) = refl
heard-users s (taken view from tree leaves lists) = refl
heard-users s (refusal cause number) = refl

heard-same : (c : PlainClient) (wall : ℕ) (s : SideView) (j : Hearing) → side_of wall c.sides ≡ Some s
    → Same c (heard_by c s j)
heard-same c wall s None found = same-itself c
heard-same c wall s (Some (Err verdict)) found = same-itself c
heard-same c wall s (Some (Ok j)) found =
    same-put c (heard_by c s (Some (Ok j))) wall s (side_heard s (Some (Ok j))) found refl refl refl (heard-note s j)
    (heard-users s j)

learnt-note : (s : SideView) (k : Learning) → note_of_side (side_learnt s k) ≡ note_of_side s
learnt-note s None = refl
learnt-note s (Some (Err verdict)) = refl
learnt-note s (Some (Ok changes)) = refl

learnt-users : (s : SideView) (k : Learning) → (side_learnt s k).known.users ≡ s.known.users
learnt-users s None = refl
learnt-users s (Some (Err verdict)) = refl
learnt-users s (Some (Ok changes)) = refl

learnt-same : (c : PlainClient) (wall : ℕ) (s : SideView) (k : Learning) → side_of wall c.sides ≡ Some s
    → Same c (record c { sides = with_side s.known.wall (side_learnt s k) c.sides })
learnt-same c wall s k found =
    same-put c (record c { sides = with_side s.known.wall (side_learnt s k) c.sides }) wall s (side_learnt s k) found refl
    refl refl (learnt-note s k) (learnt-users s k)

-- c and s are the client and the side that have heard
heard-done : (d : Digest) (c : PlainClient) (h : Heard) (x : Exchange) (wall : ℕ) (s : SideView) (j : Hearing)
    → side_of wall c.sides ≡ Some s → (b : Bool) → asks_keys j s ≡ b → Same c (done_heard d c h x s j).client
heard-done d c h x wall s j found false is = rw is (same-itself c)
heard-done d c h x wall s j found true is = rw is (learnt-same c wall s _ found)

asked-done : (d : Digest) (c : PlainClient) (h : Heard) (s : SideView) (r : Result Sent Decline)
    → side_of (wall_of h.task.command) c.sides ≡ Some s → Same c (done_asked d c h s r).client
asked-done d c h s (Err decline) found = same-itself c
asked-done d c h s (Ok sent) found =
    let wall = wall_of h.task.command in
    let c' = sent_from c s sent.signed in
    let s' = sent_side s sent.signed in
    let at : side_of wall c'.sides ≡ Some s' = sent-found c wall s sent.signed found in
    let j = hearing d s.known sent.asked h.first.delivered in
    let x = exchange h.task (request_of s h.task.command sent.signed) (ask_of sent.signed) h.first in
    let third = heard-done d (heard_by c' s' j) h x wall (side_heard s' j) j (heard-found c' wall s' j at)
    (asks_keys j (side_heard s' j)) refl in
    let last = (done_heard d (heard_by c' s' j) h x (side_heard s' j) j).client in
    same-then c c' last (sent-same c wall s sent.signed found)
    (same-then c' (heard_by c' s' j) last (heard-same c' wall s' j at) third)

on-done : (d : Digest) (c : PlainClient) (h : Heard) (o : Option SideView)
    → side_of (wall_of h.task.command) c.sides ≡ o → Same c (done_on d c h o).client
on-done d c h None found = same-itself c
on-done d c h (Some s) found = asked-done d c h s (ask c.signer c.user s (asked_by h.task.command)) found

done-same : (d : Digest) (c : PlainClient) (h : Heard) → Same c (done d c h).client
unfolding done
done-same d c h = on-done d c h (side_of (wall_of h.task.command) c.sides) refl

pub last-same : (d : Digest) (c : PlainClient) (hs : List Heard) → Same c (last d c hs)
last-same d c [] = same-itself c
last-same d c (h ∷ hs) =
    same-then c (done d c h).client (last d (done d c h).client hs) (done-same d c h)
    (last-same d (done d c h).client hs)

-- ---- what it can do

pub can-last : (d : Digest) (c : PlainClient) (hs : List Heard) (todo : List Command)
    → CanDo c (map (λ (h : Heard). h.task.command) hs ++ todo) → CanDo (last d c hs) todo
can-last d c [] todo can = can
can-last d c (h ∷ hs) todo can =
    can-last d (done d c h).client hs todo
    (ready-after d c h (map (λ (x : Heard). x.task.command) hs ++ todo) can)

-- ---- a user's tasks

abbrev commands_by : ℕ → List Task → List Command
commands_by user tasks = map (λ (t : Task). t.command) (filter (λ (t : Task). nat_eq t.user user) tasks)

by-append : (user : ℕ) (xs ys : List Task) → commands_by user (xs ++ ys) ≡ commands_by user xs ++ commands_by user ys
by-append user xs ys =
    ap (map (λ (t : Task). t.command)) (filter-append (λ (t : Task). nat_eq t.user user) xs ys)
    ∙ map-append (λ (t : Task). t.command) (filter (λ (t : Task). nat_eq t.user user) xs)
    (filter (λ (t : Task). nat_eq t.user user) ys)

own-from : (phase number user n : ℕ) (commands : List Command)
    → commands_by user (tasks_from phase number user n commands) ≡ commands
own-from phase number user n [] = refl
own-from phase number user n (c ∷ commands) =
    let rest = filter (λ (t : Task). nat_eq t.user user) (tasks_from phase number user (n + 1) commands) in
    let first : Task = record {
      place = record { phase = phase; session = number; command = n };
      user = user;
      command = c;
    } in
    ap (λ (b : Bool). map (λ (t : Task). t.command) (cond b (first ∷ rest) rest)) (eq-eqb user user refl)
    ∙ ap (λ (l : List Command). c ∷ l) (own-from phase number user (n + 1) commands)

other-from : (phase number user other n : ℕ) (commands : List Command) → (user ≡ other → ⊥)
    → commands_by other (tasks_from phase number user n commands) ≡ []
other-from phase number user other n [] ne = refl
other-from phase number user other n (c ∷ commands) ne =
    let rest = filter (λ (t : Task). nat_eq t.user other) (tasks_from phase number user (n + 1) commands) in
    let first : Task = record {
      place = record { phase = phase; session = number; command = n };
      user = user;
      command = c;
    } in
    ap (λ (b : Bool). map (λ (t : Task). t.command) (cond b (first ∷ rest) rest)) (ne_eqb user other ne)
    ∙ other-from phase number user other (n + 1) commands ne

by-session : (phase number user : ℕ) (s : ScriptSession)
    → commands_by user (tasks_of phase number s.user s.commands) ≡ cond (nat_eq s.user user) s.commands []
by-session phase number user s = elim (cases_eq s.user user) [
  | inl is ↦
      ap (λ (u : ℕ). commands_by u (tasks_of phase number s.user s.commands)) (sym is)
      ∙ own-from phase number s.user 1 s.commands
      ∙ sym (ap (λ (b : Bool). cond b s.commands []) (eq-eqb s.user user is))
  | inr ne ↦
      other-from phase number s.user user 1 s.commands ne
      ∙ sym (ap (λ (b : Bool). cond b s.commands []) (ne_eqb s.user user ne))
]

by-phase : (phase number user : ℕ) (sessions : List ScriptSession)
    → commands_by user (tasks_in phase number sessions) ≡ commands_in user sessions
by-phase phase number user [] = refl
by-phase phase number user (s ∷ sessions) =
    by-append user (tasks_of phase number s.user s.commands) (tasks_in phase (number + 1) sessions)
    ∙ (λ i. by-session phase number user s i ++ by-phase phase (number + 1) user sessions i)

stream-by : (user : ℕ) (hs : List Heard)
    → map (λ (h : Heard). h.task.command) (stream user hs) ≡ commands_by user (map (λ (h : Heard). h.task) hs)
stream-by user [] = refl
stream-by user (h ∷ hs) = elim (cases_eq h.task.user user) [
  | inl is ↦
      let yes = eq-eqb h.task.user user is in
      ap (λ (b : Bool). map (λ (x : Heard). x.task.command) (cond b (h ∷ stream user hs) (stream user hs))) yes
      ∙ ap (λ (l : List Command). h.task.command ∷ l) (stream-by user hs)
      ∙ sym (ap (λ (b : Bool). map (λ (t : Task). t.command)
      (cond b (h.task ∷ filter (λ (t : Task). nat_eq t.user user) (map (λ (x : Heard). x.task) hs))
      (filter (λ (t : Task). nat_eq t.user user) (map (λ (x : Heard). x.task) hs)))) yes)
  | inr ne ↦
      let no = ne_eqb h.task.user user ne in
      ap (λ (b : Bool). map (λ (x : Heard). x.task.command) (cond b (h ∷ stream user hs) (stream user hs))) no
      ∙ stream-by user hs
      ∙ sym (ap (λ (b : Bool). map (λ (t : Task). t.command)
      (cond b (h.task ∷ filter (λ (t : Task). nat_eq t.user user) (map (λ (x : Heard). x.task) hs))
      (filter (λ (t : Task). nat_eq t.user user) (map (λ (x : Heard). x.task) hs)))) no)
]

pub stream-commands : (phase user : ℕ) (sessions : List ScriptSession) (hs : List Heard)
    → map (λ (h : Heard). h.task) hs ≡ tasks_in phase 1 sessions
    → map (λ (h : Heard). h.task.command) (stream user hs) ≡ commands_in user sessions
stream-commands phase user sessions hs asked =
    stream-by user hs ∙ ap (commands_by user) asked ∙ by-phase phase 1 user sessions

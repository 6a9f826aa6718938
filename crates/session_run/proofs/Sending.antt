-- A task for which something was sent, from what was delivered and what the client made of it.
use Rattle.std.proofs.Common.{◌≡◌, ◌∙◌, ℕ, Bool, true, false, List, [], ◌∷◌, ◌++◌, Option, Some, None, Ok, Err, refl, ap, sym, subst}
use Rattle.fr_bytes.specs.Bytes.{Text}
use Rattle.fr_digest.specs.Digest.{Digest}
use Rattle.fr_edges.specs.Wire.{WireView}
use Rattle.op_types.specs.declared.op.Op.{Op}
use Rattle.msg_form.specs.declared.verdict.Verdict.{Verdict}
use Rattle.check_rules.specs.declared.known.Known.{Known}
use Rattle.check_rules.specs.Verdict.{Judged, Judgement}
use Rattle.check_core.specs.View.{checked_view}
use Rattle.hall_server.specs.Answers.{Sights}
use Rattle.script_form.specs.declared.outcome.CommandEnd.TheVariants as ends
use Rattle.script_form.specs.declared.outcome.KeysEnd.{KeysEnd}
use Rattle.script_form.specs.declared.outcome.KeysEnd.TheVariants as keys_ends
use Rattle.script_form.specs.declared.outcome.Outcome.{Outcome}
use Rattle.client_core.specs.declared.news.News.{News}
use Rattle.client_core.specs.declared.sent.Sent.{Sent}
use Rattle.client_core.specs.Clients.{Asks, ClientView, Hears, Rejects}
use Rattle.client_core.specs.Sides.{HasSide, SideView, side_of, with_side}
use Rattle.client_core.specs.Taking.{news_of, side_after}
use Rattle.client_core.proofs.Places.{found-wall, has-side, put-found}
use Rattle.std.specs.List.{Contains}
use Rattle.hall_server.specs.HonestReplies.{wall_in}
use Rattle.session_laws.specs.declared.place.Place.{Place}
use Rattle.session_laws.specs.Doing.{PlainClient, Task, ask_of, asked_by, asks_keys, end_of, heard_by, hearing, keys_end, learning, outcome_at, plain, request_of, sent_from, sent_side, shown_of, side_heard, side_learnt, wall_of}
use Rattle.session_laws.specs.Lanes.{LaneView, Passed, TaskRun}
use Rattle.session_laws.proofs.Clients.{heard-found, plain-sent, plain-taken, sent-found}
use Rattle.session_laws.proofs.Ready.{heard-wall}
use Rattle.session_laws.proofs.Tasks.{task-alone, task-keyed}
use Rattle.session_run.specs.News.{news_end, news_keys, news_shown}
use Rattle.session_run.specs.Parts.{HasSent, Sends, Told}
use Rattle.session_run.proofs.Asked.{found-same}
use Rattle.session_run.proofs.Telling.{end-is, keys-is, shown-is}

abbrev at-lane : PlainClient → List Outcome → Sights → WireView → LaneView
at-lane c os seats wire = record { client = c; outcomes = os; seat = seats; wire = wire }

sent-known : (s : SideView) (signed : Option Op) → (sent_side s signed).known ≡ s.known
sent-known s None = refl
sent-known s (Some op) = refl

-- the side of the client that has sent, by which it judges
sent-is : (c c' : PlainClient) (s : SideView) (task : Task) (sent : Sent) → HasSent c c' s task sent → (t : SideView)
    → side_of sent.wall c'.sides ≡ Some t → sent_side s sent.signed ≡ t
sent-is c c' s task sent h t found =
    let at = found-wall (wall_of task.command) c.sides s h.found in
    let wall : sent.wall ≡ wall_of task.command = h.sends.wall ∙ at in
    found-same (side_of sent.wall c'.sides) (sent_side s sent.signed) t
    (ap (λ (w : ℕ). side_of w c'.sides) wall ∙ ap (λ (k : PlainClient). side_of (wall_of task.command) k.sides) h.after
    ∙ sent-found c (wall_of task.command) s sent.signed h.found) found

-- ---- nothing delivered

pub send-lost : (d : Digest) (user : ℕ) (place : Place) (c c' : PlainClient) (s : SideView) (task : Task) (sent : Sent)
    (os : List Outcome) (before now : Sights) (wire wire' : WireView) (o : Outcome) → task.place ≡ place
    → HasSent c c' s task sent
    → Passed d user before now wire wire' (request_of s task.command sent.signed) (ask_of sent.signed) None
    → o ≡ outcome_at place ends.Lost [] keys_ends.Fine
    → TaskRun d user (at-lane c os before wire) (at-lane c' (os ++ o ∷ []) now wire') task
send-lost d user place c c' s task sent os before now wire wire' o at h p is =
    task-alone d user (at-lane c os before wire) (at-lane c' (os ++ o ∷ []) now wire') task s sent None None
    h.found h.asked p refl refl h.after
    (ap (λ (x : Outcome). os ++ x ∷ []) (is ∙ ap (λ (q : Place). outcome_at q ends.Lost [] keys_ends.Fine) (sym at)))

-- ---- a verdict

pub send-rejected : (d : Digest) (user : ℕ) (place : Place) (c : PlainClient) (v w : ClientView) (s : SideView)
    (task : Task) (sent : Sent) (os : List Outcome) (before now : Sights) (wire wire' : WireView) (bytes : Text)
    (verdict : Verdict) (o : Outcome) → task.place ≡ place → HasSent c (plain v) s task sent
    → Passed d user before now wire wire' (request_of s task.command sent.signed) (ask_of sent.signed) (Some bytes)
    → Rejects d v sent bytes verdict → w ≡ v → o ≡ outcome_at place (ends.Rejected verdict) [] keys_ends.Fine
    → TaskRun d user (at-lane c os before wire) (at-lane (plain w) (os ++ o ∷ []) now wire') task
send-rejected d user place c v w s task sent os before now wire wire' bytes verdict o at h p r unchanged is =
    let same : sent_side s sent.signed ≡ r.side = sent-is c (plain v) s task sent h r.side r.found in
    let known : s.known ≡ r.side.known = sym (sent-known s sent.signed) ∙ ap (λ (x : SideView). x.known) same in
    let made : Some (Err verdict) ≡ hearing d s.known sent.asked (Some bytes) =
    ap (λ (x : Judgement). Some x) (sym r.judged_so)
    ∙ ap (λ (k : Known). hearing d k sent.asked (Some bytes)) (sym known) in
    task-alone d user (at-lane c os before wire) (at-lane (plain w) (os ++ o ∷ []) now wire') task s sent (Some bytes)
    (Some (Err verdict)) h.found h.asked p made refl (ap plain unchanged ∙ h.after)
    (ap (λ (x : Outcome). os ++ x ∷ [])
    (is ∙ ap (λ (q : Place). outcome_at q (ends.Rejected verdict) [] keys_ends.Fine) (sym at)))

-- ---- news

told-alone : (place : Place) (task : Task) (t : SideView) (j : Judged) (news : News) (o : Outcome) → task.place ≡ place
    → news ≡ news_of j → o ≡ outcome_at place (news_end news) (news_shown t news) keys_ends.Fine
    → o ≡ outcome_at task.place (end_of (Some (Ok j))) (shown_of t (Some (Ok j))) keys_ends.Fine
told-alone place task t j news o at e is =
    is ∙ ap (λ (n : News). outcome_at place (news_end n) (news_shown t n) keys_ends.Fine) e
    ∙ (λ i. outcome_at place (end-is j i) (shown-is t j i) keys_ends.Fine)
    ∙ ap (λ (q : Place). outcome_at q (end_of (Some (Ok j))) (shown_of t (Some (Ok j))) keys_ends.Fine) (sym at)

told-keyed : (place : Place) (task : Task) (u : SideView) (j : Judged) (news : News) (o : Outcome) (end end' : KeysEnd)
    → task.place ≡ place → news ≡ news_of j → end ≡ end' → o ≡ outcome_at place (news_end news) (news_shown u news) end
    → o ≡ outcome_at task.place (end_of (Some (Ok j))) (shown_of u (Some (Ok j))) end'
told-keyed place task u j news o end end' at e keys is =
    is ∙ ap (λ (n : News). outcome_at place (news_end n) (news_shown u n) end) e
    ∙ (λ i. outcome_at place (end-is j i) (shown-is u j i) (keys i))
    ∙ ap (λ (q : Place). outcome_at q (end_of (Some (Ok j))) (shown_of u (Some (Ok j))) end') (sym at)

-- What is known when the reply was heard: j is what was made of it, and t is the side then.
record HasHeard (d : Digest) (c : PlainClient) (s : SideView) (sent : Sent) (bytes : Text) (news : News) (w : PlainClient)
    (wall : ℕ) (j : Judged) (t : SideView) : Type 0 where
  made : Some (Ok j) ≡ hearing d s.known sent.asked (Some bytes)
  news_is : news ≡ news_of j
  side_is : t ≡ side_heard (sent_side s sent.signed) (Some (Ok j))
  client : w ≡ heard_by (sent_from c s sent.signed) (sent_side s sent.signed) (Some (Ok j))
  found : side_of wall w.sides ≡ Some t

has-heard : (d : Digest) (c : PlainClient) (v w : ClientView) (s : SideView) (task : Task) (sent : Sent) (bytes : Text)
    (news : News) → HasSent c (plain v) s task sent → (r : Hears d v sent bytes news w)
    → HasHeard d c s sent bytes news (plain w) sent.wall (checked_view r.checked)
    (side_heard (sent_side s sent.signed) (Some (Ok (checked_view r.checked))))
has-heard d c v w s task sent bytes news h r =
    let s' = sent_side s sent.signed in
    let c' = sent_from c s sent.signed in
    let j = checked_view r.checked in
    let same : s' ≡ r.side = sent-is c (plain v) s task sent h r.side r.found in
    let known : s.known ≡ r.side.known = sym (sent-known s sent.signed) ∙ ap (λ (x : SideView). x.known) same in
    let at = found-wall (wall_of task.command) c.sides s h.found in
    let wall : sent.wall ≡ wall_of task.command = h.sends.wall ∙ at in
    let heard : plain w ≡ heard_by c' s' (Some (Ok j)) =
    ap plain r.after_is ∙ plain-taken v r.side r.checked
    ∙ ap (λ (x : SideView). heard_by (plain v) x (Some (Ok j))) (sym same)
    ∙ ap (λ (k : PlainClient). heard_by k s' (Some (Ok j))) h.after in
    record {
      made = ap (λ (x : Judgement). Some x) (sym r.judged_so)
          ∙ ap (λ (k : Known). hearing d k sent.asked (Some bytes)) (sym known);
      news_is = r.news_is;
      side_is = refl;
      client = heard;
      found = ap (λ (k : PlainClient). side_of sent.wall k.sides) heard
          ∙ ap (λ (x : ℕ). side_of x (heard_by c' s' (Some (Ok j))).sides) wall
          ∙ heard-found c' (wall_of task.command) s' (Some (Ok j))
          (sent-found c (wall_of task.command) s sent.signed h.found);
    }

told-run : (d : Digest) (user : ℕ) (place : Place) (c w x : PlainClient) (s : SideView) (task : Task) (sent : Sent)
    (os : List Outcome) (before mid now : Sights) (wire wire1 wire' : WireView) (bytes : Text) (news : News) (o : Outcome)
    (v : PlainClient) (j : Judged) (t : SideView) → task.place ≡ place → HasSent c v s task sent
    → Passed d user before mid wire wire1 (request_of s task.command sent.signed) (ask_of sent.signed) (Some bytes)
    → HasHeard d c s sent bytes news w sent.wall j t → Told d user place w x mid now wire1 wire' t news o
    → (b : Bool) → news_keys t news ≡ b
    → TaskRun d user (at-lane c os before wire) (at-lane x (os ++ o ∷ []) now wire') task
told-run d user place c w x s task sent os before mid now wire wire1 wire' bytes news o v j t at h p k told false e =
    let a = told.alone e in
    let without : asks_keys (Some (Ok j)) (side_heard (sent_side s sent.signed) (Some (Ok j))) ≡ false =
    ap (asks_keys (Some (Ok j))) (sym k.side_is) ∙ sym (keys-is t j) ∙ ap (news_keys t) (sym k.news_is) ∙ e in
    let passed = subst (λ (q : WireView). Passed d user before now wire q (request_of s task.command sent.signed)
    (ask_of sent.signed) (Some bytes)) (sym a.2)
    (subst (λ (q : Sights). Passed d user before q wire wire1 (request_of s task.command sent.signed)
    (ask_of sent.signed) (Some bytes)) (sym a.1) p) in
    task-alone d user (at-lane c os before wire) (at-lane x (os ++ o ∷ []) now wire') task s sent (Some bytes)
    (Some (Ok j)) h.found h.asked passed k.made without (a.0 ∙ k.client)
    (ap (λ (y : Outcome). os ++ y ∷ []) (told-alone place task t j news o at k.news_is a.3
    ∙ ap (λ (q : SideView). outcome_at task.place (end_of (Some (Ok j))) (shown_of q (Some (Ok j))) keys_ends.Fine)
    k.side_is))
told-run d user place c w x s task sent os before mid now wire wire1 wire' bytes news o v j t at h p k told true e =
    let a = told.keyed e in
    let l = a.1 in
    let learned = learning d t.known l.delivered in
    let with-keys : asks_keys (Some (Ok j)) t ≡ true =
    sym (keys-is t j) ∙ ap (news_keys t) (sym k.news_is) ∙ e in
    task-keyed d user (at-lane c os before wire) (at-lane x (os ++ o ∷ []) now wire') mid wire1 task s sent (Some bytes)
    l.delivered (Some (Ok j)) t learned h.found h.asked p k.made k.side_is with-keys l.passed refl
    (l.client ∙ ap (λ (y : PlainClient). record y {
      sides = with_side t.known.wall (side_learnt t learned) y.sides;
    }) k.client)
    (ap (λ (y : Outcome). os ++ y ∷ [])
    (told-keyed place task (side_learnt t learned) j news o a.0 (keys_end learned) at k.news_is l.end_is a.2))

pub send-told : (d : Digest) (user : ℕ) (place : Place) (c x : PlainClient) (v w : ClientView) (s : SideView)
    (task : Task) (sent : Sent) (os : List Outcome) (before mid now : Sights) (wire wire1 wire' : WireView) (bytes : Text)
    (news : News) (o : Outcome) → task.place ≡ place → HasSent c (plain v) s task sent
    → Passed d user before mid wire wire1 (request_of s task.command sent.signed) (ask_of sent.signed) (Some bytes)
    → Hears d v sent bytes news w
    → ((t : SideView) → side_of sent.wall w.sides ≡ Some t
    → Told d user place (plain w) x mid now wire1 wire' t news o)
    → TaskRun d user (at-lane c os before wire) (at-lane x (os ++ o ∷ []) now wire') task
send-told d user place c x v w s task sent os before mid now wire wire1 wire' bytes news o at h p r tells =
    let j = checked_view r.checked in
    let t = side_heard (sent_side s sent.signed) (Some (Ok j)) in
    let k = has-heard d c v w s task sent bytes news h r in
    told-run d user place c (plain w) x s task sent os before mid now wire wire1 wire' bytes news o (plain v) j t at h p k
    (tells t k.found) (news_keys t news) refl

-- ---- the request's wall

request-wall : (s : SideView) (task : Task) (signed : Option Op) → wall_in (request_of s task.command signed) ≡ s.known.wall
request-wall s task None = refl
request-wall s task (Some op) = refl

-- the request that was sent is of a wall of the server
pub sent-listed : (walls : List ℕ) (c c' : PlainClient) (s : SideView) (task : Task) (sent : Sent)
    → HasSent c c' s task sent → Contains walls sent.wall
    → Contains walls (wall_in (request_of s task.command sent.signed))
sent-listed walls c c' s task sent h listed =
    subst (Contains walls) (h.sends.wall ∙ sym (request-wall s task sent.signed)) listed

-- ---- sides

pub hears-side : (d : Digest) (v w : ClientView) (sent : Sent) (bytes : Text) (news : News) → Hears d v sent bytes news w
    → HasSide sent.wall w.sides
hears-side d v w sent bytes news r =
    let at = found-wall sent.wall v.sides r.side r.found in
    let j = checked_view r.checked in
    let t = side_after r.side j in
    has-side sent.wall w.sides t
    (ap (λ (x : ClientView). side_of sent.wall x.sides) r.after_is
    ∙ ap (λ (x : ℕ). side_of sent.wall (with_side x t v.sides)) at
    ∙ put-found sent.wall t v.sides r.side r.found (heard-wall r.side (Some (Ok j)) ∙ at))

-- ---- what was asked

pub asks-sent : (v w : ClientView) (task : Task) (sent : Sent)
    → (a : Asks v (wall_of task.command) (asked_by task.command) sent w)
    → ((s : SideView) → side_of (wall_of task.command) v.sides ≡ Some s → Sends s task.command sent)
    → HasSent (plain v) (plain w) a.side task sent
asks-sent v w task sent a spelled = record {
  found = a.found;
  asked = a.asked;
  sends = spelled a.side a.found;
  after = ap plain a.after_is ∙ plain-sent v a.side sent.signed;
}

pub asks-wall : (v w : ClientView) (task : Task) (sent : Sent)
    → (a : Asks v (wall_of task.command) (asked_by task.command) sent w)
    → ((s : SideView) → side_of (wall_of task.command) v.sides ≡ Some s → Sends s task.command sent)
    → sent.wall ≡ wall_of task.command
asks-wall v w task sent a spelled =
    (spelled a.side a.found).wall ∙ found-wall (wall_of task.command) v.sides a.side a.found

pub asks-side : (v w : ClientView) (task : Task) (sent : Sent)
    → (a : Asks v (wall_of task.command) (asked_by task.command) sent w)
    → ((s : SideView) → side_of (wall_of task.command) v.sides ≡ Some s → Sends s task.command sent)
    → HasSide sent.wall w.sides
asks-side v w task sent a spelled =
    let h = asks-sent v w task sent a spelled in
    has-side sent.wall w.sides (sent_side a.side sent.signed)
    (ap (λ (x : ℕ). side_of x w.sides) (asks-wall v w task sent a spelled)
    ∙ ap (λ (k : PlainClient). side_of (wall_of task.command) k.sides) h.after
    ∙ sent-found (plain v) (wall_of task.command) a.side sent.signed a.found)

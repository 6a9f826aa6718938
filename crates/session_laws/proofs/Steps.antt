-- One task, by cases: what the client declines, what it asks, and what it makes of what was delivered.
use Rattle.std.proofs.Common.{◌≡◌, ◌∙◌, ℕ, Bool, true, false, cond, List, [], ◌∷◌, Some, Ok, Err, sym, ap, subst, inl, inr, eq-eqb, ne_eqb}
use Rattle.std.proofs.lemmas.Bool.{cases_eq}
use Rattle.fr_digest.specs.Digest.{Digest}
use Rattle.msg_form.specs.declared.decline.Decline.{Decline}
use Rattle.hall_server.specs.Answers.{AnswersTurn, Sights}
use Rattle.hall_server.specs.HonestReplies.{wall_in}
use Rattle.hall_server.specs.Sights.{Sight}
use Rattle.client_core.specs.declared.sent.Sent.{Sent}
use Rattle.client_core.specs.Asking.{ask}
use Rattle.client_core.specs.Sides.{SideView, side_of}
use Rattle.session_laws.specs.Doing.{Exchange, Hearing, Heard, PlainClient, ask_of, asked_by, asks_keys, done, done_alone, done_asked, done_declined, done_heard, done_keyed, done_on, done_sent, exchange, hearing, keys_exchange, learning, on, request_of, sent_from, sent_side, wall_of}
use Rattle.session_laws.specs.Halves.{SeatHalf}
use Rattle.session_laws.proofs.Stretches.{seat-nothing}

-- ---- what is done

pub done-declined : (d : Digest) (c : PlainClient) (h : Heard) (s : SideView) (decline : Decline)
    → side_of (wall_of h.task.command) c.sides ≡ Some s
    → ask c.signer c.user s (asked_by h.task.command) ≡ Err decline → done d c h ≡ done_declined c h.task decline
unfolding done
done-declined d c h s decline found asked =
    ap (done_on d c h) found ∙ ap (done_asked d c h s) asked

pub done-asked : (d : Digest) (c : PlainClient) (h : Heard) (s : SideView) (sent : Sent)
    → side_of (wall_of h.task.command) c.sides ≡ Some s
    → ask c.signer c.user s (asked_by h.task.command) ≡ Ok sent
    → done d c h ≡ done_sent d (sent_from c s sent.signed) h
    (exchange h.task (request_of s h.task.command sent.signed) (ask_of sent.signed) h.first)
    (sent_side s sent.signed) (hearing d s.known sent.asked h.first.delivered)
unfolding done
done-asked d c h s sent found asked =
    ap (done_on d c h) found ∙ ap (done_asked d c h s) asked

-- c and s are the client and the side that have heard
pub done-alone : (d : Digest) (c : PlainClient) (h : Heard) (x : Exchange) (s : SideView) (j : Hearing)
    → asks_keys j s ≡ false → done_heard d c h x s j ≡ done_alone c h.task x s j
done-alone d c h x s j without =
    ap (λ (b : Bool). cond b (done_keyed c h.task x (keys_exchange h.task s h.keys) s j
    (learning d s.known h.keys.delivered)) (done_alone c h.task x s j)) without

pub done-keyed : (d : Digest) (c : PlainClient) (h : Heard) (x : Exchange) (s : SideView) (j : Hearing)
    → asks_keys j s ≡ true → done_heard d c h x s j
    ≡ done_keyed c h.task x (keys_exchange h.task s h.keys) s j (learning d s.known h.keys.delivered)
done-keyed d c h x s j with-keys =
    ap (λ (b : Bool). cond b (done_keyed c h.task x (keys_exchange h.task s h.keys) s j
    (learning d s.known h.keys.delivered)) (done_alone c h.task x s j)) with-keys

-- ---- one turn

-- An exchange that was answered by a turn is one at its wall, and none at the others.
pub seat-turn : (d : Digest) (user : ℕ) (before now : Sights) (x : Exchange)
    → AnswersTurn d user before now x.request x.ask x.carried.reply → (wall : ℕ)
    → SeatHalf d user (before wall) (now wall) (on wall (x ∷ []))
seat-turn d user before now x a wall = elim (cases_eq (wall_in x.request) wall) [
  | inl is ↦
      let mine : on wall (x ∷ []) ≡ x ∷ [] =
      ap (λ (b : Bool). cond b (x ∷ []) []) (eq-eqb (wall_in x.request) wall is) in
      let half : SeatHalf d user (before (wall_in x.request)) (now (wall_in x.request)) (x ∷ []) = record {
        kept = a.made.same;
        begins = a.made.grows.begins;
        news = a.turn ∷ [];
        turned = a.made.grows.turned;
        served = (record { asks = a.made.grows.asked; replies = a.replies }, tt);
        shown = a.shown;
      } in
      subst (λ (xs : List Exchange). SeatHalf d user (before wall) (now wall) xs) (sym mine)
      (subst (λ (w : ℕ). SeatHalf d user (before w) (now w) (x ∷ [])) is half)
  | inr ne ↦
      let none : on wall (x ∷ []) ≡ [] =
      ap (λ (b : Bool). cond b (x ∷ []) []) (ne_eqb (wall_in x.request) wall ne) in
      subst (λ (xs : List Exchange). SeatHalf d user (before wall) (now wall) xs) (sym none)
      (subst (λ (s : Sight). SeatHalf d user (before wall) s []) (sym (a.elsewhere wall (λ e. ne (sym e))))
      (seat-nothing d user (before wall)))
]

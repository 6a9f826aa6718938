-- A command on another wall leaves a wall's side as it was, makes no exchange with it and no record of it.
use Rattle.std.proofs.Common.{◌≡◌, ◌∙◌, ℕ, Bool, true, false, cond, List, [], ◌∷◌, ◌++◌, Option, Some, None, Result, Ok, Err, refl, sym, ap, ne_eqb}
use Rattle.std.specs.Prelude.{if◌then◌else◌}
use Rattle.std.specs.List.{AllByRecursion}
use Rattle.fr_bytes.proofs.Lists.{each-append}
use Rattle.fr_digest.specs.Digest.{Digest}
use Rattle.op_types.specs.declared.op.Op.{Op}
use Rattle.msg_form.specs.declared.decline.Decline.{Decline}
use Rattle.check_rules.specs.Verdict.{Judged, same, taken, refusal}
use Rattle.hall_server.specs.HonestReplies.{wall_in}
use Rattle.client_core.specs.declared.sent.Sent.{Sent}
use Rattle.client_core.specs.Asking.{ask}
use Rattle.client_core.specs.Sides.{SideView, side_of, with_side}
use Rattle.client_core.proofs.Places.{found-wall, put-other}
use Rattle.session_laws.specs.Doing.{Exchange, Hearing, Heard, Learning, PlainClient, TookView, ask_of, asked_by, asks_keys, done, done_asked, done_heard, done_on, exchange, heard_by, hearing, keys_exchange, learning, on, request_of, sent_from, sent_side, side_heard, side_learnt, took_after, took_of, wall_of}
use Rattle.session_laws.proofs.Ready.{heard-wall, learnt-wall}

-- The side of the wall is as it was, and the new records are of another wall.
pub record StaysOn (wall : ℕ) (c c' : PlainClient) : Type 1 where
  pub side : side_of wall c'.sides ≡ side_of wall c.sides
  pub records : (P : TookView → Type 0) → ((r : TookView) → (r.wall ≡ wall → ⊥) → P r) → AllByRecursion P c.took
      → AllByRecursion P c'.took

stays-then : (wall : ℕ) (a b c : PlainClient) → StaysOn wall a b → StaysOn wall b c → StaysOn wall a c
stays-then wall a b c p q = record {
  side = q.side ∙ p.side;
  records = λ P others all. q.records P others (p.records P others all);
}

stays-itself : (wall : ℕ) (c : PlainClient) → StaysOn wall c c
stays-itself wall c = record { side = refl; records = λ P others all. all }

module _ (wall : ℕ) (s : SideView) (other : s.known.wall ≡ wall → ⊥) where
  -- a side of another wall is put
  put-elsewhere : (t : SideView) (sides : List SideView) → t.known.wall ≡ s.known.wall
      → side_of wall (with_side s.known.wall t sides) ≡ side_of wall sides
  put-elsewhere t sides at = put-other s.known.wall wall t sides at (λ e. other (sym e))

  sent-elsewhere : (c : PlainClient) (signed : Option Op) → StaysOn wall c (sent_from c s signed)
  sent-elsewhere c None = stays-itself wall c
  sent-elsewhere c (Some op) = record {
    side = put-elsewhere (sent_side s (Some op)) c.sides refl;
    records = λ P others all. all;
  }

  record-elsewhere : (c : PlainClient) (t : SideView) (j : Judged) → t.known.wall ≡ s.known.wall
      → (P : TookView → Type 0) → ((r : TookView) → (r.wall ≡ wall → ⊥) → P r) → AllByRecursion P c.took
      → AllByRecursion P (took_after c t j)
  record-elsewhere c t (same size) at P others all = all
  record-elsewhere c t (refusal cause number) at P others all = all
  record-elsewhere c t (taken view from tree leaves lists) at P others all = by c.rogue
    where
      by : (b : Bool) → AllByRecursion P (if b then c.took else c.took ++ took_of c.user t view from tree leaves lists ∷ [])
      by true = all
      by false = each-append P c.took (took_of c.user t view from tree leaves lists ∷ []) all
          (others (took_of c.user t view from tree leaves lists) (λ e. other (sym at ∙ e)), tt)

  heard-elsewhere : (c : PlainClient) (t : SideView) (j : Hearing) → t.known.wall ≡ s.known.wall
      → StaysOn wall c (heard_by c t j)
  heard-elsewhere c t None at = stays-itself wall c
  heard-elsewhere c t (Some (Err verdict)) at = stays-itself wall c
  heard-elsewhere c t (Some (Ok j)) at = record {
    side = ap (λ (w : ℕ). side_of wall (with_side w (side_heard t (Some (Ok j))) c.sides)) at
        ∙ put-elsewhere (side_heard t (Some (Ok j))) c.sides (heard-wall t (Some (Ok j)) ∙ at);
    records = record-elsewhere c t j at;
  }

  learnt-elsewhere : (c : PlainClient) (t : SideView) (k : Learning) → t.known.wall ≡ s.known.wall
      → StaysOn wall c (record c { sides = with_side t.known.wall (side_learnt t k) c.sides })
  learnt-elsewhere c t k at = record {
    side = ap (λ (w : ℕ). side_of wall (with_side w (side_learnt t k) c.sides)) at
        ∙ put-elsewhere (side_learnt t k) c.sides (learnt-wall t k ∙ at);
    records = λ P others all. all;
  }

  -- an exchange with another wall is none with this
  not-on : (x : Exchange) (xs : List Exchange) → wall_in x.request ≡ s.known.wall → on wall (x ∷ xs) ≡ on wall xs
  not-on x xs at = ap (λ (b : Bool). cond b (x ∷ on wall xs) (on wall xs))
      (ne_eqb (wall_in x.request) wall (λ e. other (sym at ∙ e)))

-- What was done for a command on another wall.
pub record IsElsewhere (wall : ℕ) (c c' : PlainClient) (xs : List Exchange) : Type 1 where
  pub stays : StaysOn wall c c'
  pub none : on wall xs ≡ []

request-wall : (h : Heard) (s : SideView) (signed : Option Op)
    → wall_in (request_of s h.task.command signed) ≡ s.known.wall
request-wall h s None = refl
request-wall h s (Some op) = refl

sent-wall : (s : SideView) (signed : Option Op) → (sent_side s signed).known.wall ≡ s.known.wall
sent-wall s None = refl
sent-wall s (Some op) = refl

module _ (d : Digest) (wall : ℕ) where
  heard-done : (c : PlainClient) (h : Heard) (x : Exchange) (s t : SideView) (j : Hearing)
      → (s.known.wall ≡ wall → ⊥) → t.known.wall ≡ s.known.wall → wall_in x.request ≡ s.known.wall
      → IsElsewhere wall c (done_heard d c h x t j).client (done_heard d c h x t j).exchanges
  heard-done c h x s t j other at asked = by (asks_keys j t) refl
    where
      by : (b : Bool) → asks_keys j t ≡ b
          → IsElsewhere wall c (done_heard d c h x t j).client (done_heard d c h x t j).exchanges
      by false is = rw is (record { stays = stays-itself wall c; none = not-on wall s other x [] asked })
      by true is = rw is (record {
        stays = learnt-elsewhere wall s other c t (learning d t.known h.keys.delivered) at;
        none = not-on wall s other x (keys_exchange h.task t h.keys ∷ []) asked
            ∙ not-on wall s other (keys_exchange h.task t h.keys) [] at;
      })

  asked-done : (c : PlainClient) (h : Heard) (s : SideView) (r : Result Sent Decline) → (s.known.wall ≡ wall → ⊥)
      → IsElsewhere wall c (done_asked d c h s r).client (done_asked d c h s r).exchanges
  asked-done c h s (Err decline) other = record { stays = stays-itself wall c; none = refl }
  asked-done c h s (Ok sent) other =
      let c' = sent_from c s sent.signed in
      let t = sent_side s sent.signed in
      let j = hearing d s.known sent.asked h.first.delivered in
      let x = exchange h.task (request_of s h.task.command sent.signed) (ask_of sent.signed) h.first in
      let at : t.known.wall ≡ s.known.wall = sent-wall s sent.signed in
      let last = heard-done (heard_by c' t j) h x s (side_heard t j) j other (heard-wall t j ∙ at)
      (request-wall h s sent.signed) in
      let end = (done_heard d (heard_by c' t j) h x (side_heard t j) j).client in
      record {
        stays = stays-then wall c c' end (sent-elsewhere wall s other c sent.signed)
            (stays-then wall c' (heard_by c' t j) end (heard-elsewhere wall s other c' t j at) last.stays);
        none = last.none;
      }

  on-done : (c : PlainClient) (h : Heard) (o : Option SideView) → side_of (wall_of h.task.command) c.sides ≡ o
      → (wall_of h.task.command ≡ wall → ⊥)
      → IsElsewhere wall c (done_on d c h o).client (done_on d c h o).exchanges
  on-done c h None found other = record { stays = stays-itself wall c; none = refl }
  on-done c h (Some s) found other =
      let at = found-wall (wall_of h.task.command) c.sides s found in
      asked-done c h s (ask c.signer c.user s (asked_by h.task.command)) (λ e. other (sym at ∙ e))

  -- A command on another wall is elsewhere.
  pub done-elsewhere : (c : PlainClient) (h : Heard) → (wall_of h.task.command ≡ wall → ⊥)
      → IsElsewhere wall c (done d c h).client (done d c h).exchanges
  unfolding done
  done-elsewhere c h other = on-done c h (side_of (wall_of h.task.command) c.sides) refl other

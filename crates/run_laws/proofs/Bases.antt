-- The keys of a side begin as they began, whatever it learns.
use Rattle.std.proofs.Common.{◌≡◌, ◌∙◌, ℕ, ◌+◌, Bool, true, false, List, length, Option, Some, None, Result, Ok, Err, refl}
use Rattle.std.specs.Prelude.{nat_eq, if◌then◌else◌}
use Rattle.std.specs.List.{AllByRecursion}
use Rattle.fr_digest.specs.Digest.{Digest}
use Rattle.op_types.specs.declared.op.Leaf.{Leaf}
use Rattle.op_types.specs.declared.op.Op.{Op}
use Rattle.msg_form.specs.declared.decline.Decline.{Decline}
use Rattle.check_rules.specs.Shown.{changes_of}
use Rattle.check_rules.specs.Verdict.{Judged, same, taken, refusal}
use Rattle.client_core.specs.declared.sent.Sent.{Sent}
use Rattle.client_core.specs.Asking.{ask}
use Rattle.client_core.specs.Keys.{KeysView, after_changes, fresh, held}
use Rattle.client_core.specs.Sides.{SideView, side_of}
use Rattle.client_core.specs.Taking.{keys_after, side_after}
use Rattle.client_core.proofs.Places.{each-found, each-put}
use Rattle.session_laws.specs.Doing.{Exchange, Hearing, Heard, Learning, PlainClient, after, asked_by, asks_keys, done, done_asked, done_heard, done_on, exchange, heard_by, hearing, learning, ask_of, request_of, sent_from, sent_side, side_heard, side_learnt, wall_of}
use Rattle.run_laws.proofs.Keys.{changes-fresh, fresh-fresh}

fresh-after : (keys : KeysView) (epoch : ℕ) (leaves : List Leaf) → fresh (keys_after keys epoch leaves) ≡ fresh keys
unfolding keys_after
fresh-after keys epoch leaves = by (nat_eq (held keys + length (changes_of leaves)) epoch)
  where
    by : (b : Bool) → fresh (if b then after_changes keys (changes_of leaves) else keys) ≡ fresh keys
    by true = changes-fresh keys (changes_of leaves)
    by false = refl

module _ (base : ℕ → KeysView) where
  -- a side whose keys began as those of its wall
  abbrev pub IsBased : SideView → Type 0
  IsBased s = fresh s.keys ≡ base s.known.wall

  abbrev pub AreBased : PlainClient → Type 0
  AreBased c = AllByRecursion IsBased c.sides

  side-sent : (s : SideView) (signed : Option Op) → IsBased s → IsBased (sent_side s signed)
  side-sent s None is = is
  side-sent s (Some op) is = is

  sent-based : (c : PlainClient) (s : SideView) (signed : Option Op) → AreBased c → IsBased s
      → AreBased (sent_from c s signed)
  sent-based c s None all is = all
  sent-based c s (Some op) all is = each-put IsBased s.known.wall (sent_side s (Some op)) c.sides all is

  side-judged : (s : SideView) (j : Judged) → IsBased s → IsBased (side_after s j)
  side-judged s (same size) is = is
  side-judged s (taken view from tree leaves lists) is = fresh-after s.keys _ leaves ∙ is
  side-judged s (refusal cause number) is = is

  side-based : (s : SideView) (j : Hearing) → IsBased s → IsBased (side_heard s j)
  side-based s None is = is
  side-based s (Some (Err verdict)) is = is
  side-based s (Some (Ok j)) is = side-judged s j is

  heard-based : (c : PlainClient) (s : SideView) (j : Hearing) → AreBased c → IsBased s → AreBased (heard_by c s j)
  heard-based c s None all is = all
  heard-based c s (Some (Err verdict)) all is = all
  heard-based c s (Some (Ok j)) all is =
      each-put IsBased s.known.wall (side_after s j) c.sides all (side-judged s j is)

  learnt-based : (s : SideView) (k : Learning) → IsBased s → IsBased (side_learnt s k)
  learnt-based s None is = is
  learnt-based s (Some (Err verdict)) is = is
  learnt-based s (Some (Ok changes)) is = changes-fresh (fresh s.keys) changes ∙ fresh-fresh s.keys ∙ is

  module _ (d : Digest) where
    heard-done : (c : PlainClient) (h : Heard) (x : Exchange) (s : SideView) (j : Hearing) → AreBased c → IsBased s
        → AreBased (done_heard d c h x s j).client
    heard-done c h x s j all is = by (asks_keys j s) refl
      where
        by : (b : Bool) → asks_keys j s ≡ b → AreBased (done_heard d c h x s j).client
        by false e = rw e all
        by true e = rw e (each-put IsBased s.known.wall (side_learnt s (learning d s.known h.keys.delivered)) c.sides all
            (learnt-based s (learning d s.known h.keys.delivered) is))

    asked-done : (c : PlainClient) (h : Heard) (s : SideView) (r : Result Sent Decline) → AreBased c → IsBased s
        → AreBased (done_asked d c h s r).client
    asked-done c h s (Err decline) all is = all
    asked-done c h s (Ok sent) all is =
        let c1 = sent_from c s sent.signed in
        let s1 = sent_side s sent.signed in
        let j = hearing d s.known sent.asked h.first.delivered in
        let x = exchange h.task (request_of s h.task.command sent.signed) (ask_of sent.signed) h.first in
        let here = side-sent s sent.signed is in
        heard-done (heard_by c1 s1 j) h x (side_heard s1 j) j
        (heard-based c1 s1 j (sent-based c s sent.signed all is) here) (side-based s1 j here)

    on-done : (c : PlainClient) (h : Heard) (o : Option SideView) → side_of (wall_of h.task.command) c.sides ≡ o
        → AreBased c → AreBased (done_on d c h o).client
    on-done c h None found all = all
    on-done c h (Some s) found all =
        asked-done c h s (ask c.signer c.user s (asked_by h.task.command)) all
        (each-found IsBased (wall_of h.task.command) c.sides s all found)

    pub done-based : (c : PlainClient) (h : Heard) → AreBased c → AreBased (after d c h)
    unfolding done
    done-based c h all = on-done c h (side_of (wall_of h.task.command) c.sides) refl all

-- What a client asks for it has signed, and it keeps what it has signed.
use Rattle.std.proofs.Common.{◌≡◌, ◌∙◌, ℕ, ◌+◌, Bool, true, false, List, [], ◌∷◌, ◌++◌, length, Option, Some, None, Result, Ok, Err, refl, sym, ap, subst}
use Rattle.std.specs.Prelude.{if◌then◌else◌, slice_get}
use Rattle.std.specs.List.{AllByRecursion}
use Rattle.fr_bytes.specs.History.{Begins}
use Rattle.fr_bytes.proofs.HistoryLaws.{begins_itself, begins_then}
use Rattle.fr_bytes.proofs.Lists.{each-append}
use Rattle.fr_digest.specs.Digest.{Digest}
use Rattle.op_types.specs.declared.op.Op.{Op}
use Rattle.msg_form.specs.declared.decline.Decline.{Decline}
use Rattle.world_book.specs.declared.took.Signed.{Signed}
use Rattle.world_book.specs.Records.{IsIn}
use Rattle.world_book.proofs.Places.{place-left, place-right}
use Rattle.client_core.specs.declared.sent.Sent.{Sent}
use Rattle.client_core.specs.Asking.{ask, unsigned}
use Rattle.client_core.specs.Sides.{SideView, side_of}
use Rattle.session_laws.specs.Doing.{Done, Exchange, Hearing, Heard, PlainClient, after, ask_of, asked_by, asks_keys, dids, done, done_asked, done_heard, done_on, done_sent, exchange, exchanges_of, heard_by, hearing, last, request_of, sent_from, sent_side, side_heard, wall_of}
use Rattle.session_laws.proofs.Steps.{done-asked}
use Rattle.run_laws.specs.Listed.{AsksFor}
use Rattle.run_laws.specs.Standing.{HasSigned, signed_of}
use Rattle.run_laws.proofs.Asks.{ExchangeFor, any-ask, asks-more, done-asks, signed-author}
use Rattle.run_laws.proofs.Fronts.{all-more}

-- ---- a client later

-- It is of the same user, and what was signed stays.
pub record IsLater (c c' : PlainClient) : Type 0 where
  pub user : c'.user ≡ c.user
  pub rogue : c'.rogue ≡ c.rogue
  pub signed : Begins c.signed c'.signed

later-itself : (c : PlainClient) → IsLater c c
later-itself c = record { user = refl; rogue = refl; signed = begins_itself c.signed }

pub later-then : (a b c : PlainClient) → IsLater a b → IsLater b c → IsLater a c
later-then a b c p q = record {
  user = q.user ∙ p.user;
  rogue = q.rogue ∙ p.rogue;
  signed = begins_then a.signed b.signed c.signed p.signed q.signed;
}

in-longer : {A : Type 0} (xs ys : List A) (x : A) → Begins xs ys → IsIn xs x → IsIn ys x
in-longer xs ys x b at = record {
  place = at.place;
  there = ap (λ zs. slice_get zs at.place) b.whole ∙ place-left xs b.more at.place x at.there;
}

pub signed-later : (c c' : PlainClient) (op : Op) → IsLater c c' → HasSigned c op → HasSigned c' op
signed-later c c' op later it = record {
  author = it.author ∙ sym later.user;
  kept = λ honest.
      let here = it.kept (sym later.rogue ∙ honest) in
      subst (λ (u : ℕ). IsIn c'.signed (let s : Signed = record { user = u; op = op } in s)) (sym later.user)
      (in-longer c.signed c'.signed (signed_of c op) later.signed here);
}

-- ---- what its calls leave

sent-later : (c : PlainClient) (s : SideView) (signed : Option Op) → IsLater c (sent_from c s signed)
sent-later c s None = later-itself c
sent-later c s (Some op) = record { user = refl; rogue = refl; signed = by c.rogue }
  where
    by : (b : Bool) → Begins c.signed (if b then c.signed else c.signed ++ signed_of c op ∷ [])
    by true = begins_itself c.signed
    by false = record { more = signed_of c op ∷ []; whole = refl }

heard-later : (c : PlainClient) (s : SideView) (j : Hearing) → IsLater c (heard_by c s j)
heard-later c s None = later-itself c
heard-later c s (Some (Err verdict)) = later-itself c
heard-later c s (Some (Ok j)) = record { user = refl; rogue = refl; signed = begins_itself c.signed }

module _ (d : Digest) where
  keys-later : (c : PlainClient) (h : Heard) (x : Exchange) (s : SideView) (j : Hearing)
      → IsLater c (done_heard d c h x s j).client
  keys-later c h x s j = by (asks_keys j s) refl
    where
      by : (b : Bool) → asks_keys j s ≡ b → IsLater c (done_heard d c h x s j).client
      by true is = rw is (record { user = refl; rogue = refl; signed = begins_itself c.signed })
      by false is = rw is (later-itself c)

  -- after it has sent
  behind-sent : (c : PlainClient) (h : Heard) (x : Exchange) (s : SideView) (j : Hearing)
      → IsLater c (done_sent d c h x s j).client
  behind-sent c h x s j = later-then c (heard_by c s j) (done_sent d c h x s j).client (heard-later c s j)
      (keys-later (heard_by c s j) h x (side_heard s j) j)

  asked-later : (c : PlainClient) (h : Heard) (s : SideView) (r : Result Sent Decline)
      → IsLater c (done_asked d c h s r).client
  asked-later c h s (Err decline) = later-itself c
  asked-later c h s (Ok sent) =
      let c1 = sent_from c s sent.signed in
      let x = exchange h.task (request_of s h.task.command sent.signed) (ask_of sent.signed) h.first in
      let s1 = sent_side s sent.signed in
      let j = hearing d s.known sent.asked h.first.delivered in
      later-then c c1 (done_sent d c1 h x s1 j).client (sent-later c s sent.signed) (behind-sent c1 h x s1 j)

  on-later : (c : PlainClient) (h : Heard) (o : Option SideView) → IsLater c (done_on d c h o).client
  on-later c h None = later-itself c
  on-later c h (Some s) = asked-later c h s (ask c.signer c.user s (asked_by h.task.command))

  pub after-later : (c : PlainClient) (h : Heard) → IsLater c (after d c h)
  unfolding done
  after-later c h = on-later c h (side_of (wall_of h.task.command) c.sides)

  pub last-later : (hs : List Heard) (c : PlainClient) → IsLater c (last d c hs)
  last-later [] c = later-itself c
  last-later (h ∷ hs) c =
      later-then c (after d c h) (last d (after d c h) hs) (after-later c h) (last-later hs (after d c h))

  -- ---- what is asked for is signed

  sent-signed : (c : PlainClient) (s : SideView) (signed : Option Op)
      → AsksFor (λ (op : Op). op.author ≡ c.user) (ask_of signed)
      → AsksFor (HasSigned (sent_from c s signed)) (ask_of signed)
  sent-signed c s None author = tt
  sent-signed c s (Some op) author = record { author = author; kept = by c.rogue }
    where
      by : (b : Bool) → b ≡ false → IsIn (if b then c.signed else c.signed ++ signed_of c op ∷ []) (signed_of c op)
      by true e = absurd cc
      by false e = record {
        place = length c.signed + 0;
        there = place-right c.signed (signed_of c op ∷ []) 0;
      }

  asks-later : (c c' : PlainClient) (o : Option Op) → IsLater c c' → AsksFor (HasSigned c) (ask_of o)
      → AsksFor (HasSigned c') (ask_of o)
  asks-later c c' None later it = tt
  asks-later c c' (Some op) later it = signed-later c c' op later it

  done-signed : (c : PlainClient) (h : Heard)
      → AllByRecursion (ExchangeFor (HasSigned (after d c h))) (done d c h).exchanges
  done-signed c h = done-asks d (HasSigned (after d c h)) c h (λ s sent found asked.
      let c1 = sent_from c s sent.signed in
      let x = exchange h.task (request_of s h.task.command sent.signed) (ask_of sent.signed) h.first in
      let s1 = sent_side s sent.signed in
      let j = hearing d s.known sent.asked h.first.delivered in
      let later : IsLater c1 (after d c h) =
      subst (λ (y : Done). IsLater c1 y.client) (sym (done-asked d c h s sent found asked)) (behind-sent c1 h x s1 j) in
      let author = any-ask (λ (op : Op). op.author ≡ c.user) c.signer c.user s h.task.command sent
      (λ kind. signed-author c.signer (unsigned c.user s kind)) asked in
      asks-later c1 (after d c h) sent.signed later (sent-signed c s sent.signed author))

  -- What a client asks for with its commands it has signed.
  pub all-signed : (hs : List Heard) (c : PlainClient)
      → AllByRecursion (ExchangeFor (HasSigned (last d c hs))) (exchanges_of (dids d c hs))
  all-signed [] c = tt
  all-signed (h ∷ hs) c =
      let c' = after d c h in
      each-append (ExchangeFor (HasSigned (last d c' hs))) (done d c h).exchanges (exchanges_of (dids d c' hs))
      (all-more (ExchangeFor (HasSigned c')) (ExchangeFor (HasSigned (last d c' hs)))
      (λ x it. asks-more (HasSigned c') (HasSigned (last d c' hs))
      (λ op signed. signed-later c' (last d c' hs) op (last-later hs c') signed) x.ask it) (done d c h).exchanges (done-signed c h))
      (all-signed hs c')

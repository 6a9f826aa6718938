-- What wires carried and clients kept only grows.
use Rattle.std.proofs.Common.{◌≡◌, ◌∙◌, ℕ, Bool, true, false, cond, List, [], ◌∷◌, ◌++◌, Option, Some, None, refl, ap, sym, subst, append_assoc, arith}
use Rattle.std.proofs.lemmas.List.{append-nil}
use Rattle.fr_bytes.specs.Bytes.{Text}
use Rattle.fr_bytes.specs.History.{Begins}
use Rattle.fr_bytes.proofs.HistoryLaws.{begins_itself, begins_then}
use Rattle.fr_digest.specs.Digest.{Digest}
use Rattle.fr_edges.specs.declared.wire.Carried.{Carried}
use Rattle.fr_edges.specs.Sink.{with_more}
use Rattle.fr_edges.specs.Wire.{WireView}
use Rattle.op_types.specs.declared.op.Op.{Op}
use Rattle.check_rules.specs.Verdict.{Judged, same, taken, refusal}
use Rattle.check_core.specs.View.{checked_view}
use Rattle.hall_server.specs.Answers.{HaveGrown, Sights}
use Rattle.script_form.specs.declared.outcome.Outcome.{Outcome}
use Rattle.client_core.specs.declared.news.News.{News}
use Rattle.client_core.specs.declared.sent.Sent.{Sent}
use Rattle.client_core.specs.Asking as asking
use Rattle.client_core.specs.Clients.{Asks, ClientView, Hears}
use Rattle.client_core.specs.Sides.{SideView}
use Rattle.session_laws.specs.Doing.{PlainClient, plain, sent_from, took_after, took_of}
use Rattle.session_laws.specs.Lanes.{Halfway}
use Rattle.session_laws.proofs.Clients.{plain-sent, plain-taken}
use Rattle.session_run.specs.Parts.{BookGrows, WireGrows}

-- ---- wires

carried-twice : {A : Type 0} (told : Option (List A)) (xs ys : List A)
    → with_more (with_more told xs) ys ≡ with_more told (xs ++ ys)
carried-twice None xs ys = refl
carried-twice {A = A} (Some zs) xs ys = ap (λ (ws : List A). Some ws) (append_assoc zs xs ys)

carried-none : {A : Type 0} (told : Option (List A)) → told ≡ with_more told []
carried-none None = refl
carried-none {A = A} (Some zs) = ap (λ (ws : List A). Some ws) (sym (append-nil zs))

pub wire-grows-itself : (w : WireView) → WireGrows w w
wire-grows-itself w = record { straight = refl; carried = ([], carried-none w.carried); faults = omega arith }

pub wire-grows-then : (a b c : WireView) → WireGrows a b → WireGrows b c → WireGrows a c
wire-grows-then a b c p q = record {
  straight = q.straight ∙ p.straight;
  carried = (
    p.carried.0 ++ q.carried.0,
    q.carried.1 ∙ ap (λ (t : Option (List Carried)). with_more t q.carried.0) p.carried.1
        ∙ carried-twice a.carried p.carried.0 q.carried.0,
  );
  faults = omega (arith, p.faults, q.faults);
}

-- ---- clients

pub book-itself : (c : PlainClient) → BookGrows c c
book-itself c = record { took = begins_itself c.took; signed = begins_itself c.signed }

pub book-then : (a b c : PlainClient) → BookGrows a b → BookGrows b c → BookGrows a c
book-then a b c p q = record {
  took = begins_then a.took b.took c.took p.took q.took;
  signed = begins_then a.signed b.signed c.signed p.signed q.signed;
}

begins-or : {A : Type 0} (b : Bool) (xs : List A) (x : A)
    → Begins xs (cond b xs (xs ++ x ∷ []))
begins-or true xs x = begins_itself xs
begins-or false xs x = record { more = x ∷ []; whole = refl }

sent-book : (c : PlainClient) (s : SideView) (signed : Option Op) → BookGrows c (sent_from c s signed)
sent-book c s None = book-itself c
sent-book c s (Some op) = record {
  took = begins_itself c.took;
  signed = begins-or c.rogue c.signed (record { user = c.user; op = op });
}

heard-book : (c : PlainClient) (s : SideView) (j : Judged) → Begins c.took (took_after c s j)
heard-book c s (same size) = begins_itself c.took
heard-book c s (taken view from tree leaves lists) =
    begins-or c.rogue c.took (took_of c.user s view from tree leaves lists)
heard-book c s (refusal cause number) = begins_itself c.took

pub asks-book : (v w : ClientView) (wall : ℕ) (wish : asking.Command) (sent : Sent) → Asks v wall wish sent w
    → BookGrows (plain v) (plain w)
asks-book v w wall wish sent a =
    subst (λ (k : PlainClient). BookGrows (plain v) k)
    (sym (ap plain a.after_is ∙ plain-sent v a.side sent.signed)) (sent-book (plain v) a.side sent.signed)

pub hears-book : (d : Digest) (v w : ClientView) (sent : Sent) (bytes : Text) (news : News) → Hears d v sent bytes news w
    → BookGrows (plain v) (plain w)
hears-book d v w sent bytes news r =
    subst (λ (k : PlainClient). BookGrows (plain v) k)
    (sym (ap plain r.after_is ∙ plain-taken v r.side r.checked))
    (record { took = heard-book (plain v) r.side (checked_view r.checked); signed = begins_itself (plain v).signed })

-- ---- lanes

pub halfway-by : (c c' : PlainClient) (before now : Sights) (wire wire' : WireView) (os : List Outcome) → BookGrows c c'
    → HaveGrown before now → WireGrows wire wire'
    → Halfway (record { client = c; outcomes = os; seat = before; wire = wire })
    (record { client = c'; outcomes = os; seat = now; wire = wire' })
halfway-by c c' before now wire wire' os book grown grows = record {
  outcomes = refl;
  facts = λ wall. (grown wall).same;
  fronts = λ wall. (grown wall).begins;
  carried = grows.carried;
  straight = grows.straight;
  faults = grows.faults;
  took = book.took;
  signed = book.signed;
}

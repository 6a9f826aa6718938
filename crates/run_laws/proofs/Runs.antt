-- A run over straight wires at an honest wall.
use Rattle.std.proofs.Common.{◌≡◌, ◌∙◌, inl, inr, ℕ, Bool, cond, List, [], ◌∷◌, ◌++◌, refl, sym, ap, subst, eq-eqb, ne_eqb}
use Rattle.std.specs.Prelude.{nat_eq}
use Rattle.std.specs.List.{AllByRecursion, scan}
use Rattle.std.proofs.lemmas.Bool.{cases_eq}
use Rattle.fr_bytes.proofs.Lists.{each-append}
use Rattle.fr_digest.specs.Digest.{Digest}
use Rattle.op_types.specs.declared.op.Leaf.{Leaf}
use Rattle.op_types.specs.declared.op.Op.{Op}
use Rattle.honest_replies.specs.HonestReply.{FewEntries}
use Rattle.hall_core.specs.declared.ask.Called.{Called}
use Rattle.hall_core.specs.declared.facts.WallFacts.{WallFacts}
use Rattle.hall_core.specs.Calls.{play, turns}
use Rattle.hall_core.proofs.Honesty.{honest-nil}
use Rattle.hall_server.specs.HonestReplies.{wall_in}
use Rattle.session_laws.specs.Doing.{Did, Exchange, Heard, PlainClient, after, client_of, did_behind, dids, done, exchanges_of, last, stream}
use Rattle.session_laws.specs.Histories.{IsUser}
use Rattle.session_laws.proofs.Streams.{client-append}
use Rattle.run_laws.specs.HonestRun.{IsHonestWall}
use Rattle.run_laws.specs.Listed.{AdmitsUsers, IsOpOfUsers}
use Rattle.run_laws.specs.Untampered.{EndsWell, IsStraight, IsUntampered, exchanges_on}
use Rattle.run_laws.proofs.Asks.{ExchangeFor, calls-ask, done-asks, played-for, some-of, turns-ask, users-ask}
use Rattle.run_laws.proofs.Entries.{few-of}
use Rattle.run_laws.proofs.Fronts.{all-parts}
use Rattle.run_laws.proofs.Users.{untampered-well}

-- ---- one user's exchanges

-- all that a client's commands do, where it holds of each
pub each-did : (d : Digest) (P : Exchange → Type 0) (hs : List Heard) (c : PlainClient) (Q : Heard → Type 0)
    → ((c' : PlainClient) (h : Heard) → Q h → AllByRecursion P (done d c' h).exchanges) → AllByRecursion Q hs
    → AllByRecursion P (exchanges_of (dids d c hs))
each-did d P [] c Q holds all = tt
each-did d P (h ∷ hs) c Q holds all =
    each-append P (done d c h).exchanges (exchanges_of (dids d (after d c h) hs)) (holds c h all.0)
    (each-did d P hs (after d c h) Q holds all.1)

module _ (d : Digest) (start : ℕ → PlainClient) (user : ℕ) where
  abbrev behind : List Heard → List Heard → List Did
  behind earlier hs = scan (λ (zs : List Heard) (h : Heard). zs ++ h ∷ []) (did_behind d start) earlier hs

  mine-first : (h : Heard) (hs : List Heard) → h.task.user ≡ user → stream user (h ∷ hs) ≡ h ∷ stream user hs
  mine-first h hs is = ap (λ (b : Bool). cond b (h ∷ stream user hs) (stream user hs)) (eq-eqb h.task.user user is)

  other-first : (h : Heard) (hs : List Heard) → (h.task.user ≡ user → ⊥) → stream user (h ∷ hs) ≡ stream user hs
  other-first h hs ne = ap (λ (b : Bool). cond b (h ∷ stream user hs) (stream user hs)) (ne_eqb h.task.user user ne)

  client-mine : (earlier : List Heard) (h : Heard) → h.task.user ≡ user
      → client_of d start user (earlier ++ h ∷ []) ≡ after d (client_of d start user earlier) h
  client-mine earlier h is =
      client-append d start user earlier (h ∷ [])
      ∙ ap (last d (client_of d start user earlier)) (mine-first h [] is)

  client-other : (earlier : List Heard) (h : Heard) → (h.task.user ≡ user → ⊥)
      → client_of d start user (earlier ++ h ∷ []) ≡ client_of d start user earlier
  client-other earlier h ne =
      client-append d start user earlier (h ∷ [])
      ∙ ap (last d (client_of d start user earlier)) (other-first h [] ne)

  -- what holds of all exchanges of a run holds of those of one user
  all-mine : (P : Exchange → Type 0) (earlier hs : List Heard) → AllByRecursion P (exchanges_of (behind earlier hs))
      → AllByRecursion P (exchanges_of (dids d (client_of d start user earlier) (stream user hs)))
  all-mine P earlier [] all = tt
  all-mine P earlier (h ∷ hs) all =
      let c = client_of d start user earlier in
      let parts = all-parts P (did_behind d start earlier h).exchanges
      (exchanges_of (behind (earlier ++ h ∷ []) hs)) all in
      let rest = all-mine P (earlier ++ h ∷ []) hs parts.1 in
      elim (cases_eq h.task.user user) [
        | inl is ↦
            let first : AllByRecursion P (done d c h).exchanges =
            subst (λ (u : ℕ). AllByRecursion P (done d (client_of d start u earlier) h).exchanges) is parts.0 in
            let others : AllByRecursion P (exchanges_of (dids d (after d c h) (stream user hs))) =
            subst (λ (x : PlainClient). AllByRecursion P (exchanges_of (dids d x (stream user hs)))) (client-mine earlier h is)
            rest in
            subst (λ (zs : List Heard). AllByRecursion P (exchanges_of (dids d c zs))) (sym (mine-first h hs is))
            (each-append P (done d c h).exchanges (exchanges_of (dids d (after d c h) (stream user hs))) first others)
        | inr ne ↦
            subst (λ (zs : List Heard). AllByRecursion P (exchanges_of (dids d c zs))) (sym (other-first h hs ne))
            (subst (λ (x : PlainClient). AllByRecursion P (exchanges_of (dids d x (stream user hs))))
            (client-other earlier h ne) rest)
      ]

-- what holds of all that each user's client did holds of all that was done
pub all-users : (d : Digest) (start : ℕ → PlainClient) (users : List ℕ) (P : Did → Type 0) (earlier hs : List Heard)
    → ((user : ℕ) → IsUser users user
    → AllByRecursion P (dids d (client_of d start user earlier) (stream user hs)))
    → AllByRecursion (λ (h : Heard). IsUser users h.task.user) hs
    → AllByRecursion P (scan (λ (zs : List Heard) (h : Heard). zs ++ h ∷ []) (did_behind d start) earlier hs)
all-users d start users P earlier [] each known = tt
all-users d start users P earlier (h ∷ hs) each known =
    let u = h.task.user in
    let mine : AllByRecursion P (dids d (client_of d start u earlier) (h ∷ stream u hs)) =
    subst (λ (zs : List Heard). AllByRecursion P (dids d (client_of d start u earlier) zs))
    (mine-first d start u h hs refl) (each u known.0) in
    (mine.0, all-users d start users P (earlier ++ h ∷ []) hs (λ user listed. rest user (each user listed)) known.1)
  where
    rest : (user : ℕ) → AllByRecursion P (dids d (client_of d start user earlier) (stream user (h ∷ hs)))
        → AllByRecursion P (dids d (client_of d start user (earlier ++ h ∷ [])) (stream user hs))
    rest user all = elim (cases_eq h.task.user user) [
      | inl is ↦
          let both : AllByRecursion P (dids d (client_of d start user earlier) (h ∷ stream user hs)) =
          subst (λ (zs : List Heard). AllByRecursion P (dids d (client_of d start user earlier) zs))
          (mine-first d start user h hs is) all in
          subst (λ (c : PlainClient). AllByRecursion P (dids d c (stream user hs)))
          (sym (client-mine d start user earlier h is)) both.1
      | inr ne ↦
          subst (λ (c : PlainClient). AllByRecursion P (dids d c (stream user hs)))
          (sym (client-other d start user earlier h ne))
          (subst (λ (zs : List Heard). AllByRecursion P (dids d (client_of d start user earlier) zs))
          (other-first d start user h hs ne) all)
    ]

-- ---- an honest wall

module _ (d : Digest) (users : List ℕ) (start : ℕ → PlainClient) (heards : List Heard) (facts : WallFacts)
    (calls : List Called) (wall : IsHonestWall d users start heards facts calls) where
  -- what holds of each operation that the users' clients ask for holds of those of the wall
  pub leaves-for : (P : Op → Type 0)
      → ((user : ℕ) → IsUser users user → AllByRecursion (ExchangeFor P)
      (exchanges_of (dids d (start user) (stream user heards))))
      → AllByRecursion (λ (leaf : Leaf). P leaf.op) (play d facts calls)
  leaves-for P each = played-for d facts P [] calls tt (calls-ask d facts P users [] calls wall.callers (λ user listed.
      turns-ask d facts P (exchanges_on d facts.wall (start user) (stream user heards)) (turns d facts user calls)
      (wall.served user listed)
      (some-of (ExchangeFor P) (λ (x : Exchange). nat_eq (wall_in x.request) facts.wall)
      (exchanges_of (dids d (start user) (stream user heards))) (each user listed))))

  asks-users : (user : ℕ) → AllByRecursion (ExchangeFor (IsOpOfUsers users))
      (exchanges_of (dids d (start user) (stream user heards)))
  asks-users user = each-did d (ExchangeFor (IsOpOfUsers users)) (stream user heards) (start user)
      (λ (h : Heard). AdmitsUsers users h.task.command)
      (λ c h admits. done-asks d (IsOpOfUsers users) c h (λ s sent found asked.
      users-ask users c.signer c.user s h.task.command sent admits asked))
      (some-of (λ (h : Heard). AdmitsUsers users h.task.command) (λ (h : Heard). nat_eq h.task.user user) heards
      wall.admits)

  few-entries : FewEntries facts.owner (play d facts calls)
  few-entries = few-of facts.owner users (play d facts calls) wall.few wall.owner
      (leaves-for (IsOpOfUsers users) (λ user listed. asks-users user))

  -- Nothing was tampered with.
  pub user-untampered : (user : ℕ) → IsUser users user
      → IsUntampered d facts user [] calls (start user) (stream user heards)
  user-untampered user listed = record {
    legal = wall.legal;
    honest = honest-nil d facts;
    spelled = wall.spelled;
    few = few-entries;
    follows = wall.starts user listed;
    served = wall.served user listed;
    straight = some-of IsStraight (λ (x : Exchange). nat_eq (wall_in x.request) facts.wall)
        (exchanges_of (dids d (start user) (stream user heards)))
        (all-mine d start user IsStraight [] heards wall.straight);
  }

  -- So each user's commands end by its turns, and its client follows the wall to the end.
  pub user-well : (user : ℕ) → IsUser users user
      → EndsWell d facts user [] calls (start user) (stream user heards)
  user-well user listed =
      untampered-well d facts user [] calls (start user) (stream user heards) (user-untampered user listed)

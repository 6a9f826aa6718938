-- One phase more.
use Rattle.std.proofs.Common.{◌≡◌, ◌≢◌, ◌∙◌, ℕ, suc, ◌+◌, ◌<◌, ◌≤◌, Bool, true, false, cond, List, [], ◌∷◌, ◌++◌, length, length-append, map, refl, sym, ap, subst, append_assoc, inl, inr, eq-eqb, ne_eqb, arith}
use Rattle.std.specs.Prelude.{filter, nat_eq}
use Rattle.std.specs.List.{AllByRecursion, AllZip}
use Rattle.std.proofs.lemmas.Bool.{cases_eq}
use Rattle.std.proofs.lemmas.List.{append-nil, map-append}
use Rattle.std.proofs.lemmas.Grind.{flat_map-append}
use Rattle.std.proofs.lemmas.List.Elements.{filter-append}
use Rattle.fr_bytes.proofs.Lists.{allzip-append, each-append}
use Rattle.fr_bytes.specs.History.{own}
use Rattle.fr_digest.specs.Digest.{Digest}
use Rattle.hall_core.specs.declared.ask.Ask.{Ask}
use Rattle.hall_core.specs.declared.ask.Called.{Called}
use Rattle.hall_core.specs.Calls.{caller_of}
use Rattle.script_read.specs.declared.script.Command.{Command}
use Rattle.script_read.specs.declared.script.ScriptSession.{ScriptSession}
use Rattle.session_laws.specs.Doing.{Did, Exchange, Heard, PlainClient, Task, after, did, dids, exchanges_of, in_phase, last, on, stream, tasks_of}
use Rattle.session_laws.specs.Doing as doing
use Rattle.session_laws.specs.Histories.{Histories, IsStretch, IsUser, Together, asked_in, asks_of, whole}
use Rattle.session_laws.specs.Runs.{PhaseRun, RunView}
use Rattle.session_laws.proofs.RunLaws.{run-nothing, run-then, then-heards}
use Rattle.session_laws.proofs.Streams.{dids-append, stream-append}
use Rattle.run_phases.specs.Phases.{Played, PlayedPhase, fronts}
use Rattle.run_phases.specs.Tasks.{numbers_from, tasks_from, tasks_in}

-- ---- the phases of tasks

each-map : {A B : Type 0} (P : B → Type 0) (f : A → B) (xs : List A) → AllByRecursion P (map f xs)
    → AllByRecursion (λ (x : A). P (f x)) xs
each-map P f [] all = tt
each-map P f (x ∷ xs) all = (all.0, each-map P f xs all.1)

each-so : {A : Type 0} (P Q : A → Type 0) (xs : List A) → ((x : A) → P x → Q x) → AllByRecursion P xs → AllByRecursion Q xs
each-so P Q [] so all = tt
each-so P Q (x ∷ xs) so all = (so x all.0, each-so P Q xs so all.1)

abbrev IsIn : ℕ → Task → Type 0
IsIn phase task = task.place.phase ≡ phase

abbrev IsBefore : ℕ → Task → Type 0
IsBefore phase task = task.place.phase < phase

commands-in : (phase number user n : ℕ) (commands : List Command)
    → AllByRecursion (IsIn phase) (doing.tasks_from phase number user n commands)
commands-in phase number user n [] = tt
commands-in phase number user n (c ∷ commands) = (refl, commands-in phase number user (n + 1) commands)

sessions-in : (phase number : ℕ) (sessions : List ScriptSession) → AllByRecursion (IsIn phase) (tasks_in phase number sessions)
sessions-in phase number [] = tt
sessions-in phase number (s ∷ sessions) =
    each-append (IsIn phase) (tasks_of phase number s.user s.commands) (tasks_in phase (number + 1) sessions)
    (commands-in phase number s.user 1 s.commands) (sessions-in phase (number + 1) sessions)

phases-before : (first : ℕ) (phases : List (List ScriptSession))
    → AllByRecursion (IsBefore (first + length phases)) (tasks_from first phases)
phases-before first [] = tt
phases-before first (sessions ∷ phases) =
    let last : first + 1 + length phases ≡ first + suc (length phases) = omega arith in
    each-append (IsBefore (first + suc (length phases))) (tasks_in first 1 sessions) (tasks_from (first + 1) phases)
    (each-so (IsIn first) (IsBefore (first + suc (length phases))) (tasks_in first 1 sessions)
    (λ t is. omega (is, arith)) (sessions-in first 1 sessions))
    (subst (λ (n : ℕ). AllByRecursion (IsBefore n) (tasks_from (first + 1) phases)) last
    (phases-before (first + 1) phases))

tasks-snoc : (first : ℕ) (phases : List (List ScriptSession)) (sessions : List ScriptSession)
    → tasks_from first (phases ++ sessions ∷ [])
    ≡ tasks_from first phases ++ tasks_in (first + length phases) 1 sessions
tasks-snoc first [] sessions =
    append-nil (tasks_in first 1 sessions)
    ∙ ap (λ (n : ℕ). tasks_in n 1 sessions) (let e : first ≡ first + 0 = omega arith in e)
tasks-snoc first (ss ∷ phases) sessions =
    ap (λ (l : List Task). tasks_in first 1 ss ++ l) (tasks-snoc (first + 1) phases sessions)
    ∙ sym (append_assoc (tasks_in first 1 ss) (tasks_from (first + 1) phases)
    (tasks_in (first + 1 + length phases) 1 sessions))
    ∙ ap (λ (n : ℕ). (tasks_in first 1 ss ++ tasks_from (first + 1) phases) ++ tasks_in n 1 sessions)
    (let e : first + 1 + length phases ≡ first + suc (length phases) = omega arith in e)

numbers-snoc : (first : ℕ) (phases : List (List ScriptSession)) (sessions : List ScriptSession)
    → numbers_from first (phases ++ sessions ∷ []) ≡ numbers_from first phases ++ (first + length phases) ∷ []
numbers-snoc first [] sessions = ap (λ (n : ℕ). n ∷ []) (let e : first ≡ first + 0 = omega arith in e)
numbers-snoc first (ss ∷ phases) sessions =
    ap (λ (l : List ℕ). first ∷ l) (numbers-snoc (first + 1) phases sessions
    ∙ ap (λ (n : ℕ). numbers_from (first + 1) phases ++ n ∷ [])
    (let e : first + 1 + length phases ≡ first + suc (length phases) = omega arith in e))

numbers-before : (first : ℕ) (phases : List (List ScriptSession))
    → AllByRecursion (λ (n : ℕ). n < first + length phases) (numbers_from first phases)
numbers-before first [] = tt
numbers-before first (ss ∷ phases) =
    let last : first + 1 + length phases ≡ first + suc (length phases) = omega arith in (
      omega arith,
      subst (λ (m : ℕ). AllByRecursion (λ (n : ℕ). n < m) (numbers_from (first + 1) phases)) last
          (numbers-before (first + 1) phases),
    )

-- ---- what commands of a phase did

in-append : (phase : ℕ) (xs ys : List Did) → in_phase phase (xs ++ ys) ≡ in_phase phase xs ++ in_phase phase ys
in-append phase xs ys = filter-append (λ (x : Did). nat_eq x.task.place.phase phase) xs ys

in-none : (d : Digest) (c : PlainClient) (phase : ℕ) (hs : List Heard)
    → AllByRecursion (λ (h : Heard). h.task.place.phase ≢ phase) hs → in_phase phase (dids d c hs) ≡ []
in-none d c phase [] all = refl
in-none d c phase (h ∷ hs) all =
    ap (λ (b : Bool). cond b (did d c h ∷ in_phase phase (dids d (after d c h) hs)) (in_phase phase (dids d (after d c h) hs)))
    (ne_eqb h.task.place.phase phase all.0)
    ∙ in-none d (after d c h) phase hs all.1

in-all : (d : Digest) (c : PlainClient) (phase : ℕ) (hs : List Heard)
    → AllByRecursion (λ (h : Heard). h.task.place.phase ≡ phase) hs → in_phase phase (dids d c hs) ≡ dids d c hs
in-all d c phase [] all = refl
in-all d c phase (h ∷ hs) all =
    ap (λ (b : Bool). cond b (did d c h ∷ in_phase phase (dids d (after d c h) hs)) (in_phase phase (dids d (after d c h) hs)))
    (eq-eqb h.task.place.phase phase all.0)
    ∙ ap (λ (l : List Did). did d c h ∷ l) (in-all d (after d c h) phase hs all.1)

each-stream : (P : Heard → Type 0) (user : ℕ) (hs : List Heard) → AllByRecursion P hs → AllByRecursion P (stream user hs)
each-stream P user [] all = tt
each-stream P user (h ∷ hs) all =
    elim (nat_eq h.task.user user) as (λ (b : Bool). AllByRecursion P (cond b (h ∷ stream user hs) (stream user hs))) [
      | true ↦ (all.0, each-stream P user hs all.1)
      | false ↦ each-stream P user hs all.1
    ]

-- ---- stretches

module _ (d : Digest) (users : List ℕ) (start mid : ℕ → PlainClient) (hs ks : List Heard)
    (clients : (user : ℕ) → mid user ≡ last d (start user) (stream user hs)) where
  split : (user : ℕ) → dids d (start user) (stream user (hs ++ ks))
      ≡ dids d (start user) (stream user hs) ++ dids d (mid user) (stream user ks)
  split user =
      ap (dids d (start user)) (stream-append user hs ks)
      ∙ dids-append d (start user) (stream user hs) (stream user ks)
      ∙ ap (λ (k : PlainClient). dids d (start user) (stream user hs) ++ dids d k (stream user ks))
      (sym (clients user))

  abbrev asks_in : ℕ → List Did → List Ask
  asks_in wall ds = map (λ (x : Exchange). x.ask) (on wall (exchanges_of ds))

  pub earlier : (phase wall user : ℕ) → AllByRecursion (λ (h : Heard). h.task.place.phase ≢ phase) ks
      → asked_in d start (hs ++ ks) wall phase user ≡ asked_in d start hs wall phase user
  earlier phase wall user all =
      ap (λ (ds : List Did). asks_in wall (in_phase phase ds)) (split user)
      ∙ ap (asks_in wall) (in-append phase (dids d (start user) (stream user hs)) (dids d (mid user) (stream user ks))
      ∙ ap (λ (ds : List Did). in_phase phase (dids d (start user) (stream user hs)) ++ ds)
      (in-none d (mid user) phase (stream user ks)
      (each-stream (λ (h : Heard). h.task.place.phase ≢ phase) user ks all))
      ∙ append-nil (in_phase phase (dids d (start user) (stream user hs))))

  pub later : (phase wall user : ℕ) → AllByRecursion (λ (h : Heard). h.task.place.phase ≢ phase) hs
      → AllByRecursion (λ (h : Heard). h.task.place.phase ≡ phase) ks
      → asked_in d start (hs ++ ks) wall phase user ≡ asks_in wall (dids d (mid user) (stream user ks))
  later phase wall user none all =
      ap (λ (ds : List Did). asks_in wall (in_phase phase ds)) (split user)
      ∙ ap (asks_in wall) (in-append phase (dids d (start user) (stream user hs)) (dids d (mid user) (stream user ks))
      ∙ ap (λ (ds : List Did). ds ++ in_phase phase (dids d (mid user) (stream user ks)))
      (in-none d (start user) phase (stream user hs)
      (each-stream (λ (h : Heard). h.task.place.phase ≢ phase) user hs none))
      ∙ in-all d (mid user) phase (stream user ks)
      (each-stream (λ (h : Heard). h.task.place.phase ≡ phase) user ks all))

  pub stretches-stay : (wall end : ℕ) (phases : List ℕ) (stretches : List (List Called))
      → AllByRecursion (λ (n : ℕ). n < end) phases → AllByRecursion (λ (h : Heard). h.task.place.phase ≡ end) ks
      → AllZip (IsStretch users d start hs wall) phases stretches
      → AllZip (IsStretch users d start (hs ++ ks) wall) phases stretches
  stretches-stay wall end [] [] low all each = tt
  stretches-stay wall end [] (s ∷ ss) low all each = absurd each
  stretches-stay wall end (p ∷ ps) [] low all each = absurd each
  stretches-stay wall end (p ∷ ps) (s ∷ ss) low all each = (
    λ user is.
        each.0 user is ∙ sym (earlier p wall user (each-so (λ (h : Heard). h.task.place.phase ≡ end)
        (λ (h : Heard). h.task.place.phase ≢ p) ks (λ h at same. let lt = low.0 in absurd (omega (lt, at, same, arith))) all)),
    stretches-stay wall end ps ss low.1 all each.1,
  )

-- ---- the tasks of a stretch are told otherwise

pub retold : (d : Digest) (a b : RunView) (ts us : List Task) → ts ≡ us → PhaseRun d a b ts → PhaseRun d a b us
retold d a b ts us same p = record {
  heards = p.heards;
  asked = p.asked ∙ same;
  bytes = p.bytes;
  clients = p.clients;
  seats = p.seats;
  wires = p.wires;
  told = p.told;
}

-- ---- phases

pub played-nothing : (d : Digest) (users : List ℕ) (run : RunView)
    → ((user wall : ℕ) → (run.seat user wall).front ≡ []) → Played d users 1 [] run run
played-nothing d users run unseen = record {
  run = run-nothing d run;
  histories = λ wall. record {
    stretches = [];
    each = tt;
    together = record {
      begins = λ user is. record { more = fronts run wall user; whole = refl };
      mine = λ user is. ap (own caller_of user) (sym (unseen user wall));
    };
  };
}

pub played-more : (d : Digest) (users : List ℕ) (phases : List (List ScriptSession)) (sessions : List ScriptSession)
    (start mid now : RunView) → Played d users 1 phases start mid
    → PlayedPhase d users mid now (tasks_in (1 + length phases) 1 sessions)
    → Played d users 1 (phases ++ sessions ∷ []) start now
unfolding retold
played-more d users phases sessions start mid now p q =
    let end = 1 + length phases in
    let hs = p.run.heards in
    let ks = q.run.heards in
    let before : AllByRecursion (λ (h : Heard). h.task.place.phase < end) hs =
    each-map (IsBefore end) (λ (h : Heard). h.task) hs
    (subst (AllByRecursion (IsBefore end)) (sym p.run.asked) (phases-before 1 phases)) in
    let none = each-so (λ (h : Heard). h.task.place.phase < end) (λ (h : Heard). h.task.place.phase ≢ end) hs
    (λ h lt same. absurd (omega (lt, same, arith))) before in
    let all : AllByRecursion (λ (h : Heard). h.task.place.phase ≡ end) ks =
    each-map (IsIn end) (λ (h : Heard). h.task) ks
    (subst (AllByRecursion (IsIn end)) (sym q.run.asked) (sessions-in end 1 sessions)) in
    record {
      run = retold d start now (tasks_from 1 phases ++ tasks_in end 1 sessions) (tasks_from 1 (phases ++ sessions ∷ []))
          (sym (tasks-snoc 1 phases sessions))
          (run-then d start mid now (tasks_from 1 phases) (tasks_in end 1 sessions) p.run q.run);
      histories = λ wall.
          let old = p.histories wall in
          let grown = q.grown wall (whole old.stretches) old.together in
          subst (λ (zs : List Heard). Histories users d start.client zs wall (numbers_from 1 (phases ++ sessions ∷ []))
          (fronts now wall))
          (sym (then-heards d start mid now (tasks_from 1 phases) (tasks_in end 1 sessions) p.run q.run))
          (record {
            stretches = old.stretches ++ grown.stretch ∷ [];
            each =
                subst (λ (ns : List ℕ). AllZip (IsStretch users d start.client (hs ++ ks) wall) ns
                (old.stretches ++ grown.stretch ∷ [])) (sym (numbers-snoc 1 phases sessions))
                (allzip-append (IsStretch users d start.client (hs ++ ks) wall) (numbers_from 1 phases) old.stretches
                (end ∷ []) (grown.stretch ∷ [])
                (stretches-stay d users start.client mid.client hs ks p.run.clients wall end (numbers_from 1 phases)
                old.stretches (numbers-before 1 phases) all old.each) (
                  λ user is.
                      grown.asked user is
                      ∙ sym (later d users start.client mid.client hs ks p.run.clients end wall user none all),
                  tt,
                ));
            together =
                subst (Together users (fronts now wall))
                (sym (flat_map-append (λ (s : List Called). s) old.stretches (grown.stretch ∷ [])
                ∙ ap (λ (l : List Called). whole old.stretches ++ l) (append-nil grown.stretch))) grown.together;
          });
    }

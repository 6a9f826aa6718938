-- How much of a wall the commands of each phase see. d is the digest of strings.
use Rattle.std.proofs.Common.{◌≡◌, ◌∙◌, ◌⊎◌, inl, inr, ℕ, suc, ◌+◌, ◌<◌, ◌≤◌, Bool, cond, List, [], ◌∷◌, ◌++◌, length, length-append, map, refl, sym, ap, subst, append_assoc, eq-eqb, ne_eqb, arith}
use Rattle.std.specs.Prelude.{nat_eq}
use Rattle.std.specs.List.{AllByRecursion, AllZip}
use Rattle.std.proofs.lemmas.List.{length-map}
use Rattle.fr_bytes.specs.History.{Begins, own}
use Rattle.fr_bytes.proofs.HistoryLaws.{begins_then}
use Rattle.fr_bytes.proofs.Lists.{each-append}
use Rattle.fr_digest.specs.Digest.{Digest}
use Rattle.op_types.specs.declared.op.Leaf.{Leaf}
use Rattle.hall_core.specs.declared.ask.Answer.{Answer}
use Rattle.hall_core.specs.declared.ask.Answer.TheVariants.{Looked, Placed, Refused}
use Rattle.hall_core.specs.declared.ask.Called.{Called}
use Rattle.hall_core.specs.declared.facts.WallFacts.{WallFacts}
use Rattle.hall_core.specs.Calls.{EachBegins, Turn, caller_of, play_from, turns_from}
use Rattle.hall_core.proofs.CallLaws.{play-grows, turns-end, turns-grow, turns_from-append}
use Rattle.msg_form.specs.declared.decline.Decline.{Decline}
use Rattle.script_form.specs.declared.outcome.CommandEnd.TheVariants as ends
use Rattle.script_form.specs.declared.outcome.Outcome.{Outcome}
use Rattle.script_read.specs.declared.script.Command.{Command}
use Rattle.script_read.specs.declared.script.ScriptSession.{ScriptSession}
use Rattle.client_core.specs.Sides.{SideView}
use Rattle.session_laws.specs.Doing as doing
use Rattle.session_laws.specs.Doing.{Did, Exchange, Heard, PlainClient, Task, after, did, dids, done, exchanges_of, in_phase, is_whole, last, on, stream, wall_of}
use Rattle.session_laws.specs.Halves.{Serves}
use Rattle.session_laws.specs.Histories.{whole}
use Rattle.session_laws.proofs.Streams.{dids-append, on-append, stream-append}
use Rattle.run_phases.specs.Tasks.{numbers_from, tasks_from, tasks_in}
use Rattle.run_phases.proofs.Gathering.{own-calls}
use Rattle.run_laws.specs.Following.{KeepsUp}
use Rattle.run_laws.specs.Straight.{Sees}
use Rattle.run_laws.specs.Telling.{EndsBy, ShowsAll, ShowsNothing, TellsAll, TellsBy, code_of, detail_of}
use Rattle.run_laws.specs.Untampered.{KeepsAlong}
use Rattle.run_laws.proofs.Asks.{some-of}
use Rattle.run_laws.proofs.Fronts.{all-more, all-parts, front-within}

-- ---- lists

-- two lists that are one, cut at the same place
same-parts : {A : Type 0} (xs ys zs ws : List A) → length xs ≡ length zs → xs ++ ys ≡ zs ++ ws
    → (xs ≡ zs) × (ys ≡ ws)
same-parts [] ys [] ws n e = (refl, e)
same-parts [] ys (z ∷ zs) ws n e = absurd (omega (n, arith))
same-parts (x ∷ xs) ys [] ws n e = absurd (omega (n, arith))
same-parts (x ∷ xs) ys (z ∷ zs) ws n e =
    let first : x ≡ z = cc in
    let more : xs ++ ys ≡ zs ++ ws = cc in
    let rest = same-parts xs ys zs ws (omega (n, arith)) more in
    (λ i. first i ∷ rest.0 i, rest.1)

zip-long : {A B : Type 0} (R : A → B → Type 0) (xs : List A) (ys : List B) → AllZip R xs ys → length xs ≡ length ys
zip-long R [] [] zip = refl
zip-long R [] (y ∷ ys) zip = absurd zip
zip-long R (x ∷ xs) [] zip = absurd zip
zip-long R (x ∷ xs) (y ∷ ys) zip = ap suc (zip-long R xs ys zip.1)

all-both : {A : Type 0} (P Q : A → Type 0) (xs : List A) → AllByRecursion P xs → AllByRecursion Q xs
    → AllByRecursion (λ (x : A). P x × Q x) xs
all-both P Q [] p q = tt
all-both P Q (x ∷ xs) p q = ((p.0, q.0), all-both P Q xs p.1 q.1)

pub zip-more : {A B : Type 0} (R Q : A → B → Type 0) (xs : List A) (ys : List B) → ((x : A) (y : B) → R x y → Q x y)
    → AllZip R xs ys → AllZip Q xs ys
zip-more R Q [] [] so zip = tt
zip-more R Q [] (y ∷ ys) so zip = absurd zip
zip-more R Q (x ∷ xs) [] so zip = absurd zip
zip-more R Q (x ∷ xs) (y ∷ ys) so zip = (so x y zip.0, zip-more R Q xs ys so zip.1)

each-map : {A B : Type 0} (P : B → Type 0) (f : A → B) (xs : List A) → AllByRecursion P (map f xs)
    → AllByRecursion (λ (x : A). P (f x)) xs
each-map P f [] all = tt
each-map P f (x ∷ xs) all = (all.0, each-map P f xs all.1)

-- a list whose values are those of two parts
record Parts {A B : Type 0} (f : A → B) (xs : List A) (ys zs : List B) : Type 0 where
  pub front : List A
  pub back : List A
  pub is : xs ≡ front ++ back
  pub first : map f front ≡ ys
  pub rest : map f back ≡ zs

parts-of : {A B : Type 0} (f : A → B) (xs : List A) (ys zs : List B) → map f xs ≡ ys ++ zs → Parts f xs ys zs
parts-of f xs [] zs e = record { front = []; back = xs; is = refl; first = refl; rest = e }
parts-of f [] (y ∷ ys) zs e = absurd cc
parts-of f (x ∷ xs) (y ∷ ys) zs e =
    let one : f x ≡ y = cc in
    let more : map f xs ≡ ys ++ zs = cc in
    let parts = parts-of f xs ys zs more in
    record {
      front = x ∷ parts.front;
      back = parts.back;
      is = ap (λ l. x ∷ l) parts.is;
      first = λ i. one i ∷ parts.first i;
      rest = parts.rest;
    }

-- ---- commands by phase

-- Those of each phase stand together, in the order of the phases.
abbrev pub ByPhase : List ℕ → List Heard → Type 0
ByPhase [] hs = hs ≡ []
ByPhase (k ∷ ks) hs = (front : List Heard) × (back : List Heard) × (hs ≡ front ++ back)
    × AllByRecursion (λ (h : Heard). h.task.place.phase ≡ k) front × ByPhase ks back

commands-in : (phase number user n : ℕ) (commands : List Command)
    → AllByRecursion (λ (t : Task). t.place.phase ≡ phase) (doing.tasks_from phase number user n commands)
commands-in phase number user n [] = tt
commands-in phase number user n (c ∷ commands) = (refl, commands-in phase number user (n + 1) commands)

sessions-in : (phase number : ℕ) (sessions : List ScriptSession)
    → AllByRecursion (λ (t : Task). t.place.phase ≡ phase) (tasks_in phase number sessions)
sessions-in phase number [] = tt
sessions-in phase number (s ∷ sessions) =
    each-append (λ (t : Task). t.place.phase ≡ phase) (doing.tasks_of phase number s.user s.commands)
    (tasks_in phase (number + 1) sessions)
    (commands-in phase number s.user 1 s.commands) (sessions-in phase (number + 1) sessions)

none-mapped : {A B : Type 0} (f : A → B) (xs : List A) → map f xs ≡ [] → xs ≡ []
none-mapped f [] e = refl
none-mapped f (x ∷ xs) e = absurd cc

-- What was heard for the tasks of a script is by phase.
pub heard-phases : (k : ℕ) (phases : List (List ScriptSession)) (hs : List Heard)
    → map (λ (h : Heard). h.task) hs ≡ tasks_from k phases → ByPhase (numbers_from k phases) hs
heard-phases k [] hs e = none-mapped (λ (h : Heard). h.task) hs e
heard-phases k (sessions ∷ phases) hs e =
    let parts = parts-of (λ (h : Heard). h.task) hs (tasks_in k 1 sessions) (tasks_from (k + 1) phases) e in (
      parts.front,
      parts.back,
      parts.is,
      each-map (λ (t : Task). t.place.phase ≡ k) (λ (h : Heard). h.task) parts.front
          (subst (AllByRecursion (λ (t : Task). t.place.phase ≡ k)) (sym parts.first) (sessions-in k 1 sessions)),
      heard-phases (k + 1) phases parts.back parts.rest,
    )

-- So is a user's share of it.
pub stream-phases : (user : ℕ) (ks : List ℕ) (hs : List Heard) → ByPhase ks hs → ByPhase ks (stream user hs)
stream-phases user [] hs none = ap (stream user) none
stream-phases user (k ∷ ks) hs parts = (
  stream user parts.0,
  stream user parts.1,
  ap (stream user) parts.2 ∙ stream-append user parts.0 parts.1,
  some-of (λ (h : Heard). h.task.place.phase ≡ k) (λ (h : Heard). nat_eq h.task.user user) parts.0 parts.3,
  stream-phases user ks parts.1 parts.4,
)

phases-from : (k : ℕ) (phases : List (List ScriptSession)) (hs : List Heard) → ByPhase (numbers_from k phases) hs
    → AllByRecursion (λ (h : Heard). k ≤ h.task.place.phase) hs
phases-from k [] hs none = subst (AllByRecursion (λ (h : Heard). k ≤ h.task.place.phase)) (sym none) tt
phases-from k (sessions ∷ phases) hs parts =
    subst (AllByRecursion (λ (h : Heard). k ≤ h.task.place.phase)) (sym parts.2)
    (each-append (λ (h : Heard). k ≤ h.task.place.phase) parts.0 parts.1
    (all-more (λ (h : Heard). h.task.place.phase ≡ k) (λ (h : Heard). k ≤ h.task.place.phase)
    (λ h at. omega (at, arith)) parts.0 parts.3)
    (all-more (λ (h : Heard). k + 1 ≤ h.task.place.phase) (λ (h : Heard). k ≤ h.task.place.phase)
    (λ h past. omega (past, arith)) parts.1 (phases-from (k + 1) phases parts.1 parts.4)))

numbers-more : (R Q : ℕ → List Called → Type 0) (k : ℕ) (phases : List (List ScriptSession)) (ss : List (List Called))
    → ((p : ℕ) (s : List Called) → k ≤ p → R p s → Q p s) → AllZip R (numbers_from k phases) ss
    → AllZip Q (numbers_from k phases) ss
numbers-more R Q k [] [] so zip = tt
numbers-more R Q k [] (s ∷ ss) so zip = absurd zip
numbers-more R Q k (p ∷ phases) [] so zip = absurd zip
numbers-more R Q k (p ∷ phases) (s ∷ ss) so zip = (
  so k s (omega arith) zip.0,
  numbers-more R Q (k + 1) phases ss (λ q t past r. so q t (omega (past, arith)) r) zip.1,
)

module _ (d : Digest) (k : ℕ) where
  dids-in : (c : PlainClient) (hs : List Heard) → AllByRecursion (λ (h : Heard). h.task.place.phase ≡ k) hs
      → AllByRecursion (λ (x : Did). x.task.place.phase ≡ k) (dids d c hs)
  dids-in c [] all = tt
  dids-in c (h ∷ hs) all = (all.0, dids-in (after d c h) hs all.1)

  in-none : (c : PlainClient) (hs : List Heard) → AllByRecursion (λ (h : Heard). k + 1 ≤ h.task.place.phase) hs
      → in_phase k (dids d c hs) ≡ []
  in-none c [] all = refl
  in-none c (h ∷ hs) all =
      let past = all.0 in
      let rest = in_phase k (dids d (after d c h) hs) in
      ap (λ (b : Bool). cond b (did d c h ∷ rest) rest)
      (ne_eqb h.task.place.phase k (λ at. absurd (omega (past, at, arith))))
      ∙ in-none (after d c h) hs all.1

  -- what the commands of a phase did, before those of later ones
  in-first : (c : PlainClient) (xs ys : List Heard) → AllByRecursion (λ (h : Heard). h.task.place.phase ≡ k) xs
      → AllByRecursion (λ (h : Heard). k + 1 ≤ h.task.place.phase) ys → in_phase k (dids d c (xs ++ ys)) ≡ dids d c xs
  in-first c [] ys all past = in-none c ys past
  in-first c (x ∷ xs) ys all past =
      let rest = dids d (after d c x) (xs ++ ys) in
      ap (λ (b : Bool). cond b (did d c x ∷ in_phase k rest) (in_phase k rest)) (eq-eqb x.task.place.phase k all.0)
      ∙ ap (λ (ds : List Did). did d c x ∷ ds) (in-first (after d c x) xs ys all.1 past)

  -- and what those of a later one did
  in-later : (p : ℕ) (c : PlainClient) (xs ys : List Heard) → k + 1 ≤ p
      → AllByRecursion (λ (h : Heard). h.task.place.phase ≡ k) xs
      → in_phase p (dids d c (xs ++ ys)) ≡ in_phase p (dids d (last d c xs) ys)
  in-later p c [] ys past all = refl
  in-later p c (x ∷ xs) ys past all =
      let rest = dids d (after d c x) (xs ++ ys) in
      let at = all.0 in
      ap (λ (b : Bool). cond b (did d c x ∷ in_phase p rest) (in_phase p rest))
      (ne_eqb x.task.place.phase p (λ other. absurd (omega (past, at, other, arith))))
      ∙ in-later p (after d c x) xs ys past all.1

-- ---- the stretches of a wall

module _ (d : Digest) (facts : WallFacts) where
  -- It is of the phase of this stretch, and as long as a list between that before the stretch and that behind it.
  pub record InStretch (k : ℕ) (stretch : List Called) (leaves : List Leaf) (phase size : ℕ) : Type 0 where
    pub at : k ≡ phase
    pub low : length leaves ≤ size
    pub high : size ≤ length (play_from d facts leaves stretch)

  -- It is of one of these phases, and seen within its stretch.
  abbrev pub Within : List ℕ → List (List Called) → List Leaf → ℕ → ℕ → Type 0
  Within [] stretches leaves phase size = ⊥
  Within (k ∷ ks) [] leaves phase size = ⊥
  Within (k ∷ ks) (s ∷ ss) leaves phase size = InStretch k s leaves phase size
      ⊎ Within ks ss (play_from d facts leaves s) phase size

  behind-longer : (leaves : List Leaf) (calls : List Called) → length leaves ≤ length (play_from d facts leaves calls)
  behind-longer leaves calls =
      front-within leaves (play_from d facts leaves calls) (play-grows d facts leaves calls)

  within-low : (ks : List ℕ) (ss : List (List Called)) (leaves : List Leaf) (phase size : ℕ)
      → Within ks ss leaves phase size → length leaves ≤ size
  within-low [] ss leaves phase size none = absurd none
  within-low (k ∷ ks) [] leaves phase size none = absurd none
  within-low (k ∷ ks) (s ∷ ss) leaves phase size (inl here) = here.low
  within-low (k ∷ ks) (s ∷ ss) leaves phase size (inr later) =
      let more = behind-longer leaves s in
      let low = within-low ks ss (play_from d facts leaves s) phase size later in omega (more, low, arith)

  within-phase : (k : ℕ) (phases : List (List ScriptSession)) (ss : List (List Called)) (leaves : List Leaf)
      (phase size : ℕ) → Within (numbers_from k phases) ss leaves phase size → k ≤ phase
  within-phase k [] ss leaves phase size none = absurd none
  within-phase k (p ∷ phases) [] leaves phase size none = absurd none
  within-phase k (p ∷ phases) (s ∷ ss) leaves phase size (inl here) = let at = here.at in omega (at, arith)
  within-phase k (p ∷ phases) (s ∷ ss) leaves phase size (inr later) =
      let more = within-phase (k + 1) phases ss (play_from d facts leaves s) phase size later in omega (more, arith)

  -- A later phase sees more.
  pub within-order : (k : ℕ) (phases : List (List ScriptSession)) (ss : List (List Called)) (leaves : List Leaf)
      (p q m n : ℕ) → Within (numbers_from k phases) ss leaves p m → Within (numbers_from k phases) ss leaves q n
      → p < q → m ≤ n
  within-order k [] ss leaves p q m n none there lt = absurd none
  within-order k (x ∷ phases) [] leaves p q m n none there lt = absurd none
  within-order k (x ∷ phases) (s ∷ ss) leaves p q m n (inl a) (inl b) lt =
      let one = a.at in let two = b.at in absurd (omega (one, two, lt, arith))
  within-order k (x ∷ phases) (s ∷ ss) leaves p q m n (inl a) (inr b) lt =
      let high = a.high in
      let low = within-low (numbers_from (k + 1) phases) ss (play_from d facts leaves s) q n b in
      omega (high, low, arith)
  within-order k (x ∷ phases) (s ∷ ss) leaves p q m n (inr a) (inl b) lt =
      let at = b.at in
      let past = within-phase (k + 1) phases ss (play_from d facts leaves s) p m a in
      absurd (omega (at, past, lt, arith))
  within-order k (x ∷ phases) (s ∷ ss) leaves p q m n (inr a) (inr b) lt =
      within-order (k + 1) phases ss (play_from d facts leaves s) p q m n a b lt

  -- ---- one command

  end-same : (a n : ℕ) (o : Outcome) → o.end ≡ ends.Same a → Sees o n → a ≡ n
  end-same a n o e (inl same) = cc
  end-same a n o e (inr accepted) = let f = accepted.1 in absurd cc

  end-accepted : (a from n : ℕ) (o : Outcome) → o.end ≡ ends.Accepted a from → Sees o n → a ≡ n
  end-accepted a from n o e (inl same) = absurd cc
  end-accepted a from n o e (inr accepted) = let f = accepted.1 in cc

  declined-unseen : (decline : Decline) (n : ℕ) (o : Outcome) → o.end ≡ ends.Declined decline → Sees o n → ⊥
  declined-unseen decline n o e (inl same) = absurd cc
  declined-unseen decline n o e (inr accepted) = let f = accepted.1 in absurd cc

  refused-unseen : (code detail n : ℕ) (o : Outcome) → o.end ≡ ends.Refused code detail → Sees o n → ⊥
  refused-unseen code detail n o e (inl same) = absurd cc
  refused-unseen code detail n o e (inr accepted) = let f = accepted.1 in absurd cc

  module _ (P : ℕ → Type 0) (all : Bool) (s t : SideView) (o : Outcome) where
    seen-shown : (leaves : List Leaf) → P (length leaves) → ShowsAll facts all s t leaves o → (n : ℕ) → Sees o n → P n
    seen-shown leaves is shows n sees = subst P (end-accepted (length leaves) shows.from n o shows.end sees) is

    seen-looked : (leaves : List Leaf) → P (length leaves)
        → ShowsNothing s leaves o ⊎ ShowsAll facts all s t leaves o → (n : ℕ) → Sees o n → P n
    seen-looked leaves is (inl nothing) n sees = subst P (end-same (length leaves) n o nothing.end sees) is
    seen-looked leaves is (inr shows) n sees = seen-shown leaves is shows n sees

    seen-answer : (leaves : List Leaf) (answer : Answer) → P (length leaves) → EndsBy facts all s t leaves answer o
        → (n : ℕ) → Sees o n → P n
    seen-answer leaves (Looked size) is ended n sees = seen-looked leaves is ended.1 n sees
    seen-answer leaves (Placed position) is ended n sees = seen-shown leaves is ended.1 n sees
    seen-answer leaves (Refused cause) is ended n sees =
        absurd (refused-unseen (code_of cause) (detail_of cause) n o ended.end sees)

    seen-by : (ts : List Turn) → AllByRecursion (λ (turn : Turn). P (length turn.left)) ts
        → TellsBy facts all s t o ts → (n : ℕ) → Sees o n → P n
    seen-by [] are told n sees = absurd (declined-unseen told.0 n o told.1 sees)
    seen-by (turn ∷ more) are told n sees = seen-answer turn.left turn.call.answer are.0 told n sees

  -- ---- one user's commands

  along-first : (L : List Leaf) (c : PlainClient) (hs : List Heard) → KeepsAlong d facts L c hs → KeepsUp d facts L c
  along-first L c [] along = along
  along-first L c (h ∷ hs) along = along.0

  along-parts : (L : List Leaf) (c : PlainClient) (xs ys : List Heard) → KeepsAlong d facts L c (xs ++ ys)
      → KeepsAlong d facts L c xs × KeepsAlong d facts L (last d c xs) ys
  along-parts L c [] ys along = (along-first L c ys along, along)
  along-parts L c (x ∷ xs) ys along =
      let rest = along-parts L (after d c x) xs ys along.1 in
      ((along.0, rest.0), rest.1)

  record TellsParts (c : PlainClient) (xs ys : List Heard) (ts : List Turn) : Type 0 where
    pub now : List Turn
    pub later : List Turn
    pub is : ts ≡ now ++ later
    pub first : TellsAll d facts c xs now
    pub rest : TellsAll d facts (last d c xs) ys later

  tells-parts : (c : PlainClient) (xs ys : List Heard) (ts : List Turn) → TellsAll d facts c (xs ++ ys) ts
      → TellsParts c xs ys ts
  tells-parts c [] ys ts told = record { now = []; later = ts; is = refl; first = refl; rest = told }
  tells-parts c (x ∷ xs) ys ts told =
      let parts = tells-parts (after d c x) xs ys told.1 told.4 in
      record {
        now = told.0 ++ parts.now;
        later = parts.later;
        is = told.2 ∙ ap (λ (l : List Turn). told.0 ++ l) parts.is ∙ sym (append_assoc told.0 parts.now parts.later);
        first = (told.0, parts.now, refl, told.3, parts.first);
        rest = parts.rest;
      }

  -- as many exchanges with the wall as turns
  tells-long : (c : PlainClient) (hs : List Heard) (ts : List Turn) → TellsAll d facts c hs ts
      → length (on facts.wall (exchanges_of (dids d c hs))) ≡ length ts
  tells-long c [] ts told = ap length (sym told)
  tells-long c (h ∷ hs) ts told =
      let first = zip-long (Serves d facts) (on facts.wall (done d c h).exchanges) told.0 told.3.served in
      let rest = tells-long (after d c h) hs told.1 told.4 in
      let others = exchanges_of (dids d (after d c h) hs) in
      ap length (on-append facts.wall (done d c h).exchanges others)
      ∙ length-append (on facts.wall (done d c h).exchanges) (on facts.wall others)
      ∙ (λ i. first i + rest i) ∙ sym (length-append told.0 told.1) ∙ ap length (sym told.2)

  -- what holds of the lists of all turns holds of what is seen
  seen-all : (L : List Leaf) (P : ℕ → Type 0) (c : PlainClient) (hs : List Heard) (ts : List Turn)
      → TellsAll d facts c hs ts → KeepsAlong d facts L c hs
      → AllByRecursion (λ (turn : Turn). P (length turn.left)) ts
      → AllByRecursion (λ (x : Did). wall_of x.task.command ≡ facts.wall → (n : ℕ) → Sees x.outcome n → P n)
      (dids d c hs)
  seen-all L P c [] ts told along are = tt
  seen-all L P c (h ∷ hs) ts told along are =
      let both = all-parts (λ (turn : Turn). P (length turn.left)) told.0 told.1
      (subst (AllByRecursion (λ (turn : Turn). P (length turn.left))) told.2 are) in
      let before = along.0 in
      let behind = along-first L (after d c h) hs along.1 in (
        λ there n sees. seen-by P (is_whole h.task.command) before.side behind.side (done d c h).outcome told.0 both.0
            (told.3.ends there before.side behind.side before.found behind.found) n sees,
        seen-all L P (after d c h) hs told.1 told.4 along.1 both.1,
      )

  -- ---- one user's turns

  turns-long : (user : ℕ) (leaves : List Leaf) (calls : List Called)
      → length (turns_from d facts user leaves calls) ≡ length (own caller_of user calls)
  turns-long user leaves calls =
      sym (length-map (turns_from d facts user leaves calls) (λ (turn : Turn). turn.call))
      ∙ ap length (own-calls d facts user leaves calls)

  each-since : (leaves : List Leaf) (ts : List Turn) → EachBegins leaves ts
      → AllByRecursion (λ (turn : Turn). Begins leaves turn.left) ts
  each-since leaves [] each = tt
  each-since leaves (t ∷ ts) each = (
    each.0,
    all-more (λ (turn : Turn). Begins t.left turn.left) (λ (turn : Turn). Begins leaves turn.left)
        (λ turn begins. begins_then leaves t.left turn.left each.0 begins) ts (each-since t.left ts each.1),
  )

  abbrev Between : List Leaf → List Leaf → ℕ → Type 0
  Between before behind size = (length before ≤ size) × (size ≤ length behind)

  turns-between : (user : ℕ) (leaves : List Leaf) (calls : List Called)
      → AllByRecursion (λ (turn : Turn). Between leaves (play_from d facts leaves calls) (length turn.left))
      (turns_from d facts user leaves calls)
  turns-between user leaves calls =
      let behind = play_from d facts leaves calls in
      let ts = turns_from d facts user leaves calls in
      all-more (λ (turn : Turn). Begins leaves turn.left × Begins turn.left behind)
      (λ (turn : Turn). Between leaves behind (length turn.left))
      (λ turn begins. (front-within leaves turn.left begins.0, front-within turn.left behind begins.1)) ts
      (all-both (λ (turn : Turn). Begins leaves turn.left) (λ (turn : Turn). Begins turn.left behind) ts
      (each-since leaves ts (turns-grow d facts user leaves calls)) (turns-end d facts user leaves calls))

  -- A stretch has as many of the user's calls as the user's commands of the phase made exchanges with the wall.
  abbrev pub Counts : ℕ → PlainClient → List Heard → ℕ → List Called → Type 0
  Counts user c hs phase s =
      length (own caller_of user s) ≡ length (on facts.wall (exchanges_of (in_phase phase (dids d c hs))))

  abbrev pub SeesWithin : List ℕ → List (List Called) → List Leaf → Did → Type 0
  SeesWithin ks ss leaves x = wall_of x.task.command ≡ facts.wall → (n : ℕ) → Sees x.outcome n
      → Within ks ss leaves x.task.place.phase n

  -- The turns of a phase's commands are those of its stretch, so these see within it; and the turns that are left are
  -- those of the other stretches.
  record FirstPhase (user : ℕ) (L : List Leaf) (ks : List ℕ) (s : List Called) (ss : List (List Called))
      (leaves : List Leaf) (c : PlainClient) (front back : List Heard) : Type 0 where
    pub here : AllByRecursion (λ (x : Did). wall_of x.task.command ≡ facts.wall → (n : ℕ) → Sees x.outcome n
        → Between leaves (play_from d facts leaves s) n) (dids d c front)
    pub later : List Turn
    pub turned : later ≡ turns_from d facts user (play_from d facts leaves s) (whole ss)
    pub told : TellsAll d facts (last d c front) back later
    pub along : KeepsAlong d facts L (last d c front) back
    pub counts : AllZip (Counts user (last d c front) back) ks ss

  first-phase : (user : ℕ) (L : List Leaf) (k : ℕ) (phases : List (List ScriptSession)) (s : List Called)
      (ss : List (List Called)) (leaves : List Leaf) (c : PlainClient) (front back : List Heard) (ts : List Turn)
      → ts ≡ turns_from d facts user leaves (s ++ whole ss) → TellsAll d facts c (front ++ back) ts
      → KeepsAlong d facts L c (front ++ back)
      → AllByRecursion (λ (h : Heard). h.task.place.phase ≡ k) front → ByPhase (numbers_from (k + 1) phases) back
      → length (own caller_of user s)
      ≡ length (on facts.wall (exchanges_of (in_phase k (dids d c (front ++ back)))))
      → AllZip (Counts user c (front ++ back)) (numbers_from (k + 1) phases) ss
      → FirstPhase user L (numbers_from (k + 1) phases) s ss leaves c front back
  first-phase user L k phases s ss leaves c front back ts turned told along at by count counts =
      let behind = play_from d facts leaves s in
      let mine = turns_from d facts user leaves s in
      let others = turns_from d facts user behind (whole ss) in
      let parts = tells-parts c front back ts told in
      let alongs = along-parts L c front back along in
      let even : length parts.now ≡ length mine =
      sym (tells-long c front parts.now parts.first)
      ∙ ap (λ (ds : List Did). length (on facts.wall (exchanges_of ds)))
      (sym (in-first d k c front back at (phases-from (k + 1) phases back by)))
      ∙ sym count ∙ sym (turns-long user leaves s) in
      let cut = same-parts parts.now parts.later mine others even
      (sym parts.is ∙ turned ∙ turns_from-append d facts user leaves s (whole ss)) in
      record {
        here = seen-all L (Between leaves behind) c front parts.now parts.first alongs.0
            (subst (AllByRecursion (λ (turn : Turn). Between leaves behind (length turn.left))) (sym cut.0)
            (turns-between user leaves s));
        later = parts.later;
        turned = cut.1;
        told = parts.rest;
        along = alongs.1;
        counts = numbers-more (Counts user c (front ++ back)) (Counts user (last d c front) back) (k + 1) phases ss
            (λ p t past same. same ∙ ap (λ (ds : List Did). length (on facts.wall (exchanges_of ds)))
            (in-later d k p c front back past at)) counts;
      }

  within-parts : (k : ℕ) (ks : List ℕ) (s : List Called) (ss : List (List Called)) (leaves : List Leaf)
      (xs ys : List Did) → AllByRecursion (λ (x : Did). x.task.place.phase ≡ k) xs
      → AllByRecursion (λ (x : Did). wall_of x.task.command ≡ facts.wall → (n : ℕ) → Sees x.outcome n
      → Between leaves (play_from d facts leaves s) n) xs
      → AllByRecursion (SeesWithin ks ss (play_from d facts leaves s)) ys
      → AllByRecursion (SeesWithin (k ∷ ks) (s ∷ ss) leaves) (xs ++ ys)
  within-parts k ks s ss leaves [] ys at here later =
      all-more (SeesWithin ks ss (play_from d facts leaves s)) (SeesWithin (k ∷ ks) (s ∷ ss) leaves)
      (λ x is there n sees. inr (is there n sees)) ys later
  within-parts k ks s ss leaves (x ∷ xs) ys at here later = (
    λ there n sees. inl (record {
      at = sym at.0;
      low = (here.0 there n sees).0;
      high = (here.0 there n sees).1;
    }),
    within-parts k ks s ss leaves xs ys at.1 here.1 later,
  )

  -- What a user's commands see lies within the stretches of their phases.
  pub user-within : (user : ℕ) (L : List Leaf) (k : ℕ) (phases : List (List ScriptSession)) (ss : List (List Called))
      (leaves : List Leaf) (c : PlainClient) (hs : List Heard) (ts : List Turn)
      → ts ≡ turns_from d facts user leaves (whole ss) → TellsAll d facts c hs ts → KeepsAlong d facts L c hs
      → ByPhase (numbers_from k phases) hs → AllZip (Counts user c hs) (numbers_from k phases) ss
      → AllByRecursion (SeesWithin (numbers_from k phases) ss leaves) (dids d c hs)
  user-within user L k [] ss leaves c hs ts turned told along by counts =
      subst (λ (zs : List Heard). AllByRecursion (SeesWithin [] ss leaves) (dids d c zs)) (sym by) tt
  user-within user L k (sessions ∷ phases) [] leaves c hs ts turned told along by counts = absurd counts
  user-within user L k (sessions ∷ phases) (s ∷ ss) leaves c hs ts turned told along by counts =
      let ks = numbers_from (k + 1) phases in
      let front = by.0 in
      let back = by.1 in
      let counted = subst (λ (zs : List Heard). AllZip (Counts user c zs) (k ∷ ks) (s ∷ ss)) by.2 counts in
      let first = first-phase user L k phases s ss leaves c front back ts turned
      (subst (λ (zs : List Heard). TellsAll d facts c zs ts) by.2 told)
      (subst (KeepsAlong d facts L c) by.2 along) by.3 by.4 counted.0 counted.1 in
      let rest = user-within user L (k + 1) phases ss (play_from d facts leaves s) (last d c front) back first.later
      first.turned first.told first.along by.4 first.counts in
      subst (λ (zs : List Heard). AllByRecursion (SeesWithin (k ∷ ks) (s ∷ ss) leaves) (dids d c zs)) (sym by.2)
      (subst (AllByRecursion (SeesWithin (k ∷ ks) (s ∷ ss) leaves)) (sym (dids-append d c front back))
      (within-parts k ks s ss leaves (dids d c front) (dids d (last d c front) back) (dids-in d k c front by.3)
      first.here rest))

-- The one history of a wall behind its lock: a stretch for each phase. d is the digest of strings.
use Rattle.std.specs.Prelude.{◌≡◌, ◌⊎◌, ℕ, List, [], ◌∷◌, ◌++◌, map}
use Rattle.std.specs.List.{AllByRecursion, AllZip, flat_map}
use Rattle.fr_bytes.specs.History.{Begins, own}
use Rattle.fr_digest.specs.Digest.{Digest}
use Rattle.hall_core.specs.declared.ask.Ask.{Ask}
use Rattle.hall_core.specs.declared.ask.Called.{Called}
use Rattle.hall_core.specs.Calls.{caller_of}
use Rattle.session_laws.specs.Doing.{Exchange, Heard, PlainClient, dids, exchanges_of, in_phase, on, stream}

-- one of the users of a run
abbrev pub IsUser : List ℕ → ℕ → Type 0
IsUser [] user = ⊥
IsUser (u ∷ users) user = (u ≡ user) ⊎ IsUser users user

-- the stretches one after the other
abbrev pub whole : List (List Called) → List Called
whole stretches = flat_map (λ (s : List Called). s) stretches

-- A history of which each user has seen all, with all of the user's own entries.
pub record Together (users : List ℕ) (front : ℕ → List Called) (history : List Called) : Type 0 where
  pub begins : (user : ℕ) → IsUser users user → Begins history (front user)
  pub mine : (user : ℕ) → IsUser users user → own caller_of user history ≡ own caller_of user (front user)

abbrev pub asks_of : List Called → List Ask
asks_of calls = map (λ (call : Called). call.ask) calls

-- What a user asked of a wall in a phase, in order.
abbrev pub asked_in : Digest → (ℕ → PlainClient) → List Heard → ℕ → ℕ → ℕ → List Ask
asked_in d start heards wall phase user = map (λ (x : Exchange). x.ask)
    (on wall (exchanges_of (in_phase phase (dids d (start user) (stream user heards)))))

-- A stretch has, of each user, what the user asked of the wall in the phase.
abbrev pub IsStretch : List ℕ → Digest → (ℕ → PlainClient) → List Heard → ℕ → ℕ → List Called → Type 0
IsStretch users d start heards wall phase stretch = (user : ℕ) → IsUser users user
    → asks_of (own caller_of user stretch) ≡ asked_in d start heards wall phase user

-- The phases left a stretch each, and together these are a history of which each user has seen all.
pub record Histories (users : List ℕ) (d : Digest) (start : ℕ → PlainClient) (heards : List Heard) (wall : ℕ)
    (phases : List ℕ) (front : ℕ → List Called) : Type 0 where
  pub stretches : List (List Called)
  pub each : AllZip (IsStretch users d start heards wall) phases stretches
  pub together : Together users front (whole stretches)

-- The entries of a wall are one stretch for each phase, in order: along them the phase never falls, and a command sees
-- all that earlier phases placed.
pub record Ordered (users : List ℕ) (d : Digest) (start : ℕ → PlainClient) (heards : List Heard) (wall : ℕ)
    (phases : List ℕ) (entries : List Called) : Type 0 where
  pub stretches : List (List Called)
  pub each : AllZip (IsStretch users d start heards wall) phases stretches
  pub whole_is : entries ≡ whole stretches

-- ---- one phase more

-- What the lanes of a phase and the meetings behind them do to the fronts of a wall: each user sees more, with these new
-- entries of its own; and then each sees what each had seen, and no more of its own.
pub record PhaseFronts (users : List ℕ) (before lanes met : ℕ → List Called) (news : ℕ → List Called) : Type 0 where
  pub begins : (user : ℕ) → IsUser users user → Begins (before user) (lanes user)
  pub own_news : (user : ℕ) → IsUser users user
      → own caller_of user (lanes user) ≡ own caller_of user (before user) ++ news user
  pub told : (user other : ℕ) → IsUser users user → IsUser users other → Begins (lanes other) (met user)
  pub mine : (user : ℕ) → IsUser users user → own caller_of user (met user) ≡ own caller_of user (lanes user)

-- ---- the end

-- The entries of a closed gate: each user has seen a front of them, with all of the user's own, and no one else has any.
pub record ClosedFronts (users : List ℕ) (front : ℕ → List Called) (entries : List Called) : Type 0 where
  pub begins : (user : ℕ) → IsUser users user → Begins (front user) entries
  pub mine : (user : ℕ) → IsUser users user → own caller_of user entries ≡ own caller_of user (front user)
  pub callers : AllByRecursion (λ (call : Called). IsUser users call.caller) entries

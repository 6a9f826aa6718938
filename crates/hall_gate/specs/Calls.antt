-- What one call adds to a history, and what a turn and a meeting do to a front.
use Rattle.std.specs.Prelude.{◌≡◌, ℕ, List, [], ◌∷◌, ◌++◌}
use Rattle.fr_bytes.specs.History.{Begins, own}

module _ {E A R : Type 0} (caller : E → ℕ) (ask : E → A) (answer : E → R) where
  -- the entry e is the call of the caller c, who asked a and was answered r
  pub record IsCall (c : ℕ) (a : A) (r : R) (e : E) : Type 0 where
    pub by : caller e ≡ c
    pub asked : ask e ≡ a
    pub answered : answer e ≡ r

  -- the list is one entry longer than before, and that entry is this call
  pub record AddsCall (before after : List E) (c : ℕ) (a : A) (r : R) : Type 0 where
    pub entry : E
    pub added : after ≡ before ++ entry ∷ []
    pub call : IsCall c a r entry

  -- a turn: the front is what was seen before, then entries of others, and then this one call
  pub record TakesTurn (before after : List E) (c : ℕ) (a : A) (r : R) : Type 0 where
    pub others : List E
    pub entry : E
    pub grown : after ≡ before ++ others ++ entry ∷ []
    pub strangers : own caller c others ≡ []
    pub call : IsCall c a r entry

-- a look: the front begins with what was seen before, and has no new entry of its own caller
pub record SeesMore {E : Type 0} (caller : E → ℕ) (c : ℕ) (before after : List E) : Type 0 where
  pub begins : Begins before after
  pub mine : own caller c after ≡ own caller c before

-- What reading a source to its end answers.
use Rattle.std.specs.Prelude.{◌≡◌, ℕ, ◌+◌, ◌<◌, ◌≤◌, ◌⊎◌, List, [], ◌++◌, length, IfSome, Result, Ok, Err}
use Rattle.fr_edges.specs.Faults.{Rose}
use Rattle.fr_edges.specs.Source.{SourceView, with_front}
use Rattle.frient_edges.specs.declared.input.InputEnd.{InputEnd}
use Rattle.frient_edges.specs.declared.input.InputEnd.TheVariants as inputs
use Rattle.frient_edges.specs.declared.input.TheConstants.{SCRIPT_MAX}

-- These bytes were read, and no read failed: all that the source held, or one more than a script may have.
pub record Fed (before now : SourceView) (bytes : List ℕ) : Type 0 where
  pub moved : before.left ≡ with_front bytes now.left
  pub complete : IfSome now.left (λ rest. rest ≡ []) ⊎ (SCRIPT_MAX < length bytes)
  pub bound : length bytes ≤ SCRIPT_MAX + 1
  pub calm : now.faults ≡ before.faults

-- A read failed.
abbrev pub Fails : SourceView → SourceView → Type 0
Fails before now = Rose before.faults now.faults × (before.faults ≤ now.faults)

abbrev pub Reads : SourceView → SourceView → Result (List ℕ) InputEnd → Type 0
Reads before now (Ok bytes) = Fed before now bytes
Reads before now (Err inputs.Failed) = Fails before now
Reads before now (Err inputs.NoMemory) = Unit {0}

-- a piece of n bytes that was read behind the others, and no read failed; none is the end
pub record Piece (before now : SourceView) (old new : List ℕ) (n : ℕ) : Type 0 where
  pub bytes : List ℕ
  pub appended : new ≡ old ++ bytes
  pub len : length bytes ≡ n
  pub moved : before.left ≡ with_front bytes now.left
  pub ends : n ≡ 0 → IfSome now.left (λ rest. rest ≡ [])
  pub calm : now.faults ≡ before.faults

abbrev pub ReadsPiece : SourceView → SourceView → ℕ → List ℕ → List ℕ → Result ℕ InputEnd → Type 0
ReadsPiece before now room old new (Ok n) = (n ≤ room) × Piece before now old new n
ReadsPiece before now room old new (Err inputs.Failed) = Fails before now
ReadsPiece before now room old new (Err inputs.NoMemory) = Unit {0}

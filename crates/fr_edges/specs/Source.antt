-- Where bytes come from: what it has left, where it tells that, and how often it has failed.
use Rattle.std.specs.Prelude.{◌≡◌, ℕ, ◌<◌, ◌≤◌, List, ◌++◌, [], length, take, Option, Result, IfOk, OnErr, IfSome, MatchResult}
use Rattle.std.specs.Option.{option_map}
use Rattle.fr_edges.specs.declared.source.Failed.{Failed}
use Rattle.fr_edges.specs.Faults.{Rose}

pub record SourceView : Type 0 where
  pub left : Option (List ℕ)
  pub faults : ℕ

-- these bytes, and then those that are left, where they are told
abbrev pub with_front : List ℕ → Option (List ℕ) → Option (List ℕ)
with_front bytes left = option_map (λ rest. bytes ++ rest) left

-- A read into a buffer that holds `buf` afterwards. The count of faults rises in a read that fails, and in no other.
pub record Reads (before now : SourceView) (buf : List ℕ) (result : Result ℕ Failed) : Type 0 where
  pub bound : IfOk result (λ n. n ≤ length buf)
  pub moves : MatchResult result (λ n. before.left ≡ with_front (take n buf) now.left) (λ _. now.left ≡ before.left)
  pub ends : IfOk result (λ n. n ≡ 0 → 0 < length buf → IfSome now.left (λ rest. rest ≡ []))
  pub calm : IfOk result (λ _. now.faults ≡ before.faults)
  pub never_falls : before.faults ≤ now.faults
  pub cause : OnErr result (Rose before.faults now.faults)

-- Where bytes go: what was written, where it tells that, and how often it has failed.
use Rattle.std.specs.Prelude.{◌≡◌, ℕ, ◌<◌, ◌≤◌, List, ◌++◌, length, take, Option, Result, IfOk, OnErr, MatchResult}
use Rattle.std.specs.Option.{option_map}
use Rattle.fr_edges.specs.declared.source.Failed.{Failed}
use Rattle.fr_edges.specs.Faults.{Rose}

pub record SinkView : Type 0 where
  pub written : Option (List ℕ)
  pub faults : ℕ

-- a list that is told, with more behind it
abbrev pub with_more : {A : Type 0} → Option (List A) → List A → Option (List A)
with_more told more = option_map (λ front. front ++ more) told

-- A write of the piece `bytes`. The count of faults rises in a write that fails, and in no other.
pub record Writes (before now : SinkView) (bytes : List ℕ) (result : Result ℕ Failed) : Type 0 where
  pub bound : IfOk result (λ n. n ≤ length bytes)
  pub progress : IfOk result (λ n. 0 < length bytes → 0 < n)
  pub appends : MatchResult result (λ n. now.written ≡ with_more before.written (take n bytes)) (λ _. now.written ≡ before.written)
  pub calm : IfOk result (λ _. now.faults ≡ before.faults)
  pub never_falls : before.faults ≤ now.faults
  pub cause : OnErr result (Rose before.faults now.faults)

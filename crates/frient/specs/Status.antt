-- How the program ends: by the words behind its name, over straight wires.
use Rattle.std.specs.Prelude.{◌≡◌, ◌⊎◌, ℕ, List, drop, map, replicate, String, string_bytes}
use Rattle.fr_edges.specs.Source.{SourceView}
use Rattle.fr_edges.specs.Sink.{SinkView}
use Rattle.fr_edges.specs.Wire.{WireView, straight_view}
use Rattle.frient_run.specs.declared.ended.Ended.{Ended}
use Rattle.frient_run.specs.Ends.{Ends}

-- the words of arguments, of which the first is the program's name
abbrev pub words_in : {Z : Type 0} → List (String Z) → List (List ℕ)
words_in arguments = map string_bytes (drop 1 arguments)

-- Memory was wanting before the call.
pub record Starved (source source' : SourceView) (sink sink' : SinkView) (status : ℕ) : Type 0 where
  pub status_is : status ≡ 6
  pub unread : source' ≡ source
  pub unsaid : sink' ≡ sink

-- A call with these words over 16 straight wires ended with this status. What it hands out isn't kept.
pub record Called (words : List (List ℕ)) (source source' : SourceView) (sink sink' : SinkView) (status : ℕ)
    : Type 0 where
  pub wires' : List WireView
  pub ended : Ended
  pub ends : Ends words source source' sink sink' (replicate 16 straight_view) wires' ended
  pub status_is : status ≡ ended.status

abbrev pub EndsWith : List (List ℕ) → SourceView → SourceView → SinkView → SinkView → ℕ → Type 0
EndsWith words source source' sink sink' status =
    Starved source source' sink sink' status ⊎ Called words source source' sink sink' status

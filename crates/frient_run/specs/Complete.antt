-- A call over straight wires, of which no read and no write failed.
use Rattle.std.specs.Prelude.{◌≡◌, ◌⊎◌, ℕ, List}
use Rattle.fr_edges.specs.Faults.{Rose}
use Rattle.fr_edges.specs.Sink.{SinkView, with_more}
use Rattle.fr_edges.specs.Source.{SourceView}
use Rattle.fr_edges.specs.Wire.{WireView}
use Rattle.run_laws.specs.Straight.{AreStraight}
use Rattle.frient_script.specs.Choice.{Refuses}
use Rattle.frient_run.specs.declared.ended.Ended.{Ended}
use Rattle.frient_run.specs.declared.fate.Told.{Told}
use Rattle.frient_run.specs.Ends.{HandsRun, HasRun}

-- The wires are straight, and no count of faults rose.
pub record IsCalm (source source' : SourceView) (sink sink' : SinkView) (wires : List WireView) : Type 0 where
  pub straight : AreStraight wires
  pub read : Rose source.faults source'.faults → ⊥
  pub written : Rose sink.faults sink'.faults → ⊥

-- A script was run, its whole text was written, what it came to was handed out, and the status is 0.
pub record IsComplete (words : List (List ℕ)) (source source' : SourceView) (sink sink' : SinkView)
    (wires wires' : List WireView) (ended : Ended) : Type 0 where
  pub told : Told
  pub ran : HasRun words source source' wires wires' told
  pub status : ended.status ≡ 0
  pub written : sink'.written ≡ with_more sink.written told.text
  pub handed : HandsRun told ended

-- So it was; or the words or the script were refused; or memory was wanting.
abbrev pub Completes : List (List ℕ) → SourceView → SourceView → SinkView → SinkView → List WireView → List WireView → Ended
    → Type 0
Completes words source source' sink sink' wires wires' ended =
    IsComplete words source source' sink sink' wires wires' ended
    ⊎ (((line : List ℕ) × Refuses words source source' line) ⊎ (ended.status ≡ 6))

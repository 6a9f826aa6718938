-- How a call over straight wires ends, by the words that it was handed.
use Rattle.std.proofs.Common.{◌≡◌, ℕ, List, replicate, refl, subst, inl, inr}
use Rattle.fr_edges.specs.Source.{SourceView}
use Rattle.fr_edges.specs.Sink.{SinkView}
use Rattle.fr_edges.specs.Wire.{WireView, straight_view}
use Rattle.frient_run.specs.declared.ended.Ended.{Ended}
use Rattle.frient_run.specs.Ends.{Ends}
use Rattle.frient.specs.Status.{EndsWith}

pub wants_memory : (words : List (List ℕ)) (source : SourceView) (sink : SinkView) → EndsWith words source source sink sink 6
wants_memory words source sink = inl (record { status_is = refl; unread = refl; unsaid = refl })

pub ends_with : (words given : List (List ℕ)) (source source' : SourceView) (sink sink' : SinkView) (wires wires' : List WireView) (ended : Ended)
    → given ≡ words → wires ≡ replicate 16 straight_view → Ends given source source' sink sink' wires wires' ended → EndsWith words source source' sink sink' ended.status
ends_with words given source source' sink sink' wires wires' ended same straight ends = inr (record {
  wires' = wires';
  ended = ended;
  ends = subst (λ (ws : List (List ℕ)). Ends ws source source' sink sink' (replicate 16 straight_view) wires' ended) same
      (subst (λ (vs : List WireView). Ends given source source' sink sink' vs wires' ended) straight ends);
  status_is = refl;
})

-- A call over straight wires is complete.
use Rattle.std.proofs.Common.{◌≡◌, ◌∙◌, inl, inr, ℕ, Bool, false, List, ap}
use Rattle.std.specs.List.{list_any}
use Rattle.fr_edges.specs.Sink.{SinkView}
use Rattle.fr_edges.specs.Source.{SourceView}
use Rattle.fr_edges.specs.Wire.{WireView}
use Rattle.audit_run.specs.Answer.{count_grounded, count_records}
use Rattle.script_form.specs.declared.outcome.AuditLine.{AuditLine}
use Rattle.script_form.specs.declared.outcome.AuditLine.TheVariants as lines
use Rattle.script_form.specs.declared.outcome.Outcomes.{Outcomes}
use Rattle.script_form.specs.Status.{fails, status_by, status_of}
use Rattle.world_book.specs.declared.world.World.{World}
use Rattle.frient_edges.specs.Output.{Spoke}
use Rattle.frient_run.specs.declared.ended.Ended.{Ended}
use Rattle.frient_run.specs.declared.fate.Fate.{Fate}
use Rattle.frient_run.specs.declared.fate.Fate.TheVariants as fates
use Rattle.frient_run.specs.declared.fate.Told.{Told}
use Rattle.frient_run.specs.Complete.{Completes, IsCalm}
use Rattle.frient_run.specs.Ends.{Ends, HandsOut, HandsRun, Happened, HasRun, Says}

sound-status : (w : World) (outcomes : Outcomes) → list_any fails outcomes.commands ≡ false
    → outcomes.audit ≡ lines.Sound (count_records w) (count_grounded w) → status_of outcomes ≡ 0
unfolding status_of
sound-status w outcomes calm sound =
    ap (λ (line : AuditLine). status_by line (list_any fails outcomes.commands)) sound
    ∙ ap (λ (b : Bool). status_by (lines.Sound (count_records w) (count_grounded w)) b) calm

module _ (words : List (List ℕ)) (source source' : SourceView) (sink sink' : SinkView) (wires wires' : List WireView)
    (ended : Ended) (calm : IsCalm source source' sink sink' wires) where
  ran-complete : (told : Told) → HasRun words source source' wires wires' told → HandsRun told ended
      → Spoke sink sink' told.text told.status ended.status → Completes words source source' sink sink' wires wires' ended
  ran-complete told ran handed (inl wrote) =
      let free = ran.untouched calm.straight in
      inl (record {
        told = told;
        ran = ran;
        status = wrote.0 ∙ ran.status ∙ sound-status told.world told.outcomes free.calm free.sound;
        written = wrote.2;
        handed = handed;
      })
  ran-complete told ran handed (inr failed) = absurd (calm.written failed.1)

  by-fate : (fate : Fate) → Happened words source source' wires wires' fate → Says sink sink' fate ended.status
      → HandsOut fate ended → Completes words source source' sink sink' wires wires' ended
  by-fate (fates.Ran told) happened said handed = ran-complete told happened handed said
  by-fate (fates.Refused line) happened said handed = inr (inl (line, happened.0))
  by-fate fates.Unread happened said handed = absurd (calm.read happened.0.failed.0)
  by-fate fates.Starved happened said handed = inr (inr said.0)

  pub complete : Ends words source source' sink sink' wires wires' ended
      → Completes words source source' sink sink' wires wires' ended
  complete ends = by-fate ends.fate ends.happened ends.said ends.handed

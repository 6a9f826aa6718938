-- From the run of a script to the end of a call.
use Rattle.std.proofs.Common.{◌≡◌, ◌∙◌, ℕ, List, length, map, subst, sym}
use Rattle.std.proofs.lemmas.List.{length-map}
use Rattle.fr_digest.specs.Digest.{Digest}
use Rattle.fr_edges.specs.Source.{SourceView}
use Rattle.fr_edges.specs.Wire.{WireView}
use Rattle.hall_core.specs.Standing as standing
use Rattle.script_read.specs.declared.script.DigestName.{DigestName}
use Rattle.script_read.specs.declared.script.Script.{Script}
use Rattle.script_read.specs.Limits.{IsScript}
use Rattle.run_script.specs.declared.closing.Ran.{Ran}
use Rattle.run_script.specs.Runs.{RunOf}
use Rattle.frient_script.specs.declared.choice.Chosen.{Chosen}
use Rattle.frient_script.specs.Choice.{IsGiven}
use Rattle.frient_run.specs.declared.fate.Fate.{Fate}
use Rattle.frient_run.specs.declared.fate.Fate.TheVariants as fates
use Rattle.frient_run.specs.declared.fate.Told.{Told}
use Rattle.frient_run.specs.declared.running.Run.{Run}
use Rattle.frient_run.specs.Digests.{digest_by}
use Rattle.run_laws.specs.Whole.{Whole}
use Rattle.run_laws.proofs.Bridging.{untouched}
use Rattle.frient_run.specs.Ends.{AreHalls, Came, Happened, HasRun, RunsOver, Tells}

pub whole_of : {D W : Type 0} (d : Digest) (view : W → WireView) (script : Script) (wires : List W) (ran : Ran D W)
    → length wires ≡ 16 → RunOf d view script wires ran
    → Whole d script (map view wires) (map view ran.wires.items) ran.world ran.halls.items ran.outcomes
whole_of d view script wires ran sixteen r = record {
  users = r.users;
  walls = r.walls;
  all_users = r.all_users;
  all_walls = r.all_walls;
  end = r.end;
  run = r.run;
  told = r.outcomes;
  carried = r.wires_are;
  sixteen = length-map ran.wires.items view ∙ (r.sixteen ∙ sixteen);
  histories = r.halls;
  books = r.books;
  notes = r.notes;
  kept = r.kept;
  audited = r.audited;
  ends = r.ends;
}

pub came : {W : Type 0} (name : DigestName) (script : Script) (view : W → WireView) (wires : List W) (run : Run W)
    (list : List standing.Hall) → script.digest ≡ name → AreHalls name run.halls list
    → Whole (digest_by name) script (map view wires) (map view run.wires.items) run.world list run.outcomes
    → length run.wires.items ≡ 16 → Came script view wires run
came name script view wires run list is halls whole sixteen = record {
  list = list;
  halls = subst (λ (n : DigestName). AreHalls n run.halls list) (sym is) halls;
  whole = subst (λ (n : DigestName). Whole (digest_by n) script (map view wires) (map view run.wires.items) run.world list run.outcomes) (sym is) whole;
  sixteen = sixteen;
}

has_run : {W : Type 0} (words : List (List ℕ)) (before now : SourceView) (chosen : Chosen) (view : W → WireView)
    (wires left : List W) (told : Told) → IsScript chosen.script → IsGiven words before now chosen.script chosen.form
    → Tells chosen view wires told left → HasRun words before now (map view wires) (map view left) told
has_run words before now chosen view wires left told limits given t = record {
  script = chosen.script;
  form = chosen.form;
  limits = limits;
  given = given;
  list = t.list;
  halls = t.halls;
  whole = t.whole;
  untouched = λ straight. untouched (digest_by chosen.script.digest) chosen.script limits (map view wires) (map view left)
      told.world t.list told.outcomes t.whole straight;
  status = t.status;
  text = t.text;
}

-- what comes of the script that was chosen
pub happened_over : {W : Type 0} (words : List (List ℕ)) (before now : SourceView) (chosen : Chosen) (view : W → WireView)
    (wires left : List W) (fate : Fate) → IsScript chosen.script → IsGiven words before now chosen.script chosen.form
    → RunsOver chosen view wires left fate → Happened words before now (map view wires) (map view left) fate
happened_over words before now chosen view wires left (fates.Ran told) limits given t =
    has_run words before now chosen view wires left told limits given t
happened_over words before now chosen view wires left (fates.Refused line) limits given t = absurd t
happened_over words before now chosen view wires left fates.Unread limits given t = absurd t
happened_over words before now chosen view wires left fates.Starved limits given t = tt

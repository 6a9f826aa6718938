-- A command sees at least as much of a wall as any of an earlier phase.
use Rattle.std.proofs.Common.{◌≡◌, ◌∙◌, ℕ, List, [], length, map, sym, ap}
use Rattle.std.specs.List.{AllByRecursion, AllZip}
use Rattle.std.proofs.lemmas.List.{length-map}
use Rattle.fr_bytes.specs.History.{own}
use Rattle.fr_digest.specs.Digest.{Digest}
use Rattle.hall_core.specs.declared.ask.Called.{Called}
use Rattle.hall_core.specs.declared.facts.WallFacts.{WallFacts}
use Rattle.hall_core.specs.Calls.{caller_of, play, turns}
use Rattle.script_read.specs.declared.script.ScriptSession.{ScriptSession}
use Rattle.session_laws.specs.Doing.{Exchange, Heard, PlainClient, all_dids, dids, exchanges_of, in_phase, on, stream}
use Rattle.session_laws.specs.Histories.{IsStretch, IsUser, Ordered}
use Rattle.run_phases.specs.Tasks.{numbers_from, tasks_from}
use Rattle.run_laws.specs.Straight.{InPhaseOrder}
use Rattle.run_laws.specs.Telling.{TellsAll}
use Rattle.run_laws.specs.Untampered.{KeepsAlong}
use Rattle.run_laws.proofs.Ending.{each-in}
use Rattle.run_laws.proofs.Runs.{all-users}
use Rattle.run_laws.proofs.Spans.{Counts, SeesWithin, heard-phases, stream-phases, user-within, within-order, zip-more}

module _ (d : Digest) (users : List ℕ) (start : ℕ → PlainClient) (heards : List Heard) (facts : WallFacts)
    (calls : List Called) (phases : List (List ScriptSession))
    (tasks : map (λ (h : Heard). h.task) heards ≡ tasks_from 1 phases)
    (known : AllByRecursion (λ (h : Heard). IsUser users h.task.user) heards)
    (ordered : Ordered users d start heards facts.wall (numbers_from 1 phases) calls)
    (tells : (user : ℕ) → IsUser users user
    → TellsAll d facts (start user) (stream user heards) (turns d facts user calls))
    (along : (user : ℕ) → IsUser users user
    → KeepsAlong d facts (play d facts calls) (start user) (stream user heards)) where
  abbrev numbers : List ℕ
  numbers = numbers_from 1 phases

  counted : (user : ℕ) → IsUser users user
      → AllZip (Counts d facts user (start user) (stream user heards)) numbers ordered.stretches
  counted user listed =
      zip-more (IsStretch users d start heards facts.wall) (Counts d facts user (start user) (stream user heards))
      numbers ordered.stretches
      (λ p s is. sym (length-map (own caller_of user s) (λ (call : Called). call.ask)) ∙ ap length (is user listed)
      ∙ length-map (on facts.wall (exchanges_of (in_phase p (dids d (start user) (stream user heards)))))
      (λ (x : Exchange). x.ask)) ordered.each

  user-sees : (user : ℕ) → IsUser users user
      → AllByRecursion (SeesWithin d facts numbers ordered.stretches []) (dids d (start user) (stream user heards))
  user-sees user listed =
      user-within d facts user (play d facts calls) 1 phases ordered.stretches [] (start user) (stream user heards)
      (turns d facts user calls) (ap (turns d facts user) ordered.whole_is) (tells user listed) (along user listed)
      (stream-phases user numbers heards (heard-phases 1 phases heards tasks)) (counted user listed)

  all-see : AllByRecursion (SeesWithin d facts numbers ordered.stretches []) (all_dids d start heards)
  all-see = all-users d start users (SeesWithin d facts numbers ordered.stretches []) [] heards user-sees known

  pub in-order : InPhaseOrder facts.wall (all_dids d start heards)
  in-order x y m n x_in y_in x_there y_there earlier x_sees y_sees =
      let within = SeesWithin d facts numbers ordered.stretches [] in
      within-order d facts 1 phases ordered.stretches [] x.task.place.phase y.task.place.phase m n
      (each-in within (all_dids d start heards) x all-see x_in x_there m x_sees)
      (each-in within (all_dids d start heards) y all-see y_in y_there n y_sees) earlier

-- The halls of a run that was closed.
use Rattle.std.proofs.Common.{◌≡◌, ◌≢◌, ◌∙◌, ◌⊎◌, ℕ, zero, suc, ◌+◌, ◌<◌, ◌≤◌, Bool, cond, List, [], ◌∷◌, ◌++◌, length, get_or, map, refl, sym, ap, subst, append_assoc, inl, inr, eq-eqb, ne_eqb, arith}
use Rattle.std.specs.Prelude.{nat_eq}
use Rattle.std.specs.List.{All, AllByRecursion, AllZip, Contains}
use Rattle.std.proofs.lemmas.Bool.{cases_eq}
use Rattle.std.proofs.lemmas.List.{append-nil, map-append}
use Rattle.std.proofs.lemmas.List.Elements.{recursion_from_All}
use Rattle.fr_digest.specs.Digest.{Digest}
use Rattle.hall_core.specs.declared.ask.Called.{Called}
use Rattle.hall_core.specs.declared.facts.WallFacts.{WallFacts}
use Rattle.hall_core.specs.Calls.{Turn, caller_of, turns}
use Rattle.hall_core.specs.Standing as standing
use Rattle.hall_server.specs.Meetings.{HasNoStranger, IsClosedOn, IsKept}
use Rattle.hall_server.specs.Sights.{Sight, sight_in, walls_in}
use Rattle.script_read.specs.declared.script.Script.{Script}
use Rattle.session_laws.specs.Doing.{Exchange, Heard, dids, exchanges_of, on, stream}
use Rattle.session_laws.specs.Halves.{SeatHalf, Serves}
use Rattle.session_laws.specs.Histories.{ClosedFronts, IsUser, Ordered, whole}
use Rattle.session_laws.specs.Runs.{PhaseRun, RunView}
use Rattle.session_laws.proofs.Fronts.{closed-is-last}
use Rattle.run_phases.specs.Members.{times}
use Rattle.run_phases.specs.Phases.{Played, fronts}
use Rattle.run_phases.specs.Tasks.{numbers_from, tasks_from}
use Rattle.run_phases.proofs.Tallies.{none-ahead, times-append, times-here, times-more}
use Rattle.run_start.specs.Keys.{facts_at, keys_in}
use Rattle.run_script.specs.Runs.{IsHallOf}

-- ---- users

is-user : (users : List ℕ) (u k : ℕ) → k < length users → get_or users k u ≡ u → IsUser users u
is-user [] u k lt e = absurd (omega (lt, arith))
is-user (v ∷ users) u zero lt e = inl e
is-user (v ∷ users) u (suc k) lt e = inr (is-user users u k (omega (lt, arith)) e)

pub contained : (users : List ℕ) (u : ℕ) → Contains users u → IsUser users u
contained users u c = is-user users u c.0 c.1 c.2

callers : (users : List ℕ) (calls : List Called)
    → AllByRecursion (λ (e : Called). Contains users (caller_of e)) calls
    → AllByRecursion (λ (call : Called). IsUser users call.caller) calls
callers users [] all = tt
callers users (call ∷ calls) all = (contained users call.caller all.0, callers users calls all.1)

-- ---- the sight of a wall

pub sight-other : (wall : ℕ) (xs : List Sight) (s : Sight) (ys : List Sight) → times wall (walls_in xs) ≡ 0
    → s.facts.wall ≡ wall → sight_in (xs ++ s ∷ ys) wall ≡ s
sight-other wall [] s ys none is =
    ap (λ (b : Bool). cond b s (sight_in ys wall)) (eq-eqb s.facts.wall wall is)
sight-other wall (x ∷ xs) s ys none is =
    let ahead = none-ahead wall x.facts.wall (walls_in xs) none in
    ap (λ (b : Bool). cond b x (sight_in (xs ++ s ∷ ys) wall)) (ne_eqb x.facts.wall wall ahead.0)
    ∙ sight-other wall xs s ys ahead.1 is

module _ (d : Digest) (user : ℕ) where
  -- of each wall of a user's sights, what was seen of it is what the hall at its place ends
  pub closed-at : (all xs ss : List Sight) (halls : List standing.Hall) → xs ++ ss ≡ all
      → ((w : ℕ) → times w (walls_in all) ≤ 1) → AllZip (IsClosedOn d user) ss halls
      → AllZip (λ (w : ℕ) (hall : standing.Hall). IsClosedOn d user (sight_in all w) hall) (walls_in ss) halls
  closed-at all xs [] [] is once zip = tt
  closed-at all xs [] (h ∷ halls) is once zip = absurd zip
  closed-at all xs (s ∷ ss) [] is once zip = absurd zip
  closed-at all xs (s ∷ ss) (h ∷ halls) is once zip =
      let w = s.facts.wall in
      let most : times w (walls_in (xs ++ s ∷ ss)) ≤ 1 =
      subst (λ (l : List Sight). times w (walls_in l) ≤ 1) (sym is) (once w) in
      let cut : times w (walls_in (xs ++ s ∷ ss)) ≡ times w (walls_in xs) + times w (w ∷ walls_in ss) =
      ap (times w) (map-append (λ (t : Sight). t.facts.wall) xs (s ∷ ss))
      ∙ times-append w (walls_in xs) (w ∷ walls_in ss) in
      let more = times-more w w (walls_in ss) in
      let one = times-here w w refl in
      let none : times w (walls_in xs) ≡ 0 = omega (most, cut, more, one, arith) in (
        subst (λ (x : Sight). IsClosedOn d user x h)
            (sym (ap (λ (l : List Sight). sight_in l w) (sym is) ∙ sight-other w xs s ss none refl)) zip.0,
        closed-at all (xs ++ s ∷ []) ss halls (append_assoc xs (s ∷ []) ss ∙ is) once zip.1,
      )

-- what holds of each user place by place holds at each place of each user
pub zip-users : (u : ℕ) (users : List ℕ) (R : ℕ → ℕ → standing.Hall → Type 0) (walls : List ℕ) (halls : List standing.Hall)
    → ((user : ℕ) → IsUser (u ∷ users) user → AllZip (R user) walls halls)
    → AllZip (λ (w : ℕ) (h : standing.Hall). (user : ℕ) → IsUser (u ∷ users) user → R user w h) walls halls
zip-users u users R [] [] each = tt
zip-users u users R [] (h ∷ halls) each = absurd (each u (inl refl))
zip-users u users R (w ∷ walls) [] each = absurd (each u (inl refl))
zip-users u users R (w ∷ walls) (h ∷ halls) each = (
  λ user is. (each user is).0,
  zip-users u users R walls halls (λ user is. (each user is).1),
)

-- ---- one hall

module _ (d : Digest) (script : Script) (u : ℕ) (users : List ℕ) (start end : RunView)
    (p : Played d (u ∷ users) 1 script.phases start end)
    (unseen : (user wall : ℕ) → (start.seat user wall).front ≡ []) where
  pub hall-of : (wall : ℕ) (hall : standing.Hall)
      → ((user : ℕ) → IsUser (u ∷ users) user
      → (start.seat user wall).facts ≡ facts_at script (keys_in script (u ∷ users)) wall)
      → ((user : ℕ) → IsUser (u ∷ users) user → IsClosedOn d user (end.seat user wall) hall) → IsKept d hall
      → HasNoStranger (u ∷ users) hall → IsHallOf d script (u ∷ users) start p.run.heards wall hall
  hall-of wall hall facts closed kept known =
      let history = p.histories wall in
      let first = closed u (inl refl) in
      let same = λ (user : ℕ) (is : IsUser (u ∷ users) user).
      let e : hall.facts ≡ (start.seat user wall).facts =
      (closed user is).same ∙ (p.run.seats user wall).kept in e in
      record {
        facts = same u (inl refl) ∙ facts u (inl refl);
        kept = kept;
        known = known;
        ordered = record {
          stretches = history.stretches;
          each = history.each;
          whole_is = closed-is-last u users (fronts end wall) (whole history.stretches) hall.entries history.together
              (record {
                begins = λ user is. (closed user is).begins;
                mine = λ user is. (closed user is).mine;
                callers = callers (u ∷ users) hall.entries
                    (recursion_from_All (λ (e : Called). Contains (u ∷ users) (caller_of e)) hall.entries known);
              });
        };
        served = λ user is.
            let half = p.run.seats user wall in
            let xs = on wall (exchanges_of (dids d (start.client user) (stream user p.run.heards))) in
            let f = same user is in
            let none : turns d (start.seat user wall).facts user (start.seat user wall).front ≡ [] =
            ap (turns d (start.seat user wall).facts user) (unseen user wall) in
            let news : turns d (start.seat user wall).facts user (end.seat user wall).front ≡ half.news =
            half.turned ∙ ap (λ (l : List Turn). l ++ half.news) none in
            let all : turns d hall.facts user hall.entries ≡ half.news =
            (closed user is).turned
            ∙ ap (λ (g : WallFacts). turns d g user (end.seat user wall).front) f ∙ news in
            subst (λ (g : WallFacts). AllZip (Serves d g) xs (turns d hall.facts user hall.entries)) (sym f)
            (subst (λ (l : List Turn). AllZip (Serves d (start.seat user wall).facts) xs l) (sym all) half.served);
      }

-- All commands of a user on an honest wall.
use Rattle.std.proofs.Common.{◌≡◌, ◌∙◌, inl, inr, ℕ, List, [], ◌∷◌, ◌++◌, refl, sym, subst}
use Rattle.std.specs.List.{AllByRecursion, AllZip}
use Rattle.std.proofs.lemmas.Bool.{cases_eq}
use Rattle.fr_digest.specs.Digest.{Digest}
use Rattle.op_types.specs.declared.op.Leaf.{Leaf}
use Rattle.op_types.specs.Spelling.{IsLeaf}
use Rattle.honest_replies.specs.HonestReply.{FewEntries}
use Rattle.hall_core.specs.declared.ask.Called.{Called}
use Rattle.hall_core.specs.declared.facts.WallFacts.{WallFacts}
use Rattle.hall_core.specs.Calls.{play_from, turns_from}
use Rattle.hall_core.proofs.CallLaws.{play-grows}
use Rattle.session_laws.specs.Doing.{Exchange, Heard, PlainClient, TookView, after, dids, done, exchanges_of, last, on, wall_of}
use Rattle.session_laws.specs.Halves.{Serves}
use Rattle.session_laws.proofs.Streams.{on-append}
use Rattle.run_laws.specs.Following.{IsTrue, KeepsUp}
use Rattle.run_laws.specs.Untampered.{EndsWell, IsStraight, KeepsAlong, IsUntampered, exchanges_on}
use Rattle.run_laws.proofs.Elsewhere.{done-elsewhere}
use Rattle.run_laws.proofs.Following.{follows-more}
use Rattle.run_laws.proofs.Fronts.{all-parts, none-of}
use Rattle.run_laws.proofs.Steps.{Steps, Wall, step-here}
use Rattle.run_laws.proofs.Truths.{trues-longer}

module _ (d : Digest) (facts : WallFacts) (user : ℕ) where
  keeps-grown : (leaves : List Leaf) (calls : List Called) (c : PlainClient) → KeepsUp d facts leaves c
      → KeepsUp d facts (play_from d facts leaves calls) c
  keeps-grown leaves calls c keeps =
      let grows = play-grows d facts leaves calls in
      record {
        side = keeps.side;
        found = keeps.found;
        follows = follows-more d facts leaves (play_from d facts leaves calls) keeps.side grows keeps.follows;
        records = trues-longer d facts leaves (play_from d facts leaves calls) c.took grows keeps.records;
      }

  -- a command, on the wall or on another
  step : (leaves : List Leaf) (calls : List Called) (c : PlainClient) (h : Heard) (more : List Exchange)
      → Wall d facts leaves calls → KeepsUp d facts leaves c
      → AllZip (Serves d facts) (on facts.wall (done d c h).exchanges ++ more) (turns_from d facts user leaves calls)
      → AllByRecursion IsStraight (on facts.wall (done d c h).exchanges)
      → Steps d facts user leaves calls c h.task (done d c h) more
  step leaves calls c h more wall keeps served straight = elim (cases_eq (wall_of h.task.command) facts.wall) [
    | inl here ↦ step-here d facts user leaves calls wall c h keeps.side keeps.found keeps.follows keeps.records more here
        served straight
    | inr other ↦
        let it = done-elsewhere d facts.wall c h other in
        record {
          now = [];
          left = leaves;
          rest = calls;
          tells = record {
            served = subst (λ (xs : List Exchange). AllZip (Serves d facts) xs []) (sym it.none) tt;
            ends = λ here. absurd (other here);
            fine = λ here. absurd (other here);
            calm = λ here. absurd (other here);
          };
          follows = record {
            side = keeps.side;
            found = it.stays.side ∙ keeps.found;
            follows = keeps.follows;
            records = it.stays.records (λ (r : TookView). r.wall ≡ facts.wall → IsTrue d facts.owner leaves r)
                (λ r ne at. absurd (ne at)) keeps.records;
          };
          legal = wall.legal;
          honest = wall.honest;
          end = refl;
          turned = refl;
          served = subst (λ (xs : List Exchange). AllZip (Serves d facts) (xs ++ more)
              (turns_from d facts user leaves calls)) it.none served;
        }
  ]

  all-well : (hs : List Heard) (leaves : List Leaf) (calls : List Called) (c : PlainClient) → Wall d facts leaves calls
      → KeepsUp d facts leaves c
      → AllZip (Serves d facts) (exchanges_on d facts.wall c hs) (turns_from d facts user leaves calls)
      → AllByRecursion IsStraight (exchanges_on d facts.wall c hs)
      → EndsWell d facts user leaves calls c hs
  all-well [] leaves calls c wall keeps served straight = record {
    tells = none-of (Serves d facts) (turns_from d facts user leaves calls) served;
    follows = keeps-grown leaves calls c keeps;
    along = keeps-grown leaves calls c keeps;
  }
  all-well (h ∷ hs) leaves calls c wall keeps served straight =
      let c' = after d c h in
      let mine = on facts.wall (done d c h).exchanges in
      let more = exchanges_on d facts.wall c' hs in
      let split : exchanges_on d facts.wall c (h ∷ hs) ≡ mine ++ more =
      on-append facts.wall (done d c h).exchanges (exchanges_of (dids d c' hs)) in
      let straights = all-parts IsStraight mine more (subst (AllByRecursion IsStraight) split straight) in
      let st = step leaves calls c h more wall keeps
      (subst (λ (xs : List Exchange). AllZip (Serves d facts) xs (turns_from d facts user leaves calls)) split served)
      straights.0 in
      let behind : Wall d facts st.left st.rest = record {
        legal = st.legal;
        honest = st.honest;
        spelled = subst (AllByRecursion IsLeaf) st.end wall.spelled;
        few = subst (FewEntries facts.owner) st.end wall.few;
      } in
      let rest = all-well hs st.left st.rest c' behind st.follows st.served straights.1 in
      record {
        tells = (st.now, turns_from d facts user st.left st.rest, st.turned, st.tells, rest.tells);
        follows = subst (λ (L : List Leaf). KeepsUp d facts L (last d c' hs)) (sym st.end) rest.follows;
        along = (
          keeps-grown leaves calls c keeps,
          subst (λ (L : List Leaf). KeepsAlong d facts L c' hs) (sym st.end) rest.along,
        );
      }

-- All commands of a user on a wall of which nothing was tampered with end by its turns.
pub untampered-well : (d : Digest) (facts : WallFacts) (user : ℕ) (leaves : List Leaf) (calls : List Called)
    (c : PlainClient) (heards : List Heard) → IsUntampered d facts user leaves calls c heards
    → EndsWell d facts user leaves calls c heards
untampered-well d facts user leaves calls c heards u =
    all-well d facts user heards leaves calls c
    (record { legal = u.legal; honest = u.honest; spelled = u.spelled; few = u.few })
    u.follows u.served u.straight

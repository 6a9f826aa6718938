-- A user's next turn, among the calls of all.
use Rattle.std.proofs.Common.{◌≡◌, ◌∙◌, inl, inr, ℕ, Bool, true, false, cond, List, [], ◌∷◌, ◌++◌, refl, sym, ap, subst}
use Rattle.std.specs.Prelude.{nat_eq}
use Rattle.std.specs.List.{AllByRecursion}
use Rattle.std.proofs.lemmas.Bool.{cases_Bool}
use Rattle.fr_bytes.specs.History.{Begins}
use Rattle.fr_bytes.proofs.HistoryLaws.{begins_itself, begins_then}
use Rattle.fr_digest.specs.Digest.{Digest}
use Rattle.op_types.specs.declared.op.Leaf.{Leaf}
use Rattle.op_types.specs.Spelling.{IsLeaf}
use Rattle.hall_core.specs.declared.ask.Called.{Called}
use Rattle.hall_core.specs.declared.facts.WallFacts.{WallFacts}
use Rattle.hall_core.specs.Calls.{IsAnswered, LegalFrom, Turn, left_by, play_from, turns_from}
use Rattle.hall_core.specs.Honest.{IsHonest}
use Rattle.hall_core.proofs.CallLaws.{left-grows, play-grows}
use Rattle.hall_core.proofs.Honesty.{honest-call}
use Rattle.run_laws.proofs.Fronts.{front-all}

-- The leaves before a turn and behind it are an honest wall's, the turn was answered as the plain wall answers it, and
-- the other turns are those of the calls that are left.
pub record NextTurn (d : Digest) (facts : WallFacts) (user : ℕ) (leaves : List Leaf) (calls : List Called) (t : Turn)
    (ts : List Turn) : Type 0 where
  pub before : List Leaf
  pub grows : Begins leaves before
  pub honest : IsHonest d facts before
  pub answered : IsAnswered d facts before t.call
  pub left : t.left ≡ left_by d facts before t.call
  pub left_honest : IsHonest d facts t.left
  pub rest : List Called
  pub later : ts ≡ turns_from d facts user t.left rest
  pub legal : LegalFrom d facts t.left rest
  pub end : play_from d facts leaves calls ≡ play_from d facts t.left rest

module _ (d : Digest) (facts : WallFacts) (user : ℕ) where
  turn-first : (leaves : List Leaf) (call : Called) (calls : List Called) (t : Turn) (ts : List Turn) (b : Bool)
      → nat_eq call.caller user ≡ b
      → turns_from d facts user leaves (call ∷ calls) ≡ t ∷ ts
      → cond b ((record { call = call; left = left_by d facts leaves call }) ∷ []) []
      ++ turns_from d facts user (left_by d facts leaves call) calls ≡ t ∷ ts
  turn-first leaves call calls t ts b is e =
      sym (ap (λ (x : Bool). cond x ((record { call = call; left = left_by d facts leaves call }) ∷ []) []
      ++ turns_from d facts user (left_by d facts leaves call) calls) is) ∙ e

  -- The list of turns that isn't empty begins with the next turn.
  pub next-turn : (leaves : List Leaf) (calls : List Called) (t : Turn) (ts : List Turn)
      → LegalFrom d facts leaves calls → IsHonest d facts leaves
      → AllByRecursion IsLeaf (play_from d facts leaves calls)
      → turns_from d facts user leaves calls ≡ t ∷ ts → NextTurn d facts user leaves calls t ts
  next-turn leaves [] t ts legal honest spelled e = absurd cc
  next-turn leaves (call ∷ calls) t ts legal honest spelled e =
      let behind = left_by d facts leaves call in
      let honest_behind : IsHonest d facts behind = honest-call d facts leaves call.ask call.answer legal.0.gives honest
      (front-all IsLeaf behind (play_from d facts behind calls) (play-grows d facts behind calls) spelled) in
      elim (cases_Bool (nat_eq call.caller user)) [
        | inl mine ↦
            let both = turn-first leaves call calls t ts true mine e in
            let first : (let turn : Turn = record { call = call; left = behind } in turn) ≡ t = cc in
            let rest : turns_from d facts user behind calls ≡ ts = cc in
            subst (λ (x : Turn). NextTurn d facts user leaves (call ∷ calls) x ts) first
            (record {
              before = leaves;
              grows = begins_itself leaves;
              honest = honest;
              answered = legal.0;
              left = refl;
              left_honest = honest_behind;
              rest = calls;
              later = sym rest;
              legal = legal.1;
              end = refl;
            })
        | inr other ↦
            let next = next-turn behind calls t ts legal.1 honest_behind spelled
            (turn-first leaves call calls t ts false other e) in
            record {
              before = next.before;
              grows = begins_then leaves behind next.before (left-grows d facts leaves call.ask call.answer) next.grows;
              honest = next.honest;
              answered = next.answered;
              left = next.left;
              left_honest = next.left_honest;
              rest = next.rest;
              later = next.later;
              legal = next.legal;
              end = next.end;
            }
      ]

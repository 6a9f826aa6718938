-- The laws of calls on a plain wall: two stretches of calls, one after the other, the turns of one caller, and that a
-- wall only grows.
use Rattle.std.proofs.Common.{◌≡◌, ℕ, Bool, true, false, List, [], ◌∷◌, ◌++◌, refl, sym, subst}
use Rattle.std.specs.Prelude.{◌↔◌, cond, nat_eq}
use Rattle.std.specs.List.{AllByRecursion}
use Rattle.fr_bytes.specs.History.{Begins, own}
use Rattle.fr_bytes.proofs.HistoryLaws as histories
use Rattle.fr_bytes.proofs.HistoryLaws.{begins_itself, begins_then}
use Rattle.fr_digest.specs.Digest.{Digest}
use Rattle.op_types.specs.declared.op.Op.{Op}
use Rattle.op_types.specs.declared.op.Leaf.{Leaf}
use Rattle.wall_law.specs.State.{state_of}
use Rattle.hall_core.specs.declared.ask.Ask.{Ask}
use Rattle.hall_core.specs.declared.ask.Ask.TheVariants.{Look, Append}
use Rattle.hall_core.specs.declared.ask.Answer.{Answer}
use Rattle.hall_core.specs.declared.ask.Answer.TheVariants.{Looked, Placed, Refused}
use Rattle.hall_core.specs.declared.ask.Called.{Called}
use Rattle.hall_core.specs.declared.facts.WallFacts.{WallFacts}
use Rattle.hall_core.specs.PlainWall.{leaf_of, left_behind, where_placed}
use Rattle.hall_core.specs.Calls.{EachBegins, LegalFrom, Turn, caller_of, left_by, play, play_from, turns, turns_from}
use Rattle.hall_core.proofs.Playing.{legal-append, play_from-append}

-- a list that is before another is before what follows it
each_begins-earlier : (first second : List Leaf) (ts : List Turn) → Begins first second → EachBegins second ts
    → EachBegins first ts
each_begins-earlier first second [] p q = tt
each_begins-earlier first second (t ∷ ts) p q = (begins_then first second t.left p q.0, q.1)

each_begins-step : (b : Bool) (leaves : List Leaf) (t : Turn) (ts : List Turn) → Begins leaves t.left
    → EachBegins t.left ts
    → EachBegins leaves (cond b (t ∷ []) [] ++ ts)
each_begins-step true leaves t ts p q = (p, q)
each_begins-step false leaves t ts p q = each_begins-earlier leaves t.left ts p q

ends-step : (b : Bool) (end : List Leaf) (t : Turn) (ts : List Turn) → Begins t.left end
    → AllByRecursion (λ (x : Turn). Begins x.left end) ts
    → AllByRecursion (λ (x : Turn). Begins x.left end) (cond b (t ∷ []) [] ++ ts)
ends-step true end t ts p q = (p, q)
ends-step false end t ts p q = q

module _ (d : Digest) (facts : WallFacts) where
  -- ---- two stretches of calls

  -- the turns of one caller
  pub turns_from-append : (u : ℕ) (leaves : List Leaf) (xs ys : List Called)
      → turns_from d facts u leaves (xs ++ ys) ≡ turns_from d facts u leaves xs
      ++ turns_from d facts u (play_from d facts leaves xs) ys
  turns_from-append u leaves xs ys = histories.turns-append caller_of (left_by d facts) leaves u xs ys

  -- the calls are answered as the wall answers them
  legal-parts : (leaves : List Leaf) (xs ys : List Called) → LegalFrom d facts leaves (xs ++ ys)
      → LegalFrom d facts leaves xs × LegalFrom d facts (play_from d facts leaves xs) ys
  legal-parts leaves [] ys p = (tt, p)
  legal-parts leaves (call ∷ xs) ys p = let it = legal-parts (left_by d facts leaves call) xs ys p.1 in
      ((p.0, it.0), it.1)

  pub legal-iff : (leaves : List Leaf) (xs ys : List Called) → LegalFrom d facts leaves (xs ++ ys)
      ↔ LegalFrom d facts leaves xs × LegalFrom d facts (play_from d facts leaves xs) ys
  legal-iff leaves xs ys = (λ p. legal-parts leaves xs ys p, λ p. legal-append d facts leaves xs ys p.0 p.1)

  -- ---- the turns of one caller

  -- A caller's next call gives one turn more, whatever others called before it: the list of that turn is the one that
  -- all the calls leave.
  pub turns_grow : (u : ℕ) (front others : List Called) (e : Called) → own caller_of u others ≡ [] → e.caller ≡ u
      → turns d facts u (front ++ others ++ e ∷ [])
      ≡ turns d facts u front ++ (record { call = e; left = play d facts (front ++ others ++ e ∷ []) } ∷ [])
  turns_grow u front others e none same =
      histories.turns_grow caller_of (List Leaf) (left_by d facts) [] u front others e none same

  -- ---- a wall only grows

  placed-grows : (leaves : List Leaf) (op : Op) (answer : Answer)
      → Begins leaves (where_placed d facts leaves op answer)
  placed-grows leaves op (Looked size) = begins_itself leaves
  placed-grows leaves op (Placed position) = record {
    more = leaf_of d (state_of facts.owner leaves) op
        ∷ [];
    whole = refl;
  }
  placed-grows leaves op (Refused cause) = begins_itself leaves

  -- whatever is answered
  pub left-grows : (leaves : List Leaf) (ask : Ask) (answer : Answer)
      → Begins leaves (left_behind d facts leaves ask answer)
  left-grows leaves Look answer = begins_itself leaves
  left-grows leaves (Append op) answer = placed-grows leaves op answer

  pub play-grows : (leaves : List Leaf) (calls : List Called) → Begins leaves (play_from d facts leaves calls)
  play-grows leaves [] = begins_itself leaves
  play-grows leaves (call ∷ calls) =
      let behind = left_by d facts leaves call in
      begins_then leaves behind (play_from d facts behind calls) (left-grows leaves call.ask call.answer)
      (play-grows behind calls)

  -- the list that a front leaves is before the one that the whole leaves
  pub front-grows : (front more : List Called) → Begins (play d facts front) (play d facts (front ++ more))
  front-grows front more =
      subst (λ (all : List Leaf). Begins (play d facts front) all) (sym (play_from-append d facts [] front more))
      (play-grows (play d facts front) more)

  -- the list of each turn begins with that of the turn before
  pub turns-grow : (u : ℕ) (leaves : List Leaf) (calls : List Called)
      → EachBegins leaves (turns_from d facts u leaves calls)
  turns-grow u leaves [] = tt
  turns-grow u leaves (call ∷ calls) =
      let behind = left_by d facts leaves call in
      each_begins-step (nat_eq call.caller u) leaves (record { call = call; left = behind })
      (turns_from d facts u behind calls)
      (left-grows leaves call.ask call.answer) (turns-grow u behind calls)

  -- the list at the end begins with the list of each turn
  pub turns-end : (u : ℕ) (leaves : List Leaf) (calls : List Called)
      → AllByRecursion (λ (t : Turn). Begins t.left (play_from d facts leaves calls))
      (turns_from d facts u leaves calls)
  turns-end u leaves [] = tt
  turns-end u leaves (call ∷ calls) =
      let behind = left_by d facts leaves call in
      ends-step (nat_eq call.caller u) (play_from d facts behind calls) (record { call = call; left = behind })
      (turns_from d facts u behind calls) (play-grows behind calls) (turns-end u behind calls)

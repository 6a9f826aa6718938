-- A look and a call together are a turn.
use Rattle.std.proofs.Common.{ℕ, List, [], ◌∷◌, ◌++◌, sym, ap, ◌∙◌}
use Rattle.hall_gate.specs.Calls.{AddsCall, SeesMore, TakesTurn}
use Rattle.fr_bytes.specs.History.{own}
use Rattle.fr_bytes.proofs.HistoryLaws.{own_none}

-- who sees more, and then adds one call, has taken a turn
pub takes_turn : {E A R : Type 0} (caller : E → ℕ) (ask : E → A) (answer : E → R) (before seen after : List E)
    (c : ℕ) (a : A) (r : R) → SeesMore caller c before seen → AddsCall caller ask answer seen after c a r
    → TakesTurn caller ask answer before after c a r
takes_turn {E} caller ask answer before seen after c a r sees adds = record {
  others = sees.begins.more;
  entry = adds.entry;
  grown = adds.added ∙ ap (λ (l : List E). l ++ adds.entry ∷ []) sees.begins.whole;
  strangers = own_none caller c before sees.begins.more (ap (own caller c) (sym sees.begins.whole) ∙ sees.mine);
  call = adds.call;
}

-- What the edges in memory do, as their traits have it.
use Rattle.std.proofs.Common.{◌≡◌, ◌∙◌, ℕ, zero, suc, ◌+◌, ◌<◌, ◌≤◌, min, List, [], ◌∷◌, length, take, drop, Option, Some, None, Result, Ok, Err, Bool, true, false, refl, sym, ap, arith}
use Rattle.std.specs.Prelude.{is_none, ◌&&◌}
use Rattle.std.specs.List.{list_all}
use Rattle.std.proofs.lemmas.List.{take-append-drop, drop-drop, append-nil, length-drop, nil_from_length}
use Rattle.fr_edges.specs.declared.wire.CarryEnd.{CarryEnd}
use Rattle.fr_edges.specs.declared.wire.CarryEnd.TheVariants as ends
use Rattle.fr_edges.specs.declared.wire.Carried.{Carried}
use Rattle.fr_edges.specs.declared.schedule.Schedule.{Schedule}
use Rattle.fr_edges.specs.declared.mem_wire.MemWire.{MemWire}
use Rattle.fr_edges.specs.Source.{with_front}
use Rattle.fr_edges.specs.Wire.{Carries}
use Rattle.fr_edges.specs.Memory.{replaced, wire_view, Brings}

-- the bytes that a read moves stand before those that are left
pub moves : (bytes buf : List ℕ) (taken n : ℕ) → take n buf ≡ take n (drop taken bytes) → Some (drop taken bytes) ≡ with_front (take n buf) (Some (drop (taken + n) bytes))
moves bytes buf taken n e = ap (λ (x : List ℕ). Some x) (sym (take-append-drop n (drop taken bytes)) ∙ rw (e, drop-drop n taken bytes) refl)

-- a read into a buffer with room gives nothing only at the end
pub at_end : (bytes : List ℕ) (taken n piece room : ℕ) → n ≡ min (min (length (drop taken bytes)) piece) room → 1 ≤ piece → n ≡ 0 → 0 < room → drop (taken + n) bytes ≡ []
at_end bytes taken n piece room count positive none some =
    let left : length (drop taken bytes) ≡ 0 = omega arith in
    nil_from_length (drop (taken + n) bytes) (omega (arith, length-drop (taken + n) bytes, length-drop taken bytes, left))

-- no reply is replaced where none is to be
unreplaced : (replies : List (Option (List ℕ))) (k : ℕ) (reply : List ℕ) → list_all is_none replies ≡ true → replaced replies k reply ≡ reply
unreplaced [] k reply h = refl
unreplaced (None ∷ replies) zero reply h = refl
unreplaced (Some x ∷ replies) k reply h = absurd cc
unreplaced (None ∷ replies) (suc k) reply h = unreplaced replies k reply h

both_true : (a b : Bool) → (a && b) ≡ true → b ≡ true
both_true true b h = h
both_true false b h = absurd cc

straight_replies : (m : MemWire) (reply : List ℕ) → (wire_view m).straight ≡ true → replaced m.replies.items m.schedule.calls reply ≡ reply
straight_replies m reply h = unreplaced m.replies.items m.schedule.calls reply (both_true _ _ h)

same_straight : (m now : MemWire) → now.schedule.fails.items ≡ m.schedule.fails.items → now.replies.items ≡ m.replies.items → (wire_view now).straight ≡ (wire_view m).straight
same_straight m now fails replies = rw (fails, replies) refl

pub brings_carries : (m now : MemWire) (request reply out : List ℕ) (result : Result (Unit {0}) CarryEnd) → Brings m now request reply out result → Carries (wire_view m) (wire_view now) request reply out result
brings_carries m now request reply out (Ok x) h = record {
  kept = same_straight m now h.0.fails h.2;
  tells = ap (λ (log : List Carried). Some log) h.3;
  through = λ straight. h.4 ∙ straight_replies m reply straight;
  calm = h.1;
  straight_calm = λ straight. h.1;
  never_falls = omega (arith, h.1);
  cause = tt;
}
brings_carries m now request reply out (Err ends.Lost) h = absurd h
brings_carries m now request reply out (Err ends.NoMemory) h = record {
  kept = same_straight m now (ap (λ (s : Schedule). s.fails.items) h.0) h.1;
  tells = ap (λ (log : List Carried). Some log) (h.2 ∙ sym (append-nil m.log.items));
  through = λ straight. tt;
  calm = tt;
  straight_calm = λ straight. ap (λ (s : Schedule). s.faults) h.0;
  never_falls = omega (arith, ap (λ (s : Schedule). s.faults) h.0);
  cause = tt;
}

-- Edges in memory: which of their calls fail, and what each shows.
use Rattle.std.specs.Prelude.{◌≡◌, ℕ, ◌+◌, ◌-◌, ◌^◌, min, List, [], ◌∷◌, ◌++◌, ◌≤◌, length, drop, Option, Some, None, Bool, true, false, ◌&&◌, ◌==◌, is_none, Result, Ok, Err, if◌then◌else◌, slice_get}
use Rattle.std.specs.List.{list_any, list_all}
use Rattle.fr_edges.specs.declared.source.Failed.{Failed}
use Rattle.fr_edges.specs.declared.wire.Carried.{Carried}
use Rattle.fr_edges.specs.declared.wire.CarryEnd.{CarryEnd}
use Rattle.fr_edges.specs.declared.wire.CarryEnd.TheVariants as ends
use Rattle.fr_edges.specs.declared.schedule.Schedule.{Schedule}
use Rattle.fr_edges.specs.declared.mem_source.MemSource.{MemSource}
use Rattle.fr_edges.specs.declared.mem_sink.MemSink.{MemSink}
use Rattle.fr_edges.specs.declared.mem_wire.MemWire.{MemWire}
use Rattle.fr_edges.specs.Faults.{Rose}
use Rattle.fr_edges.specs.Source.{SourceView}
use Rattle.fr_edges.specs.Sink.{SinkView}
use Rattle.fr_edges.specs.Wire.{WireView}

-- one more, up to the greatest number of 64 bits
abbrev pub one_more : ℕ → ℕ
one_more n = min (n + 1) (2 ^ 64 - 1)

-- whether the next call fails: calls are numbered from 1
abbrev pub next_fails : Schedule → Bool
next_fails s = list_any (λ n. n == one_more s.calls) s.fails.items

abbrev pub source_view : MemSource → SourceView
source_view m = record { left = Some (drop m.taken m.bytes.items); faults = m.schedule.faults }

abbrev pub sink_view : MemSink → SinkView
sink_view m = record { written = Some m.bytes.items; faults = m.schedule.faults }

-- a wire that loses nothing and replaces nothing
abbrev pub is_straight : List ℕ → List (Option (List ℕ)) → Bool
is_straight fails replies = (length fails == 0) && list_all is_none replies

-- what the next carry delivers
abbrev pub replaced : List (Option (List ℕ)) → ℕ → List ℕ → List ℕ
replaced replies calls reply = or_reply (slice_get replies calls) reply where
  or_reply : Option (Option (List ℕ)) → List ℕ → List ℕ
  or_reply (Some (Some other)) reply = other
  or_reply (Some None) reply = reply
  or_reply None reply = reply

abbrev pub wire_view : MemWire → WireView
wire_view m = record { straight = is_straight m.schedule.fails.items m.replies.items; carried = Some m.log.items; faults = m.schedule.faults }

-- what was written into a sink, and what a wire carried
abbrev pub written_of : MemSink → List ℕ
written_of m = m.bytes.items

abbrev pub carried_of : MemWire → List Carried
carried_of m = m.log.items

-- ---- what a call answers

-- a call was made, and nothing else of the schedule changed but the count of faults
pub record Goes (before now : Schedule) : Type 0 where
  pub fails : now.fails.items ≡ before.fails.items
  pub calls : now.calls ≡ one_more before.calls

-- how many bytes a read gives into a buffer with that much room
abbrev pub read_answer : MemSource → ℕ → Result ℕ Failed
read_answer m room = if next_fails m.schedule then Err (record {}) else Ok (min (min (length (drop m.taken m.bytes.items)) m.piece) room)

-- a write takes as much of a piece as it may, or fails: where it must, or for want of memory
abbrev pub Answers : MemSink → ℕ → Result ℕ Failed → Type 0
Answers m len (Ok n) = (next_fails m.schedule ≡ false) × (n ≡ min len m.piece)
Answers m len (Err e) = Unit {0}

-- a carry is lost exactly where it must be, and else delivers the replacement or the reply
abbrev pub Delivered : MemWire → List ℕ → List ℕ → Result (Unit {0}) CarryEnd → Type 0
Delivered m reply out (Ok _) = (next_fails m.schedule ≡ false) × (out ≡ replaced m.replies.items m.schedule.calls reply)
Delivered m reply out (Err ends.Lost) = next_fails m.schedule ≡ true
Delivered m reply out (Err ends.NoMemory) = Unit {0}

abbrev pub Stays : MemWire → MemWire → Type 0
Stays before now = (now.schedule ≡ before.schedule) × (now.replies.items ≡ before.replies.items)
    × (now.log.items ≡ before.log.items)

-- a carry that found no memory didn't happen
abbrev pub WireGoes : MemWire → MemWire → Result (Unit {0}) CarryEnd → Type 0
WireGoes before now (Ok _) = Goes before.schedule now.schedule × (now.replies.items ≡ before.replies.items)
WireGoes before now (Err ends.Lost) = Goes before.schedule now.schedule × (now.replies.items ≡ before.replies.items)
WireGoes before now (Err ends.NoMemory) = Stays before now

-- a carry that is lost, or finds no memory
abbrev pub Loses : MemWire → MemWire → List ℕ → List ℕ → Result (Unit {0}) CarryEnd → Type 0
Loses before now request reply (Ok _) = ⊥
Loses before now request reply (Err ends.Lost) = Goes before.schedule now.schedule
    × Rose before.schedule.faults now.schedule.faults × (before.schedule.faults ≤ now.schedule.faults)
    × (now.replies.items ≡ before.replies.items)
    × (now.log.items ≡ before.log.items ++ record { request = request; reply = reply; delivered = None } ∷ [])
Loses before now request reply (Err ends.NoMemory) = Stays before now

-- a carry that delivers, or finds no memory
abbrev pub Brings : MemWire → MemWire → List ℕ → List ℕ → List ℕ → Result (Unit {0}) CarryEnd → Type 0
Brings before now request reply out (Ok _) = Goes before.schedule now.schedule
    × (now.schedule.faults ≡ before.schedule.faults) × (now.replies.items ≡ before.replies.items)
    × (now.log.items ≡ before.log.items ++ record { request = request; reply = reply; delivered = Some out } ∷ [])
    × (out ≡ replaced before.replies.items before.schedule.calls reply)
Brings before now request reply out (Err ends.Lost) = ⊥
Brings before now request reply out (Err ends.NoMemory) = Stays before now

-- ---- what a new edge in memory is

pub record OpensSource (bytes : List ℕ) (piece : ℕ) (fails : List ℕ) (now : MemSource) : Type 0 where
  pub left : source_view now ≡ record { left = Some bytes; faults = 0 }
  pub most : now.piece ≡ piece
  pub planned : now.schedule.fails.items ≡ fails
  pub calls : now.schedule.calls ≡ 0

pub record OpensSink (piece : ℕ) (fails : List ℕ) (now : MemSink) : Type 0 where
  pub written : sink_view now ≡ record { written = Some []; faults = 0 }
  pub most : now.piece ≡ piece
  pub planned : now.schedule.fails.items ≡ fails
  pub calls : now.schedule.calls ≡ 0

pub record OpensWire (replies : List (Option (List ℕ))) (fails : List ℕ) (now : MemWire) : Type 0 where
  pub shows : wire_view now ≡ record { straight = is_straight fails replies; carried = Some []; faults = 0 }
  pub replaces : now.replies.items ≡ replies
  pub planned : now.schedule.fails.items ≡ fails
  pub calls : now.schedule.calls ≡ 0

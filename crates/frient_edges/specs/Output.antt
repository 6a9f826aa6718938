-- What writing a whole text answers.
use Rattle.std.specs.Prelude.{◌≡◌, ℕ, ◌<◌, ◌⊎◌, List, length, take}
use Rattle.fr_edges.specs.Faults.{Rose}
use Rattle.fr_edges.specs.Sink.{SinkView, with_more}

-- The whole text was written, and no write failed; or a write failed, and what was written is a part of its
-- front.
abbrev pub Spoke : SinkView → SinkView → List ℕ → ℕ → ℕ → Type 0
Spoke before now text want status =
    ((status ≡ want) × (now.faults ≡ before.faults) × (now.written ≡ with_more before.written text))
    ⊎ ((status ≡ 3) × Rose before.faults now.faults × ((n : ℕ) × (n < length text) × (now.written ≡ with_more before.written (take n text))))

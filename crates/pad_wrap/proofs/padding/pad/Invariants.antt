use Rattle.std.proofs.Common.{◌≡◌, ◌+◌, ◌/◌, ◌%◌, ◌<◌, ◌++◌, take, drop}
use Rattle.std.specs.Int.{w32, to_le_bytes}
use Rattle.rand_chacha.specs.ChaCha.{word_at, key_of}
use Rattle.pad_wrap.specs.Pad.{padded_from}
use Rattle.pad_wrap.proofs.padding.pad.Given as goal

abbrev pub invariant-loop-i : goal.invariant-loop-i
invariant-loop-i l = record {
  words : l.words ≡ record { key = key_of l.key; stream = l.stream; word_pos = (l.i + 3) / 4 };
  word : 0 < l.i % 4 → l.word ≡ to_le_bytes w32 (word_at 10 (key_of l.key) l.stream (l.i / 4));
  done : take l.i l.out ++ padded_from l.key l.stream l.i (drop l.i l.out) ≡ padded_from l.key l.stream 0 l.initial.out;
}

use Rattle.std.proofs.Common.{◌≡◌, ℕ, ◌+◌, ◌/◌, ◌%◌, ◌^◌, List, ◌<◌, ◌∙◌, ap, sym, arith}
use Rattle.std.specs.Prelude.{bit_xor}
use Rattle.std.specs.Int.{w32, to_le_bytes}
use Rattle.std.proofs.Math.ListN.{get_or}
use Rattle.rand_chacha.specs.ChaCha.{word_at, key_of}
use Rattle.pad_wrap.specs.Pad.{padded, stream_byte}
use Rattle.pad_wrap.proofs.Pads.{byte, more, at_end, at_byte, drawn, stays, same_word}
use Rattle.pad_wrap.proofs.padding.pad.Goals as goal
use Rattle.pad_wrap.proofs.padding.pad.Goals.{then-i-eq0, else-i-eq0}

pub loop-i-preserved : goal.loop-i-preserved
loop-i-preserved c =
    let key = key_of c.args.key.now in
    let i = c.loop-i.i in
    let s = c.args.stream in
    let small : i < 2 ^ 38 = omega arith in
    let both : (c.if-i-eq0.words ≡ at_byte key s (i + 1)) × (c.if-i-eq0.word ≡ to_le_bytes w32 (word_at 10 key s (i / 4))) =
    elim c.if-i-eq0.branch [
      | then-i-eq0 w ↦
          (let d = drawn key s i c.loop-i.words w.next_word.result w.next_word.new.self small w.if-i-eq0.true c.loop-i.invariant.words w.next_word.ensures in
          (w.words-is ∙ d.0, w.word-is ∙ (w.to_le_bytes-word.ensures ∙ ap (to_le_bytes w32) d.1)))
      | else-i-eq0 w ↦
          (stays key s i c.if-i-eq0.words w.if-i-eq0.false (w.words-is ∙ c.loop-i.invariant.words), w.word-is ∙ c.loop-i.invariant.word (omega arith))
    ] in
    let b : get_or c.if-i-eq0.word (i % 4) 0 ≡ stream_byte c.args.key.now s i = ap (λ (w : List ℕ). get_or w (i % 4) 0) both.1 ∙ byte c.args.key.now s i small in
    record {
      words = both.0;
      word = λ h. both.1 ∙ ap (λ n. to_le_bytes w32 (word_at 10 key s n)) (sym (same_word i h));
      done = more c.args.key.now s i c.loop-i.out (bit_xor (get_or c.loop-i.out i 0) (get_or c.if-i-eq0.word (i % 4) 0)) (omega arith) (ap (bit_xor (get_or c.loop-i.out i 0)) b) ∙ c.loop-i.invariant.done;
    }

pub returns : goal.returns
unfolding padded
returns c = sym (at_end c.args.key.now c.args.stream c.loop-i.i c.loop-i.out (omega arith)) ∙ c.loop-i.invariant.done

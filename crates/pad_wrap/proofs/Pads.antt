-- The words of `rand_chacha` are those of RFC 8439, and a text that is padded twice is as it was.
use Rattle.std.proofs.Common.{◌≡◌, ℕ, ◌+◌, ◌/◌, ◌%◌, ◌^◌, ◌<◌, List, [], ◌∷◌, ◌++◌, length, get_or, set, take, drop, refl, ap, ◌∙◌, append_assoc, add-one, arith, suc}
use Rattle.std.specs.Prelude.{bit_xor}
use Rattle.std.specs.Int.{w32, to_le_bytes}
use Rattle.std.proofs.Math.Nat.{mod-eq_of_lt}
use Rattle.std.proofs.Math.Seq.{drop-cons, drop-length}
use Rattle.std.proofs.lemmas.List.{take_more_set, drop-set-lt, append-nil, take_all}
use Rattle.std.proofs.lemmas.Nat.Bits.{bit_at_xor, same_from_bits}
use Rattle.std.specs.Int.{bit_at}
use Rattle.rand_core.specs.Steps.{u32_at}
use Rattle.rand_chacha.specs.ChaCha.{ChaCha, next_word, word_at, key_of}
use Rattle.rand_chacha.specs.Block as block
use Rattle.fr_bytes.specs.Bytes.{Text}
use Rattle.pad_wrap.specs.Pad.{block_state, block_word, stream_byte, padded_from, padded}

-- `rand_chacha` has 64 bits for the number of a block: below 2^32 blocks its words are the RFC's
pub word : (key : Text) (stream i : ℕ) → i < 2 ^ 38 → word_at 10 (key_of key) stream (i / 4) ≡ block_word key stream (i / 64) (i % 64 / 4)
unfolding u32_at block.block_word block_word block_state
word key stream i h =
    let e1 : i / 4 / 16 ≡ i / 64 = omega arith in
    let e2 : i / 4 % 16 ≡ i % 64 / 4 = omega arith in
    let e3 : i / 64 % 2 ^ 32 ≡ i / 64 = mod-eq_of_lt (omega arith) in
    let e4 : i / 64 / 2 ^ 32 ≡ 0 = omega arith in
    rw (e1, e2, e3, e4) refl

pub byte : (key : Text) (stream i : ℕ) → i < 2 ^ 38 → get_or (to_le_bytes w32 (word_at 10 (key_of key) stream (i / 4))) (i % 4) 0 ≡ stream_byte key stream i
unfolding stream_byte
byte key stream i h = rw (word key stream i h) refl

-- the generator that stands where byte i is taken from
abbrev pub at_byte : List ℕ → ℕ → ℕ → ChaCha
at_byte key stream i = record { key = key; stream = stream; word_pos = (i + 3) / 4 }

-- where a word begins, it is drawn
pub drawn : (key : List ℕ) (stream i : ℕ) (g : ChaCha) (r : ℕ) (g' : ChaCha) → i < 2 ^ 38 → i % 4 ≡ 0 → g ≡ at_byte key stream i
    → (r, g') ≡ next_word 10 g → (g' ≡ at_byte key stream (i + 1)) × (r ≡ word_at 10 key stream (i / 4))
drawn key stream i g r g' h z e n =
    let e1 : (i + 3) / 4 ≡ i / 4 = omega arith in
    let e2 : ((i + 3) / 4 + 1) % 2 ^ 68 ≡ (i + 3) / 4 + 1 = mod-eq_of_lt (omega arith) in
    let e3 : (i + 3) / 4 + 1 ≡ (i + 1 + 3) / 4 = omega arith in
    let m : (r, g') ≡ next_word 10 (at_byte key stream i) = n ∙ ap (next_word 10) e in
    (ap (λ p. p.1) m ∙ ap (λ w. record { key = key; stream = stream; word_pos = w }) (e2 ∙ e3), ap (λ p. p.0) m ∙ ap (word_at 10 key stream) e1)

-- within a word, none is drawn
pub stays : (key : List ℕ) (stream i : ℕ) (g : ChaCha) → (i % 4 ≡ 0 → ⊥) → g ≡ at_byte key stream i → g ≡ at_byte key stream (i + 1)
stays key stream i g z e =
    let e1 : (i + 3) / 4 ≡ (i + 1 + 3) / 4 = omega arith in
    e ∙ ap (λ w. record { key = key; stream = stream; word_pos = w }) e1

pub same_word : (i : ℕ) → 0 < (i + 1) % 4 → (i + 1) / 4 ≡ i / 4
same_word i h = omega arith

-- one byte more
pub more : (key : Text) (stream i : ℕ) (out : Text) (v : ℕ) → i < length out → v ≡ bit_xor (get_or out i 0) (stream_byte key stream i)
    → take (i + 1) (set out i v) ++ padded_from key stream (i + 1) (drop (i + 1) (set out i v)) ≡ take i out ++ padded_from key stream i (drop i out)
more key stream i out v h e =
    let e1 : drop i out ≡ get_or out i 0 ∷ drop (i + 1) out = rw add-one (drop-cons out i 0 h) in
    let e2 : drop (i + 1) (set out i v) ≡ drop (i + 1) out = drop-set-lt (i + 1) out i v (omega arith) in
    rw (e2, take_more_set out i v h, e1, append_assoc, e) refl

-- all bytes are done
pub at_end : (key : Text) (stream i : ℕ) (out : Text) → i ≡ length out → take i out ++ padded_from key stream i (drop i out) ≡ out
at_end key stream i out e = rw (e, take_all (length out) out (omega arith), drop-length out, append-nil out) refl

-- ---- twice

flip : (x y : ℕ) → x < 2 → ((x + y) % 2 + y) % 2 ≡ x
flip x y h = omega arith

twice-byte : (a s : ℕ) → bit_xor (bit_xor a s) s ≡ a
twice-byte a s = same_from_bits (bit_xor (bit_xor a s) s) a (λ i. rw (bit_at_xor (bit_xor a s) s i, bit_at_xor a s i) (flip (bit_at a i) (bit_at s i) (omega arith)))

twice-from : (key : Text) (stream i : ℕ) (text : Text) → padded_from key stream i (padded_from key stream i text) ≡ text
twice-from key stream i [] = refl
twice-from key stream i (b ∷ bs) = rw (twice-byte b (stream_byte key stream i), twice-from key stream (i + 1) bs) refl

pub twice : (key : Text) (stream : ℕ) (text : Text) → padded key stream (padded key stream text) ≡ text
unfolding padded
twice key stream text = twice-from key stream 0 text

size-from : (key : Text) (stream i : ℕ) (text : Text) → length (padded_from key stream i text) ≡ length text
size-from key stream i [] = refl
size-from key stream i (b ∷ bs) = ap suc (size-from key stream (i + 1) bs)

pub size : (key : Text) (stream : ℕ) (text : Text) → length (padded key stream text) ≡ length text
unfolding padded
size key stream text = size-from key stream 0 text

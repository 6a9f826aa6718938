-- The key stream of a key and a stream number, and texts that are padded with it: ChaCha20 (RFC 8439) under the
-- nonce of four zero bytes and the stream number, with the block counter from 0. Nothing is said of its secrecy.
use Rattle.std.specs.Prelude.{ℕ, ◌+◌, ◌*◌, ◌/◌, ◌%◌, ◌^◌, List, [], ◌∷◌, slice_index, bit_xor}
use Rattle.std.specs.Int.{w32, to_le_bytes}
use Rattle.rand_chacha.specs.Block.{add32, double_rounds}
use Rattle.fr_bytes.specs.Bytes.{Text}

-- word i of the key, little-endian (section 2.3)
abbrev pub key_word : Text → ℕ → ℕ
key_word key i =
    slice_index key (4 * i) + slice_index key (4 * i + 1) * 2 ^ 8
    + slice_index key (4 * i + 2) * 2 ^ 16 + slice_index key (4 * i + 3) * 2 ^ 24

-- The state of a block before the rounds (section 2.3): the constants, the eight words of the key, the block's
-- number, and the three words of the nonce, which are zero and the stream number's two halves, the low one first.
unfoldable pub block_state : Text → ℕ → ℕ → List ℕ
block_state key stream block =
    0x61707865 ∷ 0x3320646e ∷ 0x79622d32 ∷ 0x6b206574
    ∷ key_word key 0 ∷ key_word key 1 ∷ key_word key 2 ∷ key_word key 3
    ∷ key_word key 4 ∷ key_word key 5 ∷ key_word key 6 ∷ key_word key 7
    ∷ block ∷ 0 ∷ stream % 2 ^ 32 ∷ stream / 2 ^ 32 ∷ []

-- word k of a block: the state after the twenty rounds and the state before them, added word by word (section 2.3)
unfoldable pub block_word : Text → ℕ → ℕ → ℕ → ℕ
block_word key stream block k =
    let x = block_state key stream block in
    add32 (slice_index (double_rounds 10 x) k) (slice_index x k)

-- byte i of the key stream: the blocks in order, each word little-endian (section 2.4)
unfoldable pub stream_byte : Text → ℕ → ℕ → ℕ
stream_byte key stream i = slice_index (to_le_bytes w32 (block_word key stream (i / 64) (i % 64 / 4))) (i % 4)

-- the text XORed with the key stream from byte i on
abbrev pub padded_from : Text → ℕ → ℕ → Text → Text
padded_from key stream i [] = []
padded_from key stream i (b ∷ bs) = bit_xor b (stream_byte key stream i) ∷ padded_from key stream (i + 1) bs

-- the text XORed with the key stream (section 2.4)
unfoldable pub padded : Text → ℕ → Text → Text
padded key stream text = padded_from key stream 0 text

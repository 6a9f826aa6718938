-- The key that is read of a key's bytes is the key.
use Rattle.std.proofs.Common.{◌≡◌, ℕ, ◌<◌, ◌^◌, List, [], ◌∷◌, ◌++◌, length, take, drop, Option, Some, refl, ap, sym, ◌∙◌, arith}
use Rattle.std.specs.Prelude.{slice_range}
use Rattle.std.specs.Option.{option_map}
use Rattle.std.proofs.lemmas.List.{append_assoc, drop_at, take_all, take_at}
use Rattle.std.proofs.lemmas.Nat.{from_be_bytes-to_be_bytes_4}
use Rattle.lms_params.specs.declared.pair.Pair.{Pair}
use Rattle.lms_params.specs.Parameters.{IsListed, pair_at}
use Rattle.lms_ots.specs.Digits.{number_at, u32str}
use Rattle.lms_tree.specs.Valid.{Key, key_at, key_bytes}
use Rattle.lms_tree.proofs.SigningLaw.{listed}

number-first : (a b : ℕ) (rest : List ℕ) → a < 2 ^ 32 → number_at ((u32str a ++ u32str b) ++ rest) 0 ≡ a
unfolding number_at u32str
number-first a b rest small = from_be_bytes-to_be_bytes_4 a small

number-second : (a b : ℕ) (rest : List ℕ) → b < 2 ^ 32 → number_at ((u32str a ++ u32str b) ++ rest) 4 ≡ b
unfolding number_at u32str
number-second a b rest small = from_be_bytes-to_be_bytes_4 b small

range-id : (a b : ℕ) (id root : List ℕ) → length id ≡ 16 → slice_range ((u32str a ++ u32str b) ++ (id ++ root)) 8 24 ≡ id
unfolding u32str
range-id a b id root long = take_at id root 16 long

range-root : (a b : ℕ) (id root : List ℕ) → length id ≡ 16 → length root ≡ 32 → slice_range ((u32str a ++ u32str b) ++ (id ++ root)) 24 56 ≡ root
unfolding u32str
range-root a b id root long long' = ap (take 32) (drop_at id root 16 long) ∙ take_all 32 root (omega (arith, long'))

read_back : (key : Key) (bytes : List ℕ) → IsListed key.pair → number_at bytes 0 ≡ key.pair.lms.code → number_at bytes 4 ≡ key.pair.ots.code → slice_range bytes 8 24 ≡ key.id → slice_range bytes 24 56 ≡ key.root → key_at bytes ≡ Some key
read_back key bytes is_listed lms ots id root =
    let found : pair_at (number_at bytes 0) (number_at bytes 4) ≡ Some key.pair = rw (lms, ots) is_listed in
    ap (option_map (λ pair. record { pair = pair; id = slice_range bytes 8 24; root = slice_range bytes 24 56 })) found
    ∙ ap (λ (i : List ℕ). Some (record { pair = key.pair; id = i; root = slice_range bytes 24 56 })) id
    ∙ ap (λ (r : List ℕ). Some (record { pair = key.pair; id = key.id; root = r })) root

pub key_at-key_bytes : (key : Key) → IsListed key.pair → length key.id ≡ 16 → length key.root ≡ 32 → key_at (key_bytes key) ≡ Some key
unfolding key_bytes
key_at-key_bytes key is_listed long long' =
    let codes = listed key.pair is_listed in
    let lms = key.pair.lms.code in
    let ots = key.pair.ots.code in
    let regroup : ((u32str lms ++ u32str ots) ++ key.id) ++ key.root ≡ (u32str lms ++ u32str ots) ++ (key.id ++ key.root) = append_assoc (u32str lms ++ u32str ots) key.id key.root in
    ap key_at regroup
    ∙ read_back key ((u32str lms ++ u32str ots) ++ (key.id ++ key.root)) is_listed (number-first lms ots _ codes.lms) (number-second lms ots _ codes.ots) (range-id lms ots key.id key.root long) (range-root lms ots key.id key.root long long')

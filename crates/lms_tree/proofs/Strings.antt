-- Numbers and pieces of byte strings.
use Rattle.std.proofs.Common.{◌≡◌, ℕ, zero, suc, ◌+◌, ◌-◌, ◌≤◌, ◌<◌, ◌^◌, List, [], ◌∷◌, ◌++◌, length, get_or, take, drop, slice_range, arith, refl, ap, sym, ◌∙◌, add-one, add-zero, append_assoc, length-drop}
use Rattle.std.specs.Int.{w32, from_be_bytes}
use Rattle.std.proofs.lemmas.List.{drop_more, take-append-drop, drop-drop, take_all, get_or-drop}
use Rattle.std.proofs.lemmas.Nat.{be_bytes_4}
use Rattle.lms_params.specs.declared.pair.Pair.{Pair}
use Rattle.lms_ots.specs.Digits.{number_at, u32str}
use Rattle.lms_tree.specs.Valid.{Key, key_bytes}

-- the first four elements of a list, one by one
front_four : (s : List ℕ) → 4 ≤ length s → take 4 s ≡ get_or s 0 0 ∷ get_or s 1 0 ∷ get_or s 2 0 ∷ get_or s 3 0 ∷ []
front_four [] h = absurd (omega arith)
front_four (a ∷ []) h = absurd (omega arith)
front_four (a ∷ b ∷ []) h = absurd (omega arith)
front_four (a ∷ b ∷ c ∷ []) h = absurd (omega arith)
front_four (a ∷ b ∷ c ∷ d ∷ rest) h = refl

fits_each : (a b c d : ℕ) → a < 256 → b < 256 → c < 256 → d < 256 → (i : ℕ) → get_or (a ∷ b ∷ c ∷ d ∷ []) i 0 < 256
fits_each a b c d ha hb hc hd zero = ha
fits_each a b c d ha hb hc hd (suc zero) = hb
fits_each a b c d ha hb hc hd (suc (suc zero)) = hc
fits_each a b c d ha hb hc hd (suc (suc (suc zero))) = hd
fits_each a b c d ha hb hc hd (suc (suc (suc (suc i)))) = omega arith

-- the four bytes at a place are those of the number that they say
pub bytes_of_number : (s : List ℕ) (at : ℕ) → at + 4 ≤ length s → ((i : ℕ) → get_or s i 0 < 256) →
    u32str (number_at s at) ≡ take 4 (drop at s)
unfolding number_at u32str
bytes_of_number s at h fits =
    let four = get_or s at 0 ∷ get_or s (at + 1) 0 ∷ get_or s (at + 2) 0 ∷ get_or s (at + 3) 0 ∷ [] in
    let spelled = be_bytes_4 four (from_be_bytes w32 four) refl
    (fits_each _ _ _ _ (fits at) (fits (at + 1)) (fits (at + 2)) (fits (at + 3))) refl in
    let long : 4 ≤ length (drop at s) = omega (arith, length-drop at s) in
    let front : take 4 (drop at s) ≡ four =
    front_four (drop at s) long ∙ rw (get_or-drop at s 0 0, get_or-drop at s 1 0, get_or-drop at s 2 0, get_or-drop at s 3 0, add-zero) refl in
    spelled ∙ sym front

-- the four parts of a key, written one behind the other
pub key_written : (key : Key) (one two three four : List ℕ) → take 4 one ≡ u32str key.pair.lms.code →
    take 8 two ≡ take 4 one ++ u32str key.pair.ots.code → take 24 three ≡ take 8 two ++ key.id →
    take 56 four ≡ take 24 three ++ key.root → length four ≡ 56 → four ≡ key_bytes key
unfolding key_bytes
key_written key one two three four lms ots id root long =
    sym (take_all 56 four (omega (arith, long)))
    ∙ (root ∙ ap (λ xs. xs ++ key.root) (id ∙ ap (λ xs. xs ++ key.id) (ots ∙ ap (λ xs. xs ++ u32str key.pair.ots.code) lms)))

-- a list, cut after m and after m + n elements
cut : (s : List ℕ) (m n : ℕ) → drop m s ≡ take n (drop m s) ++ drop (m + n) s
cut s m n = sym (take-append-drop n (drop m s)) ∙ ap (λ xs. take n (drop m s) ++ xs) (drop-drop n m s)

four_parts : (s a b c d rest last : List ℕ) → s ≡ a ++ rest → rest ≡ b ++ last → last ≡ c ++ d →
    s ≡ ((a ++ b) ++ c) ++ d
four_parts s a b c d rest last first second third =
    let regroup : a ++ (b ++ (c ++ d)) ≡ ((a ++ b) ++ c) ++ d = simp append_assoc in
    first ∙ (ap (λ xs. a ++ xs) (second ∙ ap (λ xs. b ++ xs) third) ∙ regroup)

-- a key's bytes are their four parts
pub key_read : (s : List ℕ) (pair : Pair) → length s ≡ 56 → ((i : ℕ) → get_or s i 0 < 256) →
    pair.lms.code ≡ number_at s 0 → pair.ots.code ≡ number_at s 4 →
    s ≡ key_bytes (record { pair = pair; id = slice_range s 8 24; root = slice_range s 24 56 })
unfolding key_bytes
key_read s pair long fits lms ots =
    let first : u32str pair.lms.code ≡ take 4 s = ap u32str lms ∙ bytes_of_number s 0 (omega arith) fits in
    let second : u32str pair.ots.code ≡ take 4 (drop 4 s) = ap u32str ots ∙ bytes_of_number s 4 (omega arith) fits in
    let last : take 32 (drop 24 s) ≡ drop 24 s = take_all 32 (drop 24 s) (omega (arith, length-drop 24 s)) in
    rw (first, second) (rw last (four_parts s (take 4 s) (take 4 (drop 4 s)) (take 16 (drop 8 s)) (drop 24 s) (drop 4 s) (drop 8 s)
    (sym (take-append-drop 4 s)) (cut s 4 4) (cut s 8 16)))

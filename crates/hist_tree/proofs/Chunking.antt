-- Items in chunks: where each stands, and one item more.
use Rattle.std.proofs.Common.{◌≡◌, ℕ, zero, suc, ◌+◌, ◌-◌, ◌*◌, ◌/◌, ◌%◌, ◌<◌, ◌≤◌, List, [], ◌∷◌, ◌++◌, length, take, drop, get_or, Some, refl, ap, sym, ◌∙◌, inl, inr, arith}
use Rattle.std.specs.List.{slice_get}
use Rattle.std.proofs.lemmas.Bool.{cases_lt}
use Rattle.std.specs.Prelude.{map}
use Rattle.std.proofs.lemmas.List.{append-nil, append_assoc, drop-append-le, drop-drop, drop-map, drop-take, get_or-drop, get_or-map, get_or-take, get_or_append_left, get_or_push, length-drop, length-map, length-take, length-take-le, length_push, take-append-drop, take-append-le, take-map, take-take, take_all, take_more}
use Rattle.std.proofs.lemmas.List.Concat.{flat_map-append}
use Rattle.std.proofs.lemmas.Option.{get_or_from_slice_get, slice_get-get_or}
use Rattle.hist_tree.proofs.Keeping.{values-more}
use Rattle.hist_tree.specs.Chunks.{IsChunked, joined}

module _ {X : Type 0} where
  pub chunked-none : IsChunked {X = X} [] 0
  chunked-none = record {
    size = refl;
    each = λ c within. absurd (omega arith);
    enough = omega arith;
    no_more = omega arith;
  }

  -- the chunk of a position
  pub chunk-within : (pieces : List (List X)) (n k : ℕ) → IsChunked pieces n → k < n → k / 32 < length pieces
  chunk-within pieces n k h within = let enough = h.enough in omega arith

  -- the front of a list and what is added to it
  front-more : (xs : List X) (n : ℕ) → take n xs ++ take 32 (drop n xs) ≡ take (n + 32) xs
  front-more xs n =
      let sum : n + 32 - n ≡ 32 = omega arith in
      ap (λ (ys : List X). ys ++ take 32 (drop n xs)) (sym (take-take n (n + 32) xs (omega arith)))
      ∙ ap (λ (ys : List X). take n (take (n + 32) xs) ++ ys) (sym (drop-take n 32 xs))
      ∙ take-append-drop n (take (n + 32) xs)

  -- the first chunks have the first items
  pub joined-take : (pieces : List (List X)) (n q : ℕ) → IsChunked pieces n → q ≤ length pieces
      → joined (take q pieces) ≡ take (32 * q) (joined pieces)
  joined-take pieces n zero h within = refl
  joined-take pieces n (suc q) h within =
      let next : suc q ≡ q + 1 = omega arith in
      let low : q < length pieces = omega arith in
      let sum : 32 * q + 32 ≡ 32 * (q + 1) = omega arith in
      rw next (
      ap (λ (ps : List (List X)). joined ps) (take_more pieces q [] low)
      ∙ flat_map-append (λ (xs : List X). xs) (take q pieces) (get_or pieces q [] ∷ [])
      ∙ ap (λ (xs : List X). joined (take q pieces) ++ xs) (append-nil (get_or pieces q []) ∙ h.each q low)
      ∙ ap (λ (xs : List X). xs ++ take 32 (drop (32 * q) (joined pieces))) (joined-take pieces n q h (omega arith))
      ∙ front-more (joined pieces) (32 * q)
      ∙ ap (λ k. take k (joined pieces)) sum
      )

  within_front : (xs : List X) (c q : ℕ) → c < q
      → take 32 (drop (32 * c) (take (32 * q) xs)) ≡ take 32 (drop (32 * c) xs)
  within_front xs c q low =
      let sum : 32 * q ≡ 32 * c + (32 * q - 32 * c) = omega arith in
      ap (λ k. take 32 (drop (32 * c) (take k xs))) sum
      ∙ ap (λ (ys : List X). take 32 ys) (drop-take (32 * c) (32 * q - 32 * c) xs)
      ∙ take-take 32 (32 * q - 32 * c) (drop (32 * c) xs) (omega arith)

  -- the full chunks, of which there are n / 32
  pub chunked-full : (pieces : List (List X)) (n q : ℕ) → IsChunked pieces n → q ≡ n / 32
      → IsChunked (take q pieces) (32 * q)
  chunked-full pieces n q h full =
      let enough = h.enough in
      let size = h.size in
      let within : q ≤ length pieces = omega arith in
      let count = length-take-le q pieces within in
      let front = joined-take pieces n q h within in
      record {
        size = ap (λ (xs : List X). length xs) front ∙ length-take-le (32 * q) (joined pieces) (omega arith);
        each = λ c low.
            let same = get_or-take q pieces c [] (omega arith) in
            let part : take 32 (drop (32 * c) (take (32 * q) (joined pieces))) ≡ take 32 (drop (32 * c) (joined
            pieces)) = within_front (joined pieces) c q (omega arith) in
            rw (same, front, part) (h.each c (omega arith));
        enough = omega arith;
        no_more = omega arith;
      }

  pub full-items : (pieces : List (List X)) (n q : ℕ) → IsChunked pieces n → q ≡ n / 32
      → joined (take q pieces) ≡ take (32 * q) (joined pieces)
  full-items pieces n q h full = let enough = h.enough in joined-take pieces n q h (omega arith)

  -- the items of a list and one more
  pub joined-more : (pieces : List (List X)) (items last : List X) (x : X) (q : ℕ)
      → joined pieces ≡ take (32 * q) items
      → last ≡ drop (32 * q) items ++ x ∷ [] → joined (pieces ++ last ∷ []) ≡ items ++ x ∷ []
  joined-more pieces items last x q front back =
      flat_map-append (λ (xs : List X). xs) pieces (last ∷ [])
      ∙ ap (λ (xs : List X). joined pieces ++ xs) (append-nil last ∙ back)
      ∙ ap (λ (xs : List X). xs ++ (drop (32 * q) items ++ x ∷ [])) front
      ∙ sym (append_assoc (take (32 * q) items) (drop (32 * q) items) (x ∷ []))
      ∙ ap (λ (xs : List X). xs ++ x ∷ []) (take-append-drop (32 * q) items)

  piece : (pieces : List (List X)) (items last : List X) (x : X) (c q : ℕ) → IsChunked pieces (32 * q)
      → joined pieces ≡ take (32 * q) items
      → last ≡ drop (32 * q) items ++ x ∷ [] → length pieces ≡ q → c ≤ q → 32 * q ≤ length items
      → length items < 32 * q + 32
      → get_or (pieces ++ last ∷ []) c [] ≡ take 32 (drop (32 * c) (items ++ x ∷ []))
  piece pieces items last x c q h front back count low within short =
      let begin = drop-append-le (32 * c) items (x ∷ []) (omega arith) in
      elim (cases_lt c q) [
        | inl below ↦
            let there = h.each c (omega arith) in
            let same = within_front items c q below in
            let rest = length-drop (32 * c) items in
            let old = take-append-le 32 (drop (32 * c) items) (x ∷ []) (omega arith) in
            get_or_append_left pieces (last ∷ []) [] c (omega arith) ∙ there
            ∙ ap (λ (xs : List X). take 32 (drop (32 * c) xs)) front ∙ same ∙ sym old
            ∙ ap (λ (xs : List X). take 32 xs) (sym begin)
        | inr here ↦
            let same : c ≡ q = omega arith in
            let rest = length-drop (32 * c) items in
            let len = length_push (drop (32 * c) items) x in
            let whole = take_all 32 (drop (32 * c) items ++ x ∷ []) (omega arith) in
            get_or_push pieces last [] c (omega arith) ∙ back
            ∙ ap (λ k. drop (32 * k) items ++ x ∷ []) (sym same) ∙ sym whole
            ∙ ap (λ (xs : List X). take 32 xs) (sym begin)
      ]

  -- full chunks, and behind them what is left of a list with one item more
  pub chunked-more : (pieces : List (List X)) (items last : List X) (x : X) (n q : ℕ) → IsChunked pieces (32 * q)
      → joined pieces ≡ take (32 * q) items
      → last ≡ drop (32 * q) items ++ x ∷ [] → length items ≡ n → q ≡ n / 32 → IsChunked (pieces ++ last ∷ []) (n + 1)
  chunked-more pieces items last x n q h front back count full =
      let all = joined-more pieces items last x q front back in
      let len = length_push pieces last in
      let few = h.no_more in
      let many = h.enough in
      let longer = length_push items x in
      record {
        size = ap (λ (xs : List X). length xs) all ∙ longer ∙ ap (λ k. k + 1) count;
        each = λ c within. rw all (piece pieces items last x c q h front back (omega arith) (omega arith) (omega
            arith) (omega arith));
        enough = omega arith;
        no_more = omega arith;
      }

  -- an item, by its chunk and its place there
  pub chunk-item : (pieces : List (List X)) (n k : ℕ) (x : X) → IsChunked pieces n → k < n
      → slice_get (get_or pieces (k / 32) []) (k % 32) ≡ Some x
      → slice_get (joined pieces) k ≡ Some x
  chunk-item pieces n k x h within at =
      let size = h.size in
      let there = h.each (k / 32) (chunk-within pieces n k h within) in
      let place : 32 * (k / 32) + k % 32 ≡ k = omega arith in
      let read = get_or_from_slice_get (get_or pieces (k / 32) []) (k % 32) x x at in
      let low = get_or-take 32 (drop (32 * (k / 32)) (joined pieces)) (k % 32) x (omega arith) in
      let deep = get_or-drop (32 * (k / 32)) (joined pieces) (k % 32) x in
      let same : get_or (joined pieces) k x ≡ x = ap (λ i. get_or (joined pieces) i x) (sym place) ∙ sym deep
      ∙ sym low ∙ ap (λ (xs : List X). get_or xs (k % 32) x) (sym there) ∙ read in
      slice_get-get_or (joined pieces) k x (omega arith) ∙ ap (λ y. Some y) same

  -- how many items the chunk of a position has, at least
  pub chunk-length : (pieces : List (List X)) (n k w : ℕ) → IsChunked pieces n → 0 < w → k + w ≤ n
      → k % 32 + w ≤ 32 → k % 32 + w ≤ length (get_or pieces (k / 32) [])
  chunk-length pieces n k w h some within fits =
      let size = h.size in
      let there = h.each (k / 32) (chunk-within pieces n k h (omega arith)) in
      let front = length-take 32 (drop (32 * (k / 32)) (joined pieces)) in
      let rest = length-drop (32 * (k / 32)) (joined pieces) in
      rw there (omega arith)

  -- what stands in a chunk, from a position on
  pub chunk-part : (pieces : List (List X)) (n k w : ℕ) → IsChunked pieces n → 0 < w → k + w ≤ n → k % 32 + w ≤ 32
      → take w (drop (k % 32) (get_or pieces (k / 32) [])) ≡ take w (drop k (joined pieces))
  chunk-part pieces n k w h some within fits =
      let there = h.each (k / 32) (chunk-within pieces n k h (omega arith)) in
      let place : 32 * (k / 32) + k % 32 ≡ k = omega arith in
      let sum : 32 ≡ k % 32 + (32 - k % 32) = omega arith in
      ap (λ (xs : List X). take w (drop (k % 32) xs)) (there
      ∙ ap (λ m. take m (drop (32 * (k / 32)) (joined pieces))) sum)
      ∙ ap (λ (xs : List X). take w xs) (drop-take (k % 32) (32 - k % 32) (drop (32 * (k / 32)) (joined pieces)))
      ∙ take-take w (32 - k % 32) (drop (k % 32) (drop (32 * (k / 32)) (joined pieces))) (omega arith)
      ∙ ap (λ (xs : List X). take w xs) (drop-drop (k % 32) (32 * (k / 32)) (joined pieces)
      ∙ ap (λ m. drop m (joined pieces)) place)

  -- the texts that stand in a chunk, from a position on
  pub chunk-texts : (f : X → List ℕ) (pieces : List (List X)) (n k w : ℕ) → IsChunked pieces n → 0 < w
      → k + w ≤ n → k % 32 + w ≤ 32
      → take w (drop (k % 32) (map f (get_or pieces (k / 32) []))) ≡ take w (drop k (map f (joined pieces)))
  chunk-texts f pieces n k w h some within fits =
      ap (λ (ts : List (List ℕ)). take w ts) (drop-map f (k % 32) (get_or pieces (k / 32) []))
      ∙ take-map f w (drop (k % 32) (get_or pieces (k / 32) []))
      ∙ ap (λ (xs : List X). map f xs) (chunk-part pieces n k w h some within fits)
      ∙ sym (take-map f w (drop k (joined pieces)))
      ∙ ap (λ (ts : List (List ℕ)). take w ts) (sym (drop-map f k (joined pieces)))

  -- fewer items than a chunk has are behind the full chunks
  pub last-short : (items c : List X) → c ≡ drop (32 * (length items / 32)) items → length c < 32
  last-short items c is = let rest = length-drop (32 * (length items / 32)) items in rw is (omega arith)

-- ---- chunks behind owners

module _ {A X : Type 0} (value : A → List X) where
  pub chunk-read : (xs : List A) (n k : ℕ) (a : A) (c : List X) → IsChunked (map value xs) n → k < n
      → a ≡ get_or xs (k / 32) a → c ≡ value a
      → c ≡ get_or (map value xs) (k / 32) []
  chunk-read xs n k a c h within at same =
      let there = chunk-within (map value xs) n k h within in
      let count = length-map xs value in
      same ∙ ap value at ∙ sym (get_or-map value xs (k / 32) a [] (omega arith))

  pub place-within : (xs : List A) (n k : ℕ) → IsChunked (map value xs) n → k < n → k / 32 < length xs
  place-within xs n k h within =
      let there = chunk-within (map value xs) n k h within in
      let count = length-map xs value in omega arith

  pub item-fits : (xs : List A) (items : List X) (n k : ℕ) (a : A) (c : List X) → IsChunked (map value xs) n
      → joined (map value xs) ≡ items → k < length items
      → a ≡ get_or xs (k / 32) a → c ≡ value a → k % 32 < length c
  item-fits xs items n k a c h view within at same =
      let count : length items ≡ n = ap (λ ys. length ys) (sym view) ∙ h.size in
      let here = chunk-read xs n k a c h (omega arith) at same in
      let fits = chunk-length (map value xs) n k 1 h (omega arith) (omega arith) (omega arith) in
      rw here (omega arith)

  pub item-read : (xs : List A) (items : List X) (n k : ℕ) (a : A) (c : List X) (x : X)
      → IsChunked (map value xs) n → joined (map value xs) ≡ items → k < length items
      → a ≡ get_or xs (k / 32) a → c ≡ value a → slice_get c (k % 32) ≡ Some x → slice_get items k ≡ Some x
  item-read xs items n k a c x h view within at same found =
      let count : length items ≡ n = ap (λ ys. length ys) (sym view) ∙ h.size in
      let here = chunk-read xs n k a c h (omega arith) at same in
      rw (← view) (chunk-item (map value xs) n k x h (omega arith) (rw here at found))

  pub part-fits : (xs : List A) (items : List X) (n k w : ℕ) (a : A) (c : List X) → IsChunked (map value xs) n
      → joined (map value xs) ≡ items → 0 < w
      → k + w ≤ length items → k % 32 + w ≤ 32 → a ≡ get_or xs (k / 32) a → c ≡ value a → k % 32 + w ≤ length c
  part-fits xs items n k w a c h view some within fits at same =
      let count : length items ≡ n = ap (λ ys. length ys) (sym view) ∙ h.size in
      let here = chunk-read xs n k a c h (omega arith) at same in
      rw here (chunk-length (map value xs) n k w h some (omega arith) fits)

  pub part-read : (f : X → List ℕ) (xs : List A) (items : List X) (n k w : ℕ) (a : A) (c : List X)
      → IsChunked (map value xs) n → joined (map value xs) ≡ items → 0 < w
      → k + w ≤ length items → k % 32 + w ≤ 32 → a ≡ get_or xs (k / 32) a → c ≡ value a
      → take w (drop (k % 32) (map f c)) ≡ take w (drop k (map f items))
  part-read f xs items n k w a c h view some within fits at same =
      let count : length items ≡ n = ap (λ ys. length ys) (sym view) ∙ h.size in
      let here = chunk-read xs n k a c h (omega arith) at same in
      rw (here, ← view) (chunk-texts f (map value xs) n k w h some (omega arith) fits)

  pub full-pieces : (xs ws : List A) (items : List X) (n : ℕ) → ws ≡ xs → joined (map value xs) ≡ items
      → IsChunked (map value xs) n
      → IsChunked (map value (take (n / 32) ws)) (32 * (length items / 32))
  full-pieces xs ws items n same view h =
      let count : length items ≡ n = ap (λ ys. length ys) (sym view) ∙ h.size in
      rw (same, count, ← take-map value (n / 32) xs) (chunked-full (map value xs) n (n / 32) h refl)

  pub full-joined : (xs ws : List A) (items : List X) (n : ℕ) → ws ≡ xs → joined (map value xs) ≡ items
      → IsChunked (map value xs) n
      → joined (map value (take (n / 32) ws)) ≡ take (32 * (length items / 32)) items
  full-joined xs ws items n same view h =
      let count : length items ≡ n = ap (λ ys. length ys) (sym view) ∙ h.size in
      rw (same, count, ← take-map value (n / 32) xs, ← view) (full-items (map value xs) n (n / 32) h refl)

  -- the chunk of the items behind the full ones, where there are such
  pub last-items : (xs ws : List A) (items : List X) (n : ℕ) (a : A) (c : List X) → ws ≡ xs
      → IsChunked (map value xs) n → joined (map value xs) ≡ items
      → n / 32 < length ws → a ≡ get_or ws (n / 32) a → c ≡ value a → c ≡ drop (32 * (length items / 32)) items
  last-items xs ws items n a c behind h view within is same =
      let count : length items ≡ n = ap (λ ys. length ys) (sym view) ∙ h.size in
      let low : n / 32 < length xs = rw behind at within in
      let len = length-map xs value in
      let there = h.each (n / 32) (omega arith) in
      let rest = length-drop (32 * (length items / 32)) items in
      same ∙ ap value (rw behind at is) ∙ sym (get_or-map value xs (n / 32) a [] low) ∙ there
      ∙ ap (λ (ys : List X). take 32 (drop (32 * (n / 32)) ys)) view
      ∙ ap (λ k. take 32 (drop (32 * (k / 32)) items)) (sym count)
      ∙ take_all 32 (drop (32 * (length items / 32)) items) (omega arith)

  -- the full chunks, and behind them the last one with an item more
  pub hist-more : (fs ys zs : List A) (a : A) (items last : List X) (x : X) (m : ℕ) → map value ys ≡ map value fs
      → zs ≡ ys ++ a ∷ [] → value a ≡ last
      → last ≡ drop (32 * (length items / 32)) items ++ x ∷ [] → IsChunked (map value fs) (32 * (length items / 32))
      → joined (map value fs) ≡ take (32 * (length items / 32)) items → m ≡ length items + 1
      → IsChunked (map value zs) m
  hist-more fs ys zs a items last x m shared pushed is_last back h front count =
      rw (values-more value fs ys zs a shared pushed, is_last, count)
      (chunked-more (map value fs) items last x (length items) (length items / 32) h front back refl refl)

  pub hist-items : (fs ys zs : List A) (a : A) (items last : List X) (x : X) → map value ys ≡ map value fs
      → zs ≡ ys ++ a ∷ [] → value a ≡ last
      → last ≡ drop (32 * (length items / 32)) items ++ x ∷ []
      → joined (map value fs) ≡ take (32 * (length items / 32)) items
      → joined (map value zs) ≡ items ++ x ∷ []
  hist-items fs ys zs a items last x shared pushed is_last back front =
      rw (values-more value fs ys zs a shared pushed, is_last) (joined-more (map value fs) items last x (length
      items / 32) front back)

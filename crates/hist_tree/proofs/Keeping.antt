-- The digests that a chunk keeps, when an item comes behind its last one.
use Rattle.std.proofs.Common.{◌≡◌, ℕ, zero, suc, ◌+◌, ◌-◌, ◌*◌, ◌%◌, ◌^◌, ◌<◌, ◌≤◌, List, [], ◌∷◌, ◌++◌, length, take, drop, get_or, Some, refl, ap, sym, ◌∙◌, inl, inr, arith}
use Rattle.std.specs.List.{AllZip, slice_get}
use Rattle.std.specs.Option.{option_map}
use Rattle.std.specs.Prelude.{map}
use Rattle.std.proofs.lemmas.Bool.{cases_lt}
use Rattle.std.proofs.lemmas.List.{drop-append-le, drop-drop, get_or_append_left, get_or_push, length-drop, length-map, length_push, map_push, take-append-le, take_all}
use Rattle.std.proofs.lemmas.Nat.{pow_pos}
use Rattle.std.proofs.Math.Nat.{pow-suc}
use Rattle.fr_digest.specs.Digest.{Digest}
use Rattle.tree_model.proofs.HistoryLaws.{part-leaf, part-pair}
use Rattle.tree_model.specs.History.{leaf_string, pair_string, part}
use Rattle.hist_tree.specs.Chunks.{Ends, Keeps}
use Rattle.std.proofs.lemmas.Option.{get_or_from_slice_get, slice_get-map, slice_get_read, slice_get_within}
use Rattle.hist_tree.proofs.Places.{aligned-before, aligned-end, aligned-low, level-fits, multiple-le}

-- the last 2^level texts
abbrev pub last_texts : ℕ → List (List ℕ) → List (List ℕ)
last_texts level texts = drop (length texts - 2 ^ level) texts

-- A list of digests has, at the heights up to this one, those of the whole subtrees that end with the last text.
pub record EndsTo (d : Digest) (texts tops : List (List ℕ)) (level : ℕ) : Type 0 where
  pub count : length tops ≡ level + 1
  pub each : (l : ℕ) → l ≤ level → slice_get tops l ≡ Some (part d l (last_texts l texts))

slice_get-left : (xs : List (List ℕ)) (y : List ℕ) (l : ℕ) → l < length xs
    → slice_get (xs ++ y ∷ []) l ≡ slice_get xs l
slice_get-left [] y l less = absurd (omega arith)
slice_get-left (x ∷ xs) y zero less = refl
slice_get-left (x ∷ xs) y (suc l) less = slice_get-left xs y l (omega arith)

slice_get-last : (xs : List (List ℕ)) (y : List ℕ) (l : ℕ) → length xs ≡ l → slice_get (xs ++ y ∷ []) l ≡ Some y
slice_get-last [] y zero same = refl
slice_get-last [] y (suc l) same = absurd (omega arith)
slice_get-last (x ∷ xs) y zero same = absurd (omega arith)
slice_get-last (x ∷ xs) y (suc l) same = slice_get-last xs y l (omega arith)

rest : (xs : List (List ℕ)) (t : List ℕ) → drop (length xs) xs ++ t ∷ [] ≡ t ∷ []
rest [] t = refl
rest (x ∷ xs) t = rest xs t

-- the last text is the end of one leaf
pub ends-leaf : (d : Digest) (texts : List (List ℕ)) (t : List ℕ)
    → part d 0 (last_texts 0 (texts ++ t ∷ [])) ≡ d (leaf_string t)
ends-leaf d texts t =
    let len = length_push texts t in
    let place : length (texts ++ t ∷ []) - 2 ^ 0 ≡ length texts = omega arith in
    ap (λ n. part d 0 (drop n (texts ++ t ∷ []))) place
    ∙ ap (λ (xs : List (List ℕ)). part d 0 xs) (drop-append-le (length texts) texts (t ∷ []) (omega arith)
    ∙ rest texts t)
    ∙ part-leaf d t

first : (d : Digest) (texts : List (List ℕ)) (t x : List ℕ) → x ≡ d (leaf_string t) → (l : ℕ) → l ≤ 0
    → slice_get (x ∷ []) l ≡ Some (part d l (last_texts l (texts ++ t ∷ [])))
first d texts t x leaf zero low = ap (λ (y : List ℕ). Some y) (leaf ∙ sym (ends-leaf d texts t))
first d texts t x leaf (suc l) low = absurd (omega arith)

pub ends-first : (d : Digest) (texts : List (List ℕ)) (t x : List ℕ) → x ≡ d (leaf_string t)
    → EndsTo d (texts ++ t ∷ []) (x ∷ []) 0
ends-first d texts t x leaf = record {
  count = omega arith;
  each = λ l low. first d texts t x leaf l low;
}

double_power : (level : ℕ) → 2 ^ (level + 1) ≡ 2 * 2 ^ level
double_power level = let next : level + 1 ≡ suc level = omega arith in let twice = pow-suc 2 level in rw next
    (omega arith)

at_next : (d : Digest) (level : ℕ) (X : List (List ℕ)) → 2 ^ level < length X
    → part d (level + 1) X ≡ d (pair_string (part d level (take (2 ^ level) X)) (part d level (drop (2 ^ level) X)))
at_next d level X more = let next : level + 1 ≡ suc level = omega arith in rw next (part-pair d level X more)

-- twice as many texts: the left half is of older texts, and the right half ends with the last one
pub ends-double : (d : Digest) (texts : List (List ℕ)) (t : List ℕ) (level : ℕ) → 2 * 2 ^ level ≤ length texts + 1
    → part d (level + 1) (last_texts (level + 1) (texts ++ t ∷ []))
    ≡ d (pair_string (part d level (take (2 ^ level) (drop (length texts + 1 - 2 * 2 ^ level) texts))) (part d
    level (last_texts level (texts ++ t ∷ []))))
ends-double d texts t level within =
    let len = length_push texts t in
    let double : 2 ^ (level + 1) ≡ 2 * 2 ^ level = double_power level in
    let positive = pow_pos level in
    let start : length (texts ++ t ∷ []) - 2 ^ (level + 1) ≡ length texts + 1 - 2 * 2 ^ level = omega arith in
    let X = drop (length texts + 1 - 2 * 2 ^ level) (texts ++ t ∷ []) in
    let size : length X ≡ 2 * 2 ^ level = length-drop (length texts + 1 - 2 * 2 ^ level) (texts ++ t ∷ [])
    ∙ omega arith in
    let left : take (2 ^ level) X ≡ take (2 ^ level) (drop (length texts + 1 - 2 * 2 ^ level) texts) =
    ap (λ (xs : List (List ℕ)). take (2 ^ level) xs) (drop-append-le (length texts + 1 - 2 * 2 ^ level) texts (t ∷
    []) (omega arith))
    ∙ take-append-le (2 ^ level) (drop (length texts + 1 - 2 * 2 ^ level) texts) (t ∷ []) (let here = length-drop
    (length texts + 1 - 2 * 2 ^ level) texts in omega arith) in
    let end : length texts + 1 - 2 * 2 ^ level + 2 ^ level ≡ length (texts ++ t ∷ []) - 2 ^ level = omega arith in
    let right : drop (2 ^ level) X ≡ last_texts level (texts ++ t ∷ []) =
    drop-drop (2 ^ level) (length texts + 1 - 2 * 2 ^ level) (texts ++ t ∷ [])
    ∙ ap (λ n. drop n (texts ++ t ∷ [])) end in
    ap (λ n. part d (level + 1) (drop n (texts ++ t ∷ []))) start
    ∙ at_next d level X (omega arith)
    ∙ ap (λ (xs : List (List ℕ)). d (pair_string (part d level xs) (part d level (drop (2 ^ level) X)))) left
    ∙ ap (λ (xs : List (List ℕ)). d (pair_string (part d level (take (2 ^ level) (drop (length texts + 1 - 2 * 2 ^
    level) texts))) (part d level xs))) right

pub ends-more : (d : Digest) (texts tops : List (List ℕ)) (x : List ℕ) (level : ℕ) → EndsTo d texts tops level
    → x ≡ part d (level + 1) (last_texts (level + 1) texts) → EndsTo d texts (tops ++ x ∷ []) (level + 1)
ends-more d texts tops x level h top = record {
  count = length_push tops x ∙ ap (λ n. n + 1) h.count;
  each = λ l low.
      let count = h.count in
      elim (cases_lt level l) [
        | inl high ↦
            let same : l ≡ level + 1 = omega arith in
            rw same (slice_get-last tops x (level + 1) count ∙ ap (λ (y : List ℕ). Some y) top)
        | inr here ↦ slice_get-left tops x l (omega arith) ∙ h.each l here
      ];
}

-- past the last height, nothing ends there
pub ends-all : (d : Digest) (texts tops : List (List ℕ)) (level : ℕ) → EndsTo d texts tops level
    → (length texts % (2 * 2 ^ level) ≡ 0 → ⊥) → Ends d texts tops
ends-all d texts tops level h stop = record {
  each = λ l aligned.
      elim (cases_lt level l) [
        | inl high ↦
            let double : 2 ^ (level + 1) ≡ 2 * 2 ^ level = double_power level in
            let there = aligned-low (level + 1) l (length texts) (omega arith) aligned in
            absurd (stop (rw double at there))
        | inr low ↦ h.each l low
      ];
}

-- the digests of the texts with one more
pub keeps-more : (d : Digest) (texts tops : List (List ℕ)) (all : List (List (List ℕ))) (t : List ℕ)
    → length all ≡ length texts
    → length texts < 32 → Keeps d texts all → Ends d (texts ++ t ∷ []) tops
    → Keeps d (texts ++ t ∷ []) (all ++ tops ∷ [])
keeps-more d texts tops all t count few kept ends = record {
  few = let len = length_push texts t in omega arith;
  whole = λ level start aligned within.
      let len = length_push texts t in
      let positive = pow_pos level in
      elim (cases_lt (length texts) (start + 2 ^ level)) [
        | inl last ↦
            let end : start + 2 ^ level ≡ length (texts ++ t ∷ []) = omega arith in
            let place : start + 2 ^ level - 1 ≡ length texts = omega arith in
            let begin : length (texts ++ t ∷ []) - 2 ^ level ≡ start = omega arith in
            let rest = length-drop start (texts ++ t ∷ []) in
            let there : length (texts ++ t ∷ []) % 2 ^ level ≡ 0 = rw (← end) (aligned-end start (2 ^ level)
            aligned) in
            let here : get_or (all ++ tops ∷ []) (start + 2 ^ level - 1) [] ≡ tops = get_or_push all tops [] (start
            + 2 ^ level - 1) (omega arith) in
            let whole : take (2 ^ level) (drop start (texts ++ t ∷ [])) ≡ drop start (texts ++ t ∷ []) = take_all
            (2 ^ level) (drop start (texts ++ t ∷ [])) (omega arith) in
            rw (here, whole, ← begin) (ends.each level there)
        | inr older ↦
            let here : get_or (all ++ tops ∷ []) (start + 2 ^ level - 1) [] ≡ get_or all (start + 2 ^ level - 1)
            [] = get_or_append_left all (tops ∷ []) [] (start + 2 ^ level - 1) (omega arith) in
            let front = drop-append-le start texts (t ∷ []) (omega arith) in
            let same = take-append-le (2 ^ level) (drop start texts) (t ∷ []) (let rest = length-drop start texts
            in omega arith) in
            rw (here, front, same) (kept.whole level start aligned older)
      ];
}

pub keeps-none : (d : Digest) → Keeps d [] []
keeps-none d = record {
  few = omega arith;
  whole = λ level start aligned within. let positive = pow_pos level in absurd (omega arith);
}

-- ---- the digests that a further item ends

-- Digests up to a height are found, of which the last is of `width` texts.
pub record Doubling (d : Digest) (texts : List (List ℕ)) (t : List ℕ) (count level width : ℕ) (top : List ℕ) (tops
    : List (List ℕ)) : Type 0 where
  pub is_count : count ≡ length texts + 1
  pub is_width : width ≡ 2 ^ level
  pub divides : count % width ≡ 0
  pub ends : EndsTo d (texts ++ t ∷ []) tops level
  pub is_top : top ≡ part d level (last_texts level (texts ++ t ∷ []))

pub doubling-first : (d : Digest) (texts : List (List ℕ)) (t : List ℕ) (count : ℕ) (top : List ℕ) (tops : List
    (List ℕ)) → count ≡ length texts + 1
    → top ≡ d (leaf_string t) → tops ≡ top ∷ [] → Doubling d texts t count 0 1 top tops
doubling-first d texts t count top tops is_count leaf one = record {
  is_count = is_count;
  is_width = refl;
  divides = omega arith;
  ends = rw one (ends-first d texts t top leaf);
  is_top = leaf ∙ sym (ends-leaf d texts t);
}

pub width-fits : (d : Digest) (texts : List (List ℕ)) (t : List ℕ) (count level width : ℕ) (top : List ℕ) (tops :
    List (List ℕ))
    → Doubling d texts t count level width top tops → width ≤ count
width-fits d texts t count level width top tops h =
    let is_count = h.is_count in multiple-le count width (omega arith) h.divides

pub level-low : (d : Digest) (texts : List (List ℕ)) (t : List ℕ) (count level width : ℕ) (top : List ℕ) (tops :
    List (List ℕ))
    → Doubling d texts t count level width top tops → length texts < 32 → level ≤ 5
level-low d texts t count level width top tops h few =
    let is_count = h.is_count in
    let is_width = h.is_width in
    let within = width-fits d texts t count level width top tops h in level-fits level (omega arith)

pub twice-fits : (count width : ℕ) → 0 < count → count % (2 * width) ≡ 0 → 2 * width ≤ count
twice-fits count width some h = multiple-le count (2 * width) some h

-- where the left sibling of the last subtree begins
pub left-place : (d : Digest) (texts : List (List ℕ)) (t : List ℕ) (count level width : ℕ) (top : List ℕ) (tops :
    List (List ℕ))
    → Doubling d texts t count level width top tops → count % (2 * width) ≡ 0 → (count - 2 * width) % 2 ^ level ≡ 0
left-place d texts t count level width top tops h more =
    let is_count = h.is_count in
    let is_width = h.is_width in
    let within = twice-fits count width (omega arith) more in
    let low : width ≤ count = omega arith in
    let back : (count - width - width) % width ≡ 0 =
    aligned-before (count - width) width (omega arith) (aligned-before count width low h.divides) in
    let same : count - width - width ≡ count - 2 * width = omega arith in
    rw (← is_width) (rw same at back)

pub doubling-more : (d : Digest) (texts : List (List ℕ)) (t : List ℕ) (count level width : ℕ) (top left next : List
    ℕ) (tops : List (List ℕ))
    → Doubling d texts t count level width top tops → count % (2 * width) ≡ 0
    → left ≡ part d level (take (2 ^ level) (drop (count - 2 * width) texts)) → next ≡ d (pair_string left top)
    → Doubling d texts t count (level + 1) (width * 2) next (tops ++ next ∷ [])
doubling-more d texts t count level width top left next tops h more is_left is_next =
    let is_count = h.is_count in
    let is_width = h.is_width in
    let is_top = h.is_top in
    let within = twice-fits count width (omega arith) more in
    let place : count - 2 * width ≡ length texts + 1 - 2 * 2 ^ level = omega arith in
    let there : left ≡ part d level (take (2 ^ level) (drop (length texts + 1 - 2 * 2 ^ level) texts)) = rw (←
    place) is_left in
    let here : next ≡ part d (level + 1) (last_texts (level + 1) (texts ++ t ∷ [])) =
    is_next ∙ ap (λ (x : List ℕ). d (pair_string x top)) there
    ∙ ap (λ (x : List ℕ). d (pair_string (part d level (take (2 ^ level) (drop (length texts + 1 - 2 * 2 ^ level)
    texts))) x)) is_top
    ∙ sym (ends-double d texts t level (omega arith)) in
    let double : 2 ^ (level + 1) ≡ 2 * 2 ^ level = double_power level in
    let turned : width * 2 ≡ 2 * width = omega arith in
    record {
      is_count = is_count;
      is_width = omega arith;
      divides = rw turned more;
      ends = ends-more d (texts ++ t ∷ []) tops next level h.ends here;
      is_top = here;
    }

pub doubling-all : (d : Digest) (texts : List (List ℕ)) (t : List ℕ) (count level width : ℕ) (top : List ℕ) (tops :
    List (List ℕ))
    → Doubling d texts t count level width top tops → (count % (2 * width) ≡ 0 → ⊥) → Ends d (texts ++ t ∷ []) tops
doubling-all d texts t count level width top tops h stop =
    let is_count = h.is_count in
    let is_width = h.is_width in
    let len = length_push texts t in
    ends-all d (texts ++ t ∷ []) tops level h.ends
    (λ more. let here : count % (2 * width) ≡ 0 = rw (is_count, is_width, ← len) more in stop here)

-- ---- what is kept

pub kept-item : {A K T : Type 0} (value : A → K) (item : K → T) (xs : List A) (k : ℕ) (a : A)
    → slice_get xs k ≡ Some a
    → slice_get (map item (map value xs)) k ≡ Some (item (value a))
kept-item value item xs k a at =
    slice_get-map item (map value xs) k ∙ ap (λ o. option_map item o) (slice_get-map value xs k
    ∙ ap (λ o. option_map value o) at)

-- a read item: v is what stands at the place k
pub item-at : {A K T : Type 0} (value : A → K) (item : K → T) (xs : List A) (items : List T) (k : ℕ) (a : A) (v : K)
    → map item (map value xs) ≡ items → k < length items → a ≡ get_or xs k a → v ≡ value a
    → slice_get items k ≡ Some (item v)
item-at value item xs items k a v view within at same =
    let count : length items ≡ length xs = ap (λ ys. length ys) (sym view) ∙ length-map (map value xs) item
    ∙ length-map xs value in
    ap (λ ys. slice_get ys k) (sym view)
    ∙ kept-item value item xs k a (slice_get_read xs (length xs) k a refl (omega arith) at)
    ∙ ap (λ w. Some (item w)) (sym same)

-- a read list of digests: v is what stands at the last place of a whole subtree
pub top-at : {A K T : Type 0} (d : Digest) (text : T → List ℕ) (value : A → K) (item : K → T) (tops : K
    → List (List ℕ)) (xs : List A) (items : List T)
    → (a : A) (v : K) (level start place : ℕ) → map item (map value xs) ≡ items
    → Keeps d (map text (map item (map value xs))) (map tops (map value xs)) → start % 2 ^ level ≡ 0
    → start + 2 ^ level ≤ length items
    → place ≡ start + 2 ^ level - 1 → a ≡ get_or xs place a → v ≡ value a
    → slice_get (tops v) level ≡ Some (part d level (take (2 ^ level) (drop start (map text items))))
top-at d text value item tops xs items a v level start place view h aligned within is_place at same =
    let positive = pow_pos level in
    let count : length items ≡ length xs = ap (λ ys. length ys) (sym view) ∙ length-map (map value xs) item
    ∙ length-map xs value in
    let texts : length (map text (map item (map value xs))) ≡ length items = ap (λ ys. length (map text ys)) view
    ∙ length-map items text in
    let read = slice_get_read xs (length xs) place a refl (omega arith) at in
    let here = get_or_from_slice_get (map tops (map value xs)) place (tops (value a)) [] (kept-item value tops xs
    place a read) in
    let there = h.whole level start aligned (omega arith) in
    let told : slice_get (get_or (map tops (map value xs)) place []) level ≡ Some (part d level (take (2 ^ level)
    (drop start (map text items)))) =
    ap (λ i. slice_get (get_or (map tops (map value xs)) i []) level) is_place ∙ there
    ∙ ap (λ ys. Some (part d level (take (2 ^ level) (drop start (map text ys))))) view in
    ap (λ w. slice_get (tops w) level) same ∙ ap (λ (ts : List (List ℕ)). slice_get ts level) (sym here) ∙ told

-- its digest at the subtree's height

pub top-within : {A K T : Type 0} (d : Digest) (text : T → List ℕ) (value : A → K) (item : K → T) (tops : K
    → List (List ℕ)) (xs : List A) (items : List T)
    → (a : A) (v : K) (level start place : ℕ) → map item (map value xs) ≡ items
    → Keeps d (map text (map item (map value xs))) (map tops (map value xs)) → start % 2 ^ level ≡ 0
    → start + 2 ^ level ≤ length items
    → place ≡ start + 2 ^ level - 1 → a ≡ get_or xs place a → v ≡ value a → level < length (tops v)
top-within d text value item tops xs items a v level start place view h aligned within is_place at same =
    slice_get_within (tops v) level (part d level (take (2 ^ level) (drop start (map text items))))
    (top-at d text value item tops xs items a v level start place view h aligned within is_place at same)

pub top-read : {A K T : Type 0} (d : Digest) (text : T → List ℕ) (value : A → K) (item : K → T) (tops : K
    → List (List ℕ)) (xs : List A) (items : List T)
    → (a : A) (v : K) (level start place : ℕ) (digest : List ℕ) → map item (map value xs) ≡ items
    → Keeps d (map text (map item (map value xs))) (map tops (map value xs)) → start % 2 ^ level ≡ 0
    → start + 2 ^ level ≤ length items
    → place ≡ start + 2 ^ level - 1 → a ≡ get_or xs place a → v ≡ value a → digest ≡ get_or (tops v) level digest
    → digest ≡ part d level (take (2 ^ level) (drop start (map text items)))
top-read d text value item tops xs items a v level start place digest view h aligned within is_place at same read =
    read
    ∙ get_or_from_slice_get (tops v) level (part d level (take (2 ^ level) (drop start (map text items)))) digest
    (top-at d text value item tops xs items a v level start place view h aligned within is_place at same)

-- one item more, behind items that are shared

pub values-more : {A K : Type 0} (value : A → K) (xs ys zs : List A) (a : A) → map value ys ≡ map value xs
    → zs ≡ ys ++ a ∷ []
    → map value zs ≡ map value xs ++ value a ∷ []
values-more value xs ys zs a shared pushed =
    ap (λ ws. map value ws) pushed ∙ map_push value ys a ∙ ap (λ vs. vs ++ value a ∷ []) shared

pub items-more : {A K T : Type 0} (value : A → K) (item : K
    → T) (xs ys zs : List A) (a : A) (items : List T) (it : T) → map value ys ≡ map value xs
    → zs ≡ ys ++ a ∷ [] → item (value a) ≡ it → map item (map value xs) ≡ items
    → map item (map value zs) ≡ items ++ it ∷ []
items-more value item xs ys zs a items it shared pushed is view =
    ap (λ vs. map item vs) (values-more value xs ys zs a shared pushed) ∙ map_push item (map value xs) (value a)
    ∙ ap (λ ts. ts ++ item (value a) ∷ []) view ∙ ap (λ t. items ++ t ∷ []) is

pub chunk-more : {A K T : Type 0} (d : Digest) (text : T → List ℕ) (value : A → K) (item : K → T) (tops : K
    → List (List ℕ)) (xs ys zs : List A)
    → (a : A) (items : List T) (it : T) (ends : List (List ℕ)) → map value ys ≡ map value xs → zs ≡ ys ++ a ∷ []
    → item (value a) ≡ it → tops (value a) ≡ ends
    → map item (map value xs) ≡ items → Keeps d (map text (map item (map value xs))) (map tops (map value xs))
    → length items < 32
    → Ends d (map text items ++ text it ∷ []) ends
    → Keeps d (map text (map item (map value zs))) (map tops (map value zs))
chunk-more d text value item tops xs ys zs a items it ends shared pushed is_item is_ends view kept few ended =
    let values = values-more value xs ys zs a shared pushed in
    let all = items-more value item xs ys zs a items it shared pushed is_item view in
    let lists : map tops (map value zs) ≡ map tops (map value xs) ++ ends ∷ [] =
    ap (λ vs. map tops vs) values ∙ map_push tops (map value xs) (value a)
    ∙ ap (λ ts. map tops (map value xs) ++ ts ∷ []) is_ends in
    let texts : map text (map item (map value zs)) ≡ map text items ++ text it ∷ [] = ap (λ ts. map text ts) all
    ∙ map_push text items it in
    let count : length (map tops (map value xs)) ≡ length (map text items) =
    length-map (map value xs) tops ∙ length-map xs value ∙ sym (ap (λ ts. length ts) (sym view)
    ∙ length-map (map value xs) item ∙ length-map xs value) ∙ sym (length-map items text) in
    let small : length (map text items) < 32 = let len = length-map items text in omega arith in
    rw (texts, lists) (keeps-more d (map text items) ends (map tops (map value xs)) (text it) count small (rw view
    at kept) ended)

-- the same owners
pub same-values : {A K : Type 0} (value : A → K) (xs ys : List A) → AllZip (λ x y. value y ≡ value x) xs ys
    → map value ys ≡ map value xs
same-values value [] [] h = refl
same-values value [] (y ∷ ys) h = absurd h
same-values value (x ∷ xs) [] h = absurd h
same-values value (x ∷ xs) (y ∷ ys) h = ap (λ v. v ∷ map value ys) h.0
    ∙ ap (λ vs. value x ∷ vs) (same-values value xs ys h.1)

-- as many texts as there are owners
pub length-texts : {A K T : Type 0} (text : T → List ℕ) (value : A → K) (item : K
    → T) (xs : List A) (items : List T) → map item (map value xs) ≡ items
    → length (map text items) ≡ length xs
length-texts text value item xs items view =
    length-map items text ∙ ap (λ ys. length ys) (sym view) ∙ length-map (map value xs) item ∙ length-map xs value

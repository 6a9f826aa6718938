-- Pieces of a text, joined one behind the other.
use Rattle.std.proofs.Common.{add-one, ◌≡◌, ℕ, zero, suc, ◌+◌, ◌<◌, ◌≤◌, true, false, List, [], ◌∷◌, ◌++◌, length, get_or, drop, refl, sym, ap, ◌∙◌, append_assoc, arith}
use Rattle.std.specs.List.{list_all, flat_map}
use Rattle.std.specs.Prelude.{nat_le, Result, Ok, Err, MatchOption, MatchResult}
use Rattle.std.specs.Result.{result_ok}
use denote.Ref.{Bor}
use Rattle.std.specs.Cmp.{first_so, second_so}
use Rattle.std.specs.Str.{IsAscii, IsUtf8}
use Rattle.std.proofs.lemmas.Bool.{leb-true}
use Rattle.std.proofs.lemmas.List.{drop_all, append-nil}
use Rattle.std.proofs.Math.Seq.{drop-cons}
use Rattle.std.proofs.lemmas.Str.{IsUtf8-from_ascii}
use Rattle.script_read.specs.Fields.{is_printable}

-- ---- printable bytes

ascii : (text : List ℕ) → list_all is_printable text ≡ true → IsAscii text
ascii [] h i = omega arith
ascii (b ∷ text) h zero =
    let le : b ≤ 126 = leb-true _ _ (second_so (nat_le 32 b) (nat_le b 126) (first_so (is_printable b)
    (list_all is_printable text) h)) in
    omega arith
ascii (b ∷ text) h (suc i) = ascii text (second_so (is_printable b) (list_all is_printable text) h) i

is_text : (text : List ℕ) → list_all is_printable text ≡ true → IsUtf8 text
is_text text h = IsUtf8-from_ascii text (ascii text h)

-- bytes that may be printed are read as a text
pub words_of : {E : Type 0} (text : List ℕ) (read : Result (Bor (List ℕ)) E) (Q : E → Type 0)
    → list_all is_printable text ≡ true
    → MatchResult read (λ s. (s.now ≡ text) × IsUtf8 text) (λ e. ¬ (IsUtf8 text) × Q e)
    → MatchOption (result_ok read) (list_all is_printable text ≡ false) (λ words. (list_all is_printable text
    ≡ true) × (words.now ≡ text))
words_of text (Ok words) Q h m = (h, m.0)
words_of text (Err e) Q h m = absurd (m.0 (is_text text h))

-- ---- one piece more, behind what is written

pub one_more : (out new total piece rest more : List ℕ) → new ≡ out ++ piece → more ≡ piece ++ rest
    → out ++ more ≡ total → new ++ rest ≡ total
one_more out new total piece rest more e f so_far = rw e (append_assoc out piece rest
    ∙ ap (λ (t : List ℕ). out ++ t) (sym f) ∙ so_far)

pub none_left : (out total rest : List ℕ) → rest ≡ [] → out ++ rest ≡ total → out ≡ total
none_left out total rest e so_far = sym (append-nil out) ∙ ap (λ (t : List ℕ). out ++ t) (sym e) ∙ so_far

-- the element at a place, and those behind it
pub rest_at : {X : Type 0} (xs : List X) (i : ℕ) (x : X) → i < length xs → x ≡ get_or xs i x
    → drop i xs ≡ x ∷ drop (i + 1) xs
rest_at xs i x lt e = drop-cons xs i x lt ∙ rw (← e, add-one) refl

pub pieces_one : {X : Type 0} (piece : X → List ℕ) (i : ℕ) (xs : List X) (x : X) → i < length xs
    → x ≡ get_or xs i x → flat_map piece (drop i xs) ≡ piece x ++ flat_map piece (drop (i + 1) xs)
pieces_one piece i xs x lt e = rw (rest_at xs i x lt e) refl

pub pieces_none : {X : Type 0} (piece : X → List ℕ) (i : ℕ) (xs : List X) → length xs ≤ i
    → flat_map piece (drop i xs) ≡ []
pieces_none piece i xs le = rw (drop_all i xs le) refl

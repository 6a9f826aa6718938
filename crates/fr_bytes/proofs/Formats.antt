-- That reading and spelling agree, for each part that formats are composed of.
use Rattle.std.proofs.Common.{◌≡◌, ℕ, zero, suc, ◌+◌, ◌*◌, ◌^◌, ◌<◌, ◌≤◌, Bool, true, false, cond, ltb, List, [], ◌∷◌, ◌++◌, length, take, drop, Option, Some, None, refl, sym, ap, subst, ◌∙◌, append_assoc, arith, inl, inr}
use Rattle.std.specs.List.{flat_map, AllByRecursion}
use Rattle.std.specs.Int.{Width, w16, w32, w64, byte_len, from_be_bytes, to_be_bytes}
use Rattle.std.proofs.lemmas.Bool.{cases_lt, ltb-false, le-ltb}
use Rattle.std.proofs.lemmas.List.{take_at, drop_at, take-append-drop, length-append, length-take, get_or-drop, get_or-take, get_or_past, append-nil}
use Rattle.std.proofs.lemmas.Nat.{be_bytes_2, be_bytes_4, be_bytes_8, from_be_bytes-to_be_bytes_2, from_be_bytes-to_be_bytes_4, from_be_bytes-to_be_bytes_8}
use Rattle.fr_bytes.specs.Bytes.{IsBytes, Text, counted}
use Rattle.fr_bytes.specs.Reading.{◌>>=◌, Reader, byte_at, piece_at, number_at, counted_at, times_at, both_at, as_at, ended, all_of}
use Rattle.fr_bytes.specs.Format.{Format, format, IsExact}
use Rattle.fr_bytes.specs.Parts.{byte, number, piece, counted_bytes, both, times}

-- ---- parts of byte lists are byte lists

pub IsBytes-drop : (n : ℕ) (bytes : List ℕ) → IsBytes bytes → IsBytes (drop n bytes)
IsBytes-drop n bytes h i = rw get_or-drop (h (n + i))

pub IsBytes-take : (n : ℕ) (bytes : List ℕ) → IsBytes bytes → IsBytes (take n bytes)
IsBytes-take n bytes h i =
    elim (cases_lt i n) [
      | inl lt ↦ rw (get_or-take n bytes i 0 lt) (h i)
      | inr le ↦ rw (get_or_past (take n bytes) i 0 (omega (arith, length-take n bytes))) (omega arith)
    ]

-- what stands behind a front
pub IsBytes-rest : (bytes front rest : List ℕ) → bytes ≡ front ++ rest → IsBytes bytes → IsBytes rest
IsBytes-rest bytes front rest parts h = rw (← drop_at front rest (length front) refl, ← parts) (IsBytes-drop (length front) bytes h)

pub IsBytes-front : (bytes front rest : List ℕ) → bytes ≡ front ++ rest → IsBytes bytes → IsBytes front
IsBytes-front bytes front rest parts h = rw (← take_at front rest (length front) refl, ← parts) (IsBytes-take (length front) bytes h)

-- ---- steps that gave a value

pub bind_some : {A B : Type 0} (r : Option A) (next : A → Option B) (y : B) → (r >>= next) ≡ Some y → (x : A) × (r ≡ Some x) × (next x ≡ Some y)
bind_some (Some x) next y e = (x, refl, e)
bind_some None next y e = absurd cc

pub guard_some : {A : Type 0} (b : Bool) (x y : A) → cond b None (Some x) ≡ Some y → (b ≡ false) × (x ≡ y)
guard_some true x y e = absurd cc
guard_some false x y e = (refl, cc)

abbrev just : {A : Type 0} → A → Option A
just x = Some x

pub some_is : {A : Type 0} (x y : A) → just x ≡ just y → x ≡ y
some_is x y e = cc

pub all_ended : {A : Type 0} (read : A × List ℕ) (x : A) → ended read ≡ Some x → read ≡ (x, [])
all_ended (y, []) x e = cc
all_ended (y, b ∷ rest) x e = absurd cc

-- a part, and a part behind it
pub joined : (bytes x rest y last : Text) → bytes ≡ x ++ rest → rest ≡ y ++ last → bytes ≡ (x ++ y) ++ last
joined bytes x rest y last first second = first ∙ ap (λ (t : Text). x ++ t) second ∙ sym (append_assoc x y last)

-- ---- what follows from agreement

-- at most one value is spelled at the front of a text
pub unique : {A : Type 0} (f : Format A) → IsExact f → (x y : A) (a b : Text) → f.fits x → f.fits y
    → f.text x ++ a ≡ f.text y ++ b → (x ≡ y) × (a ≡ b)
unique f exact x y a b fx fy e =
    let two : Some (x, a) ≡ Some (y, b) = sym (exact.again x a fx) ∙ ap f.read e ∙ exact.again y b fy in
    let pair = some_is (x, a) (y, b) two in
    (ap (λ p. p.0) pair, ap (λ p. p.1) pair)

pub all_found : {A : Type 0} (f : Format A) → IsExact f → (bytes : Text) (x : A) → IsBytes bytes
    → all_of f.read bytes ≡ Some x → f.fits x × (bytes ≡ f.text x)
all_found f exact bytes x h e =
    let step = bind_some (f.read bytes) ended x e in
    let last = all_ended step.0 x step.2 in
    let it = exact.found bytes x [] h (step.1 ∙ ap just last) in
    (it.0, it.1 ∙ append-nil (f.text x))

pub all_again : {A : Type 0} (f : Format A) → IsExact f → (x : A) → f.fits x → all_of f.read (f.text x) ≡ Some x
all_again f exact x h =
    let it : f.read (f.text x) ≡ Some (x, []) = ap f.read (sym (append-nil (f.text x))) ∙ exact.again x [] h in
    rw it refl

-- ---- numbers and pieces

-- as many bytes as a width has spell a number below its limit, one to one
pub record IsWide (w : Width) : Type 0 where
  pub len : (n : ℕ) → length (to_be_bytes w n) ≡ byte_len w
  pub back : (bytes : Text) → length bytes ≡ byte_len w → IsBytes bytes → to_be_bytes w (from_be_bytes w bytes) ≡ bytes
  pub again : (n : ℕ) → n < 2 ^ (8 * byte_len w) → from_be_bytes w (to_be_bytes w n) ≡ n
  pub below : (bytes : Text) → IsBytes bytes → from_be_bytes w bytes < 2 ^ (8 * byte_len w)

wide16 : IsWide w16
wide16 = record {
  len = λ n. refl;
  back = λ bytes len fits. be_bytes_2 bytes _ len fits refl;
  again = λ n lt. from_be_bytes-to_be_bytes_2 n lt;
  below = λ bytes fits. omega (arith, fits 0, fits 1);
}

wide32 : IsWide w32
wide32 = record {
  len = λ n. refl;
  back = λ bytes len fits. be_bytes_4 bytes _ len fits refl;
  again = λ n lt. from_be_bytes-to_be_bytes_4 n lt;
  below = λ bytes fits. omega (arith, fits 0, fits 1, fits 2, fits 3);
}

wide64 : IsWide w64
wide64 = record {
  len = λ n. refl;
  back = λ bytes len fits. be_bytes_8 bytes _ len fits refl;
  again = λ n lt. from_be_bytes-to_be_bytes_8 n lt;
  below = λ bytes fits. omega (arith, fits 0, fits 1, fits 2, fits 3, fits 4, fits 5, fits 6, fits 7);
}

number_found : (w : Width) → IsWide w → (bytes : Text) (n : ℕ) (rest : Text) → IsBytes bytes
    → number_at w bytes ≡ Some (n, rest) → (n < 2 ^ (8 * byte_len w)) × (bytes ≡ to_be_bytes w n ++ rest)
number_found w wide bytes n rest fits e =
    let g = guard_some (ltb (length bytes) (byte_len w)) (from_be_bytes w (take (byte_len w) bytes), drop (byte_len w) bytes) (n, rest) e in
    let long : byte_len w ≤ length bytes = ltb-false _ _ g.0 in
    let front = IsBytes-take (byte_len w) bytes fits in
    let n-is : from_be_bytes w (take (byte_len w) bytes) ≡ n = ap (λ (p : ℕ × Text). p.0) g.1 in
    let rest-is : drop (byte_len w) bytes ≡ rest = ap (λ (p : ℕ × Text). p.1) g.1 in
    let text : to_be_bytes w n ≡ take (byte_len w) bytes =
    rw (← n-is) (wide.back (take (byte_len w) bytes) (omega (arith, length-take (byte_len w) bytes)) front) in
    (rw (← n-is) (wide.below (take (byte_len w) bytes) front), rw (text, ← rest-is) (sym (take-append-drop (byte_len w) bytes)))

number_again : (w : Width) → IsWide w → (n : ℕ) (rest : Text) → n < 2 ^ (8 * byte_len w)
    → number_at w (to_be_bytes w n ++ rest) ≡ Some (n, rest)
number_again w wide n rest lt =
    let len = wide.len n in
    let long : ltb (length (to_be_bytes w n ++ rest)) (byte_len w) ≡ false = le-ltb _ _ (omega (arith, length-append (to_be_bytes w n) rest)) in
    rw (long, take_at (to_be_bytes w n) rest (byte_len w) len, drop_at (to_be_bytes w n) rest (byte_len w) len, wide.again n lt) refl

exact_number : (w : Width) → IsWide w → IsExact (number w)
exact_number w wide = record {
  found = λ bytes n rest fits e. number_found w wide bytes n rest fits e;
  again = λ n rest lt. number_again w wide n rest lt;
}

pub exact_u16 : IsExact (number w16)
exact_u16 = exact_number w16 wide16

pub exact_u32 : IsExact (number w32)
exact_u32 = exact_number w32 wide32

pub exact_u64 : IsExact (number w64)
exact_u64 = exact_number w64 wide64

byte_found : (bytes : Text) (x : ℕ) (rest : Text) → IsBytes bytes → byte_at bytes ≡ Some (x, rest) → (x < 256) × (bytes ≡ x ∷ rest)
byte_found [] x rest fits e = absurd cc
byte_found (b ∷ bytes) x rest fits e =
    let pair = some_is (b, bytes) (x, rest) e in
    let b-is : b ≡ x = ap (λ (p : ℕ × Text). p.0) pair in
    let rest-is : bytes ≡ rest = ap (λ (p : ℕ × Text). p.1) pair in
    (rw (← b-is) (fits 0), rw (b-is, rest-is) refl)

pub exact_byte : IsExact byte
exact_byte = record { found = byte_found; again = λ x rest h. refl }

piece_found : (n : ℕ) (bytes x rest : Text) → IsBytes bytes → piece_at n bytes ≡ Some (x, rest)
    → ((length x ≡ n) × IsBytes x) × (bytes ≡ x ++ rest)
piece_found n bytes x rest fits e =
    let g = guard_some (ltb (length bytes) n) (take n bytes, drop n bytes) (x, rest) e in
    let long : n ≤ length bytes = ltb-false _ _ g.0 in
    let x-is : take n bytes ≡ x = ap (λ (p : Text × Text). p.0) g.1 in
    let rest-is : drop n bytes ≡ rest = ap (λ (p : Text × Text). p.1) g.1 in
    let short : (length x ≡ n) × IsBytes x = (rw (← x-is) (omega (arith, length-take n bytes)), rw (← x-is) (IsBytes-take n bytes fits)) in
    (short, rw (← x-is, ← rest-is) (sym (take-append-drop n bytes)))

piece_again : (n : ℕ) (x rest : Text) → (length x ≡ n) × IsBytes x → piece_at n (x ++ rest) ≡ Some (x, rest)
piece_again n x rest h =
    let len = h.0 in
    let long : ltb (length (x ++ rest)) n ≡ false = le-ltb _ _ (omega (arith, length-append x rest)) in
    rw (long, take_at x rest n len, drop_at x rest n len) refl

pub exact_piece : (n : ℕ) → IsExact (piece n)
exact_piece n = record { found = λ bytes x rest fits e. piece_found n bytes x rest fits e; again = λ x rest h. piece_again n x rest h }

-- ---- counted byte lists

counted_found : (bytes x rest : Text) → IsBytes bytes → counted_at bytes ≡ Some (x, rest)
    → ((length x < 2 ^ 32) × IsBytes x) × (bytes ≡ counted x ++ rest)
unfolding counted_at
counted_found bytes x rest fits e =
    let step = bind_some (number_at w32 bytes) (λ n. piece_at n.0 n.1) (x, rest) e in
    let n = step.0 in
    let count = exact_u32.found bytes n.0 n.1 fits step.1 in
    let body = piece_found n.0 n.1 x rest (IsBytes-rest bytes (to_be_bytes w32 n.0) n.1 count.1 fits) step.2 in
    let parts : bytes ≡ to_be_bytes w32 (length x) ++ (x ++ rest) = rw (body.0.0, ← body.1) count.1 in
    ((rw body.0.0 count.0, body.0.1), parts ∙ sym (append_assoc (to_be_bytes w32 (length x)) x rest))

counted_again : (x rest : Text) → (length x < 2 ^ 32) × IsBytes x → counted_at (counted x ++ rest) ≡ Some (x, rest)
unfolding counted_at
counted_again x rest h =
    let count = exact_u32.again (length x) (x ++ rest) h.0 in
    let grouped = append_assoc (to_be_bytes w32 (length x)) x rest in
    ap counted_at grouped ∙ rw (count, piece_again (length x) x rest (refl, h.1)) refl

pub exact_counted : IsExact counted_bytes
exact_counted = record { found = counted_found; again = counted_again }

-- ---- one value after another

module _ {A B : Type 0} (f : Format A) (g : A → Format B) (first : IsExact f) (second : (a : A) → f.fits a → IsExact (g a)) where
  both_found : (bytes : Text) (p : A × B) (rest : Text) → IsBytes bytes → (both f g).read bytes ≡ Some (p, rest)
      → (both f g).fits p × (bytes ≡ (both f g).text p ++ rest)
  both_found bytes p rest h e =
      let one = bind_some (f.read bytes) (λ x. (g x.0).read x.1 >>= λ y. Some ((x.0, y.0), y.1)) (p, rest) e in
      let a = one.0.0 in
      let two = bind_some ((g a).read one.0.1) (λ y. Some ((a, y.0), y.1)) (p, rest) one.2 in
      let b = two.0.0 in
      let f1 = first.found bytes a one.0.1 h one.1 in
      let f2 = (second a f1.0).found one.0.1 b two.0.1 (IsBytes-rest bytes (f.text a) one.0.1 f1.1 h) two.1 in
      let parts : bytes ≡ (f.text a ++ (g a).text b) ++ two.0.1 =
      joined bytes (f.text a) one.0.1 ((g a).text b) two.0.1 f1.1 f2.1 in
      let made = some_is ((a, b), two.0.1) (p, rest) two.2 in
      subst (λ (x : (A × B) × Text). (both f g).fits x.0 × (bytes ≡ (both f g).text x.0 ++ x.1)) made ((f1.0, f2.0), parts)

  both_again : (p : A × B) (rest : Text) → (both f g).fits p → (both f g).read ((both f g).text p ++ rest) ≡ Some (p, rest)
  both_again p rest h =
      let grouped = append_assoc (f.text p.0) ((g p.0).text p.1) rest in
      let one = first.again p.0 ((g p.0).text p.1 ++ rest) h.0 in
      let two = (second p.0 h.0).again p.1 rest h.1 in
      ap (both f g).read grouped ∙ rw (one, two) refl

  -- A value, and a second one whose format may depend on the first.
  pub exact_both : IsExact (both f g)
  exact_both = record { found = both_found; again = both_again }

-- ---- lists

module _ {A : Type 0} (f : Format A) (exact : IsExact f) where
  times_found : (n : ℕ) (bytes : Text) (xs : List A) (rest : Text) → IsBytes bytes → times_at f.read n bytes ≡ Some (xs, rest)
      → ((length xs ≡ n) × AllByRecursion f.fits xs) × (bytes ≡ flat_map f.text xs ++ rest)
  unfolding times_at
  times_found zero bytes xs rest h e =
      subst (λ (p : List A × Text). ((length p.0 ≡ 0) × AllByRecursion f.fits p.0) × (bytes ≡ flat_map f.text p.0 ++ p.1)) (some_is ([], bytes) (xs, rest) e) ((refl, tt), refl)
  times_found (suc n) bytes xs rest h e =
      let one = bind_some (f.read bytes) (λ first. times_at f.read n first.1 >>= λ others. Some (first.0 ∷ others.0, others.1)) (xs, rest) e in
      let more = bind_some (times_at f.read n one.0.1) (λ others. Some (one.0.0 ∷ others.0, others.1)) (xs, rest) one.2 in
      let first = exact.found bytes one.0.0 one.0.1 h one.1 in
      let others = times_found n one.0.1 more.0.0 more.0.1 (IsBytes-rest bytes (f.text one.0.0) one.0.1 first.1 h) more.1 in
      let parts : bytes ≡ flat_map f.text (one.0.0 ∷ more.0.0) ++ more.0.1 =
      joined bytes (f.text one.0.0) one.0.1 (flat_map f.text more.0.0) more.0.1 first.1 others.1 in
      let whole = some_is (one.0.0 ∷ more.0.0, more.0.1) (xs, rest) more.2 in
      subst (λ (p : List A × Text). ((length p.0 ≡ suc n) × AllByRecursion f.fits p.0) × (bytes ≡ flat_map f.text p.0 ++ p.1)) whole ((ap suc others.0.0, (first.0, others.0.1)), parts)

  times_again : (xs : List A) (rest : Text) → AllByRecursion f.fits xs → times_at f.read (length xs) (flat_map f.text xs ++ rest) ≡ Some (xs, rest)
  unfolding times_at
  times_again [] rest h = refl
  times_again (x ∷ xs) rest h =
      let grouped : flat_map f.text (x ∷ xs) ++ rest ≡ f.text x ++ (flat_map f.text xs ++ rest) = append_assoc (f.text x) (flat_map f.text xs) rest in
      ap (times_at f.read (suc (length xs))) grouped ∙ rw (exact.again x (flat_map f.text xs ++ rest) h.0, times_again xs rest h.1) refl

  -- n values, one after the other
  pub exact_times : (n : ℕ) → IsExact (times n f)
  exact_times n = record {
    found = λ bytes xs rest h e. times_found n bytes xs rest h e;
    again = λ xs rest h. subst (λ (m : ℕ). times_at f.read m (flat_map f.text xs ++ rest) ≡ Some (xs, rest)) h.0 (times_again xs rest h.1);
  }

-- ---- the same format for another type

-- Where each value of A that is in range stands for one of B that is spelled alike, and each of B comes from one.
pub exact_as : {A B : Type 0} (f : Format A) (fits : B → Type 0) (text : B → Text) (to : A → B) → IsExact f
    → ((a : A) → f.fits a → fits (to a) × (text (to a) ≡ f.text a)) → ((b : B) → fits b → (a : A) × f.fits a × (to a ≡ b))
    → IsExact (format fits text (as_at to f.read))
exact_as {A = A} {B = B} f fits text to exact there back = record {
  found = λ bytes b rest h e.
      let one = bind_some (f.read bytes) (λ x. Some (to x.0, x.1)) (b, rest) e in
      let it = exact.found bytes one.0.0 one.0.1 h one.1 in
      let good = there one.0.0 it.0 in
      let parts : bytes ≡ text (to one.0.0) ++ one.0.1 = rw (good.1) it.1 in
      subst (λ (x : B × Text). fits x.0 × (bytes ≡ text x.0 ++ x.1)) (some_is (to one.0.0, one.0.1) (b, rest) one.2) (good.0, parts);
  again = λ b rest h.
      let from = back b h in
      let a : A = from.0 in
      let spelled : text b ≡ f.text a = ap text (sym from.2) ∙ (there a from.1).1 in
      let one : as_at to f.read (f.text a ++ rest) ≡ Some (to a, rest) = rw (exact.again a rest from.1) refl in
      ap (λ (t : Text). as_at to f.read (t ++ rest)) spelled ∙ one ∙ ap (λ (x : B). Some (x, rest)) from.2;
}

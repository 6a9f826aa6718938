-- That reading and spelling agree, for parts that formats share; and reading a list value after value,
-- as a loop does.
use Rattle.std.proofs.Common.{◌≡◌, ℕ, suc, ◌+◌, ◌-◌, ◌*◌, ◌^◌, ◌<◌, ◌≤◌, Bool, true, false, not, cond, ltb, eqb, ◌||◌, inl, inr, List, [], ◌∷◌, ◌++◌, length, Option, Some, None, Err, refl, sym, ap, subst, ◌∙◌, append_assoc, arith}
use Rattle.std.specs.List.{flat_map, AllByRecursion}
use Rattle.std.specs.Int.{Width, byte_len, to_be_bytes}
use Rattle.std.proofs.lemmas.Bool.{ltb-false, le-ltb, eqb-true, eqb-false}
use Rattle.std.proofs.lemmas.List.{append-nil}
use Rattle.fr_bytes.specs.declared.refusals.ReadRefusal.{ReadRefusal}
use Rattle.fr_bytes.specs.declared.refusals.ReadRefusal.TheVariants as refusals
use Rattle.fr_bytes.specs.Bytes.{Text, counted}
use Rattle.fr_bytes.specs.Reading.{◌>>=◌, Reader, byte_at, number_at, counted_at, times_at, Gives}
use Rattle.fr_bytes.specs.Format.{Format, format, IsExact}
use Rattle.fr_bytes.specs.Parts.{IsWithin, IsLimited, is_outside, is_longer, guarded_at, byte_within_at, number_within_at, limited_at, byte_that_at, tagged_at, one_of, HasTag, AllCasesExact, optional_at, byte, number, counted_bytes, byte_within, number_within, limited, byte_that, times, optional, listed}
use Rattle.fr_bytes.proofs.Formats.{IsBytes-rest, bind_some, guard_some, some_is, exact_byte, exact_counted, exact_times}

-- ---- a value after value

-- what was read before, and what is still read
abbrev pub with_front : {A : Type 0} → List A → Option (List A × Text) → Option (List A × Text)
with_front front read = read >>= λ x. Some (front ++ x.0, x.1)

regroup : {A : Type 0} (front : List A) (x : A) (read : Option (List A × Text)) → with_front front (read >>= λ others. Some (x ∷ others.0, others.1)) ≡ with_front (front ++ x ∷ []) read
regroup {A = A} front x (Some others) = ap (λ (xs : List A). Some (xs, others.1)) (simp append_assoc)
regroup front x None = refl

pub times-goes_on : {A : Type 0} (one : Reader A) (front : List A) (count i : ℕ) (bytes : Text) (x : A) (after : Text) (total : Option (List A × Text)) → i < count → one bytes ≡ Some (x, after)
    → with_front front (times_at one (count - i) bytes) ≡ total → with_front (front ++ x ∷ []) (times_at one (count - (i + 1)) after) ≡ total
unfolding times_at
times-goes_on one front count i bytes x after total lt read so_far =
    let k : count - i ≡ suc (count - (i + 1)) = omega arith in
    let step : with_front front (times_at one (count - i) bytes) ≡ with_front (front ++ x ∷ []) (times_at one (count - (i + 1)) after) = rw (k, read) (regroup front x (times_at one (count - (i + 1)) after)) in
    sym step ∙ so_far

-- a reader that gives no value ends the whole reading
pub times-ends : {A X Z : Type 0} (one : Reader A) (view : X → A) (views : Z → List A) (e : ReadRefusal) (front : List A) (count i : ℕ) (bytes after last : Text) (total : Option (List A × Text)) → i < count
    → Gives view (Err e) after (one bytes) → with_front front (times_at one (count - i) bytes) ≡ total → Gives views (Err e) last total
unfolding times_at
times-ends one view views refusals.NoMemory front count i bytes after last total lt read so_far = tt
times-ends one view views refusals.NotForm front count i bytes after last total lt read so_far =
    let k : count - i ≡ suc (count - (i + 1)) = omega arith in
    let none : with_front front (times_at one (count - i) bytes) ≡ None = rw (k, read) refl in
    sym so_far ∙ none

pub times-is_done : {A : Type 0} (one : Reader A) (front : List A) (count i : ℕ) (bytes : Text) (total : Option (List A × Text)) → count ≤ i
    → with_front front (times_at one (count - i) bytes) ≡ total → total ≡ Some (front, bytes)
unfolding times_at
times-is_done {A = A} one front count i bytes total le so_far =
    let k : count - i ≡ 0 = omega arith in
    let done : with_front front (times_at one (count - i) bytes) ≡ Some (front, bytes) = rw k (ap (λ (xs : List A). Some (xs, bytes)) (append-nil front)) in
    sym so_far ∙ done

-- ---- a field, and the others behind it

-- Where b is spelled by its part and then by the others, which may depend on the part.
pub exact_field : {A B : Type 0} (f : Format A) (whole : B → Type 0) (part : B → A) (others : B → Text) (next : A → Reader B) → IsExact f
    → ((b : B) → whole b → f.fits (part b)) → ((a : A) → f.fits a → IsExact (format (λ b. whole b × (part b ≡ a)) others (next a)))
    → IsExact (format whole (λ b. f.text (part b) ++ others b) (λ bytes. f.read bytes >>= λ a. next a.0 a.1))
exact_field {B = B} f whole part others next first fitting behind = record {
  found = λ bytes b rest h e.
      let one = bind_some (f.read bytes) (λ a. next a.0 a.1) (b, rest) e in
      let front = first.found bytes one.0.0 one.0.1 h one.1 in
      let back = (behind one.0.0 front.0).found one.0.1 b rest (IsBytes-rest bytes (f.text one.0.0) one.0.1 front.1 h) one.2 in
      let parts : bytes ≡ f.text one.0.0 ++ (others b ++ rest) = front.1 ∙ ap (λ (t : Text). f.text one.0.0 ++ t) back.1 in
      (back.0.0, rw (back.0.1) (parts ∙ sym (append_assoc (f.text one.0.0) (others b) rest)));
  again = λ b rest h.
      let fit = fitting b h in
      let grouped = append_assoc (f.text (part b)) (others b) rest in
      let one = first.again (part b) (others b ++ rest) fit in
      let two = (behind (part b) fit).again b rest (h, refl) in
      ap (λ (bytes : Text). f.read bytes >>= λ a. next a.0 a.1) grouped ∙ rw (one, two) refl;
}

-- what is never read and has no value
pub exact_never : {A : Type 0} (fits : A → Type 0) (text : A → Text) → ((x : A) → fits x → ⊥) → IsExact (format fits text (λ (bytes : Text). None))
exact_never fits text never = record { found = λ bytes x rest h e. absurd cc; again = λ x rest h. absurd (never x h) }

-- the same format, where the same values fit and their texts are told in other words
pub exact_told : {A : Type 0} (f : Format A) (fits : A → Type 0) (text : A → Text) → IsExact f
    → ((x : A) → f.fits x → fits x × (f.text x ≡ text x)) → ((x : A) → fits x → f.fits x) → IsExact (format fits text f.read)
exact_told f fits text exact there back = record {
  found = λ bytes x rest h e.
      let it = exact.found bytes x rest h e in
      let same = there x it.0 in
      (same.0, it.1 ∙ ap (λ t. t ++ rest) same.1);
  again = λ x rest h.
      let fit = back x h in
      ap (λ t. f.read (t ++ rest)) (sym (there x fit).1) ∙ exact.again x rest fit;
}

-- ---- a range

pub exact_guarded : {A : Type 0} (f : Format A) (fits : A → Type 0) (is_outside : A → Bool) → IsExact f
    → ((x : A) → f.fits x → is_outside x ≡ false → fits x) → ((x : A) → fits x → f.fits x × (is_outside x ≡ false))
    → IsExact (format fits f.text (guarded_at is_outside f.read))
exact_guarded {A = A} f fits is_outside exact there back = record {
  found = λ bytes x rest h e.
      let one = bind_some (f.read bytes) (λ a. cond (is_outside a.0) None (Some a)) (x, rest) e in
      let g = guard_some (is_outside one.0.0) one.0 (x, rest) one.2 in
      let it = exact.found bytes one.0.0 one.0.1 h one.1 in
      subst (λ (p : A × Text). fits p.0 × (bytes ≡ f.text p.0 ++ p.1)) g.1 (there one.0.0 it.0 g.0, it.1);
  again = λ x rest h. let it = back x h in rw (exact.again x rest it.0, it.1) refl;
}

outside_false : (low high n : ℕ) → is_outside low high n ≡ false → IsWithin low high n
outside_false low high n e = elim (ltb n low) as (λ b. (ltb n low ≡ b) → (b || ltb high n ≡ false) → IsWithin low high n) [
  | true ↦ λ a h. absurd cc
  | false ↦ λ a h. (ltb-false n low a, ltb-false high n h)
] refl e

within_inside : (low high n : ℕ) → IsWithin low high n → is_outside low high n ≡ false
within_inside low high n h = rw (le-ltb n low h.0, le-ltb high n h.1) refl

-- numbers from low to high
exact_within : (f : Format ℕ) (low high : ℕ) → IsExact f → ((n : ℕ) → n ≤ high → f.fits n)
    → IsExact (format (IsWithin low high) f.text (guarded_at (is_outside low high) f.read))
exact_within f low high exact wide =
    exact_guarded f (IsWithin low high) (is_outside low high) exact (λ n h e. outside_false low high n e) (λ n h. (wide n h.1, within_inside low high n h))

pub exact_byte_within : (low high : ℕ) → high < 256 → IsExact (byte_within low high)
unfolding byte_within_at
exact_byte_within low high lt = exact_within byte low high exact_byte (λ n le. omega arith)

pub exact_number_within : (w : Width) → IsExact (number w) → (low high : ℕ) → high < 2 ^ (8 * byte_len w) → IsExact (number_within w low high)
unfolding number_within_at
exact_number_within w exact low high lt = exact_within (number w) low high exact (λ n le. omega arith)

-- a counted byte list of a limited number
pub exact_limited : (limit : ℕ) → limit < 2 ^ 32 → IsExact (limited limit)
unfolding limited_at
exact_limited limit lt = exact_guarded counted_bytes (IsLimited limit) (is_longer limit) exact_counted
    (λ x h e. (ltb-false limit (length x) e, h.1)) (λ x h. ((omega arith, h.1), le-ltb limit (length x) h.0))

not_false : (b : Bool) → not b ≡ false → b ≡ true
not_false true e = refl
not_false false e = absurd cc

-- one of the bytes that pass a test
pub exact_byte_that : (passes : ℕ → Bool) → IsExact (byte_that passes)
unfolding byte_that_at
exact_byte_that passes = exact_guarded byte (λ n. (n < 256) × (passes n ≡ true)) (λ n. not (passes n)) exact_byte
    (λ n h e. (h, not_false (passes n) e)) (λ n h. (h.0, ap not h.1))

-- ---- a tag with its cases

other_case : {A : Type 0} (case : ℕ × Reader A) (cases : List (ℕ × Reader A)) (tag : ℕ) → eqb case.0 tag ≡ false → HasTag (case ∷ cases) tag → HasTag cases tag
other_case case cases tag differ (inl same) = absurd (eqb-false case.0 tag differ same)
other_case case cases tag differ (inr more) = more

module _ {A : Type 0} (fits : A → Type 0) (tag_of : A → ℕ) (rest : A → Text) where
  -- values of one tag
  abbrev Tagged : ℕ → A → Type 0
  Tagged tag x = fits x × (tag_of x ≡ tag)

  one_case : (case : ℕ × Reader A) (cases : List (ℕ × Reader A)) (tag : ℕ) (b : Bool) → eqb case.0 tag ≡ b
      → IsExact (format (Tagged case.0) rest case.1) → (eqb case.0 tag ≡ false → IsExact (format (Tagged tag) rest (one_of cases tag)))
      → IsExact (format (Tagged tag) rest (λ bytes. cond b (case.1 bytes) (one_of cases tag bytes)))
  one_case case cases tag true e first others =
      subst (λ (t : ℕ). IsExact (format (Tagged t) rest case.1)) (eqb-true case.0 tag e) first
  one_case case cases tag false e first others = others e

  exact_cases : (cases : List (ℕ × Reader A)) (tag : ℕ) → AllCasesExact fits tag_of rest cases → ((x : A) → Tagged tag x → HasTag cases tag)
      → IsExact (format (Tagged tag) rest (one_of cases tag))
  exact_cases [] tag each covered = exact_never (Tagged tag) rest covered
  exact_cases (case ∷ cases) tag each covered =
      one_case case cases tag (eqb case.0 tag) refl each.0
      (λ differ. exact_cases cases tag each.1 (λ x h. other_case case cases tag differ (covered x h)))

  -- Where each value has a tag that the table has, and each case reads exactly the values of its tag.
  pub exact_tagged : (cases : List (ℕ × Reader A)) → ((x : A) → tag_of x < 256) → AllCasesExact fits tag_of rest cases → ((x : A) → HasTag cases (tag_of x))
      → IsExact (format fits (λ x. tag_of x ∷ rest x) (tagged_at (one_of cases)))
  exact_tagged cases below each covered =
      exact_field byte fits tag_of rest (one_of cases) exact_byte (λ x h. below x)
      (λ tag h. exact_cases cases tag each (λ x h'. subst (HasTag cases) h'.1 (covered x)))

-- ---- an optional part

pub exact_optional : {A : Type 0} (is_there : Bool) (absent : A) (f : Format A) → IsExact f → IsExact (optional is_there absent f)
exact_optional true absent f exact = record { found = λ bytes x rest h e. exact.found bytes x rest h e; again = λ x rest h. exact.again x rest h }
exact_optional {A = A} false absent f exact = record {
  found = λ bytes x rest h e. subst (λ (p : A × Text). (p.0 ≡ absent) × (bytes ≡ p.1)) (some_is (absent, bytes) (x, rest) e) (refl, refl);
  again = λ x rest h. rw h refl;
}

-- ---- a list behind its length

pub exact_listed : {A : Type 0} (count : Format ℕ) (f : Format A) → IsExact count → IsExact f → IsExact (listed count f)
exact_listed {A = A} count f number_exact each =
    let whole : List A → Type 0 = λ xs. count.fits (length xs) × AllByRecursion f.fits xs in
    exact_field count whole length (flat_map f.text) (λ n. times_at f.read n) number_exact (λ xs h. h.0)
    (λ n h. exact_told (times n f) (λ xs. whole xs × (length xs ≡ n)) (flat_map f.text) (exact_times f each n)
    (λ xs h'. (((rw (h'.0) h, h'.1), h'.0), refl)) (λ xs h'. (h'.1, h'.0.1)))

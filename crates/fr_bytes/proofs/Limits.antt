-- Bytes of a limited number: the parts of formats, and what they make up.
use Rattle.std.proofs.Common.{ℕ, zero, suc, ◌+◌, ◌<◌, ◌≤◌, Bool, true, false, List, [], ◌∷◌, ◌++◌, length, arith}
use Rattle.std.specs.Int.{w32, w64, byte_at, bytes_high_first, to_be_bytes}
use Rattle.std.proofs.lemmas.List.{length-append}
use Rattle.fr_bytes.specs.Bytes.{IsBytes, counted}
use Rattle.fr_bytes.specs.Parts.{IsLimited, fit_optional, spelled_optional}

bytes-one : (b : ℕ) (x : List ℕ) → b < 256 → IsBytes x → IsBytes (b ∷ x)
bytes-one b x lt h zero = lt
bytes-one b x lt h (suc i) = h i

bytes-joined : (x y : List ℕ) → IsBytes x → IsBytes y → IsBytes (x ++ y)
bytes-joined [] y hx hy = hy
bytes-joined (b ∷ x) y hx hy = bytes-one b (x ++ y) (hx 0) (bytes-joined x y (λ i. hx (suc i)) hy)

no_byte : IsBytes []
no_byte i = omega arith

pub limited_none : (limit : ℕ) → IsLimited limit []
limited_none limit = (omega arith, no_byte)

pub limited_one : (limit b : ℕ) (x : List ℕ) → b < 256 → IsLimited limit x → IsLimited (suc limit) (b ∷ x)
limited_one limit b x lt h = (omega (arith, h.0), bytes-one b x lt h.1)

pub limited_joined : (a b : ℕ) (x y : List ℕ) → IsLimited a x → IsLimited b y → IsLimited (a + b) (x ++ y)
limited_joined a b x y hx hy = (omega (arith, length-append x y, hx.0, hy.0), bytes-joined x y hx.1 hy.1)

pub limited_wider : (a b : ℕ) (x : List ℕ) → a ≤ b → IsLimited a x → IsLimited b x
limited_wider a b x le h = (omega (arith, h.0), h.1)

byte-below : (i n : ℕ) → byte_at i n < 256
byte-below zero n = omega arith
byte-below (suc i) n = omega arith

high_first : (k n : ℕ) → IsLimited k (bytes_high_first k n)
high_first zero n = limited_none 0
high_first (suc k) n = limited_one k (byte_at k n) (bytes_high_first k n) (byte-below k n) (high_first k n)

pub limited_number32 : (n : ℕ) → IsLimited 4 (to_be_bytes w32 n)
limited_number32 n = high_first 4 n

pub limited_number64 : (n : ℕ) → IsLimited 8 (to_be_bytes w64 n)
limited_number64 n = high_first 8 n

pub limited_counted : (limit : ℕ) (x : List ℕ) → IsLimited limit x → IsLimited (4 + limit) (counted x)
limited_counted limit x h = limited_joined 4 limit (to_be_bytes w32 (length x)) x (limited_number32 (length x)) h

pub limited_optional : {A : Type 0} (limit : ℕ) (is_there : Bool) (absent : A) (fits : A → Type 0) (spelling : A → List ℕ) → ((x : A) → fits x → IsLimited limit (spelling x)) → (x : A) → fit_optional is_there absent fits x → IsLimited limit (spelled_optional is_there spelling x)
limited_optional limit true absent fits spelling limited x h = limited x h
limited_optional limit false absent fits spelling limited x h = limited_none limit

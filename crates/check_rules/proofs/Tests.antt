-- Tests, and what they decide.
use Rattle.std.proofs.Common.{◌≡◌, ℕ, Bool, true, false, not, ◌&&◌, Option, Some, None, refl, ap, rules}
use Rattle.std.specs.Prelude.{nat_eq, is_none}
use Rattle.std.specs.Str.{bytes_eq}
use Rattle.std.proofs.lemmas.Bool.{eqb-true}
use Rattle.std.proofs.lemmas.Slice.Eq.{bytes_eq-Decides}
use Rattle.fr_bytes.specs.Bytes.{Text}
use Rattle.wall_law.specs.Position.{is_root}

pub not-off : (b : Bool) → not b ≡ false → b ≡ true
not-off true e = refl
not-off false e = absurd cc

pub off-not : (b : Bool) → b ≡ true → not b ≡ false
off-not true e = refl
off-not false e = absurd cc

pub equal-bytes : (xs ys : Text) → bytes_eq xs ys ≡ true → xs ≡ ys
equal-bytes xs ys e = search (rules, bytes_eq-Decides)

pub bytes-equal : (xs ys : Text) → xs ≡ ys → bytes_eq xs ys ≡ true
bytes-equal xs ys e = search (rules, bytes_eq-Decides)

pub equal-numbers : (m n : ℕ) → nat_eq m n ≡ true → m ≡ n
equal-numbers m n e = search (rules, eqb-true)

-- of two tests that aren't both met, the second isn't where the first is
pub second-off : (a b : Bool) → (a && b) ≡ false → a ≡ true → b ≡ false
second-off true b e is = e
second-off false b e is = absurd cc

pub off-both : (a b : Bool) → (a ≡ true → b ≡ false) → (a && b) ≡ false
off-both true b f = f refl
off-both false b f = refl

-- a root that is there
pub root-is : (x : Option Text) (root : Text) → is_root x root ≡ true → x ≡ Some root
root-is None root e = absurd cc
root-is (Some x) root e = ap Some (equal-bytes x root e)

pub is-root : (x : Option Text) (root : Text) → x ≡ Some root → is_root x root ≡ true
is-root None root e = absurd cc
is-root (Some x) root e = bytes-equal x root (let same : x ≡ root = cc in same)

pub some-off : {A : Type 0} (x : Option A) (a : A) → x ≡ Some a → is_none x ≡ false
some-off None a e = absurd cc
some-off (Some x) a e = refl

-- Listed numbers, each of which stands once.
use Rattle.std.proofs.Common.{◌≡◌, ◌≢◌, ◌∙◌, ℕ, zero, suc, ◌+◌, ◌<◌, ◌≤◌, Bool, true, false, cond, List, [], ◌∷◌, ◌++◌, length, get_or, map, refl, sym, ap, subst, inl, inr, eq-eqb, ne_eqb, arith}
use Rattle.std.specs.Prelude.{nat_eq, slice_get, Some}
use Rattle.std.specs.List.{All, AllByRecursion, Contains}
use Rattle.std.proofs.lemmas.Bool.{cases_eq}
use Rattle.world_book.specs.Records.{Rise}
use Rattle.run_phases.specs.Members.{times}
use Rattle.run_phases.proofs.Tallies.{times-here, times-more, times-other}
use Rattle.run_start.specs.Numbers.{Lists}

abbrev AreAbove : ℕ → List ℕ → Type 0
AreAbove m ns = (j n : ℕ) → slice_get ns j ≡ Some n → m < n

rise-behind : (m : ℕ) (ns : List ℕ) → Rise (m ∷ ns) → Rise ns
rise-behind m ns rise i j a b less at there = rise (suc i) (suc j) a b (omega (less, arith)) at there

rise-above : (m : ℕ) (ns : List ℕ) → Rise (m ∷ ns) → AreAbove m ns
rise-above m ns rise j n there = rise 0 (suc j) m n (omega arith) refl there

none-above : (user m : ℕ) (ns : List ℕ) → user ≤ m → AreAbove m ns → times user ns ≡ 0
none-above user m [] le above = refl
none-above user m (n ∷ ns) le above =
    let first : m < n = above 0 n refl in
    let other = times-other user n (λ is. absurd (omega (is, le, first, arith))) in
    let more = times-more user n ns in
    let rest = none-above user m ns le (λ j k at. above (suc j) k at) in
    omega (other, more, rest, arith)

pub once-rising : (user : ℕ) (ns : List ℕ) → Rise ns → times user ns ≤ 1
once-rising user [] rise = omega arith
once-rising user (n ∷ ns) rise =
    let more = times-more user n ns in
    let above = rise-above n ns rise in
    elim (cases_eq n user) [
      | inl is ↦
          let here = times-here user n is in
          let none = none-above user n ns (omega (is, arith)) above in
          omega (more, here, none, arith)
      | inr ne ↦
          let other = times-other user n ne in
          let rest = once-rising user ns (rise-behind n ns rise) in
          omega (more, other, rest, arith)
    ]

times-at : (user : ℕ) (ns : List ℕ) (k d : ℕ) → k < length ns → get_or ns k d ≡ user → 1 ≤ times user ns
times-at user [] k d lt is = absurd (omega (lt, arith))
times-at user (n ∷ ns) zero d lt is =
    let more = times-more user n ns in
    let here = times-here user n is in
    omega (more, here, arith)
times-at user (n ∷ ns) (suc k) d lt is =
    let more = times-more user n ns in
    let rest = times-at user ns k d (omega (lt, arith)) is in
    omega (more, rest, arith)

pub listed-once : (is_listed : ℕ → Bool) (ns : List ℕ) → Lists is_listed ns → (user : ℕ) → is_listed user ≡ true
    → times user ns ≡ 1
listed-once is_listed ns lists user is =
    let c = lists.all user is in
    let most = once-rising user ns lists.rise in
    let least = times-at user ns c.0 user c.1 c.2 in
    omega (most, least, arith)

-- what stands once is listed
pub once-listed : (P : ℕ → Type 0) (ns : List ℕ) → AllByRecursion P ns → (user : ℕ) → times user ns ≡ 1 → P user
once-listed P [] all user one = absurd (omega (one, arith))
once-listed P (n ∷ ns) all user one = elim (cases_eq n user) [
  | inl is ↦ subst P is all.0
  | inr ne ↦
      let more = times-more user n ns in
      let other = times-other user n ne in
      once-listed P ns all.1 user (omega (one, more, other, arith))
]

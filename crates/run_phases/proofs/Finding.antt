-- Where a user's seats stand, and what is left when they are taken away.
use Rattle.std.proofs.Common.{◌≡◌, ◌≢◌, ℕ, zero, suc, ◌+◌, ◌<◌, List, [], ◌∷◌, ◌++◌, length, map, take, drop, refl, sym, ap, arith}
use Rattle.std.specs.Prelude.{slice_index_or}
use Rattle.std.specs.List.{remove}
use Rattle.client_core.specs.Clients.{Standing}
use Rattle.hall_server.specs.declared.seats.Seats.{Seats}
use Rattle.hall_server.specs.Sights.{user_of}
use Rattle.run_phases.specs.Members.{times}
use Rattle.run_phases.specs.Phases.{TakesOut}
use Rattle.run_phases.proofs.Tallies.{times-more, times-other}

-- A user at none of the places isn't there.
pub none-there : {D : Type 0} (user : ℕ) (ss : List (Seats D))
    → ((k : ℕ) (e : Seats D) → k < length ss → user_of (slice_index_or ss k e) ≢ user)
    → times user (map user_of ss) ≡ 0
none-there user [] all = refl
none-there user (s ∷ ss) all =
    let no = times-other user (user_of s) (all zero s (omega arith)) in
    let rest = none-there user ss (λ k e lt. all (suc k) e (omega (lt, arith))) in
    let cut = times-more user (user_of s) (map user_of ss) in
    omega (no, rest, cut, arith)

-- ---- what is left

pub open-at : {A : Type 0} (xs : List A) (i : ℕ) (x : A) → i < length xs → x ≡ slice_index_or xs i x
    → xs ≡ take i xs ++ x ∷ drop (suc i) xs
open-at [] i x lt is = absurd (omega (lt, arith))
open-at {A} (y ∷ xs) zero x lt is = ap (λ (h : A). h ∷ xs) (sym is)
open-at {A} (y ∷ xs) (suc i) x lt is = ap (λ (l : List A). y ∷ l) (open-at xs i x (omega (lt, arith)) is)

even-take : {A B : Type 0} (i : ℕ) (xs : List A) (ys : List B) → length xs ≡ length ys
    → length (take i xs) ≡ length (take i ys)
even-take zero xs ys even = refl
even-take (suc i) [] [] even = refl
even-take (suc i) [] (y ∷ ys) even = absurd (omega (even, arith))
even-take (suc i) (x ∷ xs) [] even = absurd (omega (even, arith))
even-take (suc i) (x ∷ xs) (y ∷ ys) even = ap suc (even-take i xs ys (omega (even, arith)))

pub takes : {D : Type 0} (user : ℕ) (cs cs' : List Standing) (ss ss' : List (Seats D)) (i : ℕ) (c : Standing)
    (s : Seats D) → length cs ≡ length ss → i < length ss → c ≡ slice_index_or cs i c → s ≡ slice_index_or ss i s
    → cs' ≡ remove cs i → ss' ≡ remove ss i → user_of s ≡ user → TakesOut user cs cs' ss ss' c s
takes user cs cs' ss ss' i c s even lt at own left rest is = record {
  front = take i cs;
  back = drop (suc i) cs;
  before = take i ss;
  behind = drop (suc i) ss;
  clients_are = open-at cs i c (omega (even, lt, arith)) at;
  clients_left = left;
  seats_are = open-at ss i s lt own;
  seats_left = rest;
  even = even-take i cs ss even;
  user_is = is;
}

use Rattle.std.proofs.Common.{◌≡◌, ◌<◌, ◌≤◌, ℕ, [], ◌∷◌, ◌++◌, slice_index_or, vec_len, vec_capacity}
use Rattle.gate_users.proofs.closings.last_seats.Given as goal

abbrev pub invariant-loop-i : goal.invariant-loop-i
invariant-loop-i g l = record {
  users : vec_len l.users ≡ vec_len l.initial.users;
  many : vec_len l.seats ≡ l.i;
  room : vec_len l.initial.users ≤ vec_capacity l.seats;
  taken : (j : ℕ) (d : _) (e : _) → j < l.i → (slice_index_or l.initial.users.items j d).seats.items
      ≡ (slice_index_or l.users.items j d).seats.items ++ slice_index_or l.seats.items j e ∷ [];
  left : (j : ℕ) (d : _) → l.i ≤ j → slice_index_or l.users.items j d ≡ slice_index_or l.initial.users.items j d;
}

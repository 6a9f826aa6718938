-- How vouchers are counted: a user at the last of its operations that vouch.
use Rattle.std.specs.Prelude.{ℕ, ◌+◌, Bool, false, not, ◌&&◌, List, [], ◌∷◌, nat_eq}
use Rattle.std.specs.List.{list_any}
use Rattle.vouch_rule.specs.declared.vouch.Vouch.{Vouch}
use Rattle.vouch_rule.specs.Vouching.{covers}

-- a user vouches from position m
abbrev pub is_voucher : ℕ → List Vouch → ℕ → Bool
is_voucher m ops user = list_any (λ (o : Vouch). covers m o && nat_eq user o.author) ops

-- the first operation vouches from position m, and its author has no later one that does
abbrev pub is_last_vouch : ℕ → List Vouch → Bool
is_last_vouch m [] = false
is_last_vouch m (o ∷ ops) = covers m o && not (is_voucher m ops o.author)

-- an operation whose view covers exactly the positions below m: the last one of its author that vouches from m, where
-- the author doesn't vouch from the next position among all of the operations
abbrev pub is_new_vouch : ℕ → List Vouch → List Vouch → Bool
is_new_vouch m all [] = false
is_new_vouch m all (o ∷ ops) = nat_eq o.size m && (is_last_vouch m (o ∷ ops) && not (is_voucher (m + 1) all o.author))

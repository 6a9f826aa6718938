-- How many distinct users there are among authors.
use Rattle.std.proofs.Common.{◌≡◌, ℕ, suc, ◌+◌, ◌<◌, ◌≤◌, Bool, true, false, List, [], ◌∷◌, length, get_or, drop, refl, sym, ◌∙◌, arith}
use Rattle.std.specs.Prelude.{nat_eq}
use Rattle.std.specs.Set.{is_member}
use mir.Val.{bool_byte}
use Rattle.std.proofs.lemmas.List.{at_drop_more}
use Rattle.vouch_rule.specs.declared.vouch.Vouch.{Vouch}
use Rattle.vouch_rule.specs.Vouching.{covers, authors_from, vouchers}
use Rattle.vouch_rule.specs.Counting.{is_voucher, is_last_vouch}

-- one, or none
abbrev pub counted : Bool → ℕ
counted b = bool_byte b

-- a user vouches where it is among the authors
pub voucher-member : (m : ℕ) (ops : List Vouch) (user : ℕ) → is_voucher m ops user ≡ is_member nat_eq (authors_from m ops) user
voucher-member m [] user = refl
voucher-member m (o ∷ ops) user = by (covers m o) refl (voucher-member m ops user)
  where
    by : (b : Bool) → covers m o ≡ b → is_voucher m ops user ≡ is_member nat_eq (authors_from m ops) user
        → is_voucher m (o ∷ ops) user ≡ is_member nat_eq (authors_from m (o ∷ ops)) user
    by true e r = rw (e, r) refl
    by false e r = rw (e, r) refl

-- an operation adds a voucher where it is the last one of its author that vouches
pub vouchers-front : (m : ℕ) (o : Vouch) (ops : List Vouch) → vouchers (o ∷ ops) m ≡ counted (is_last_vouch m (o ∷ ops)) + vouchers ops m
vouchers-front m o ops = by (covers m o) (is_voucher m ops o.author) refl refl (voucher-member m ops o.author)
  where
    by : (b c : Bool) → covers m o ≡ b → is_voucher m ops o.author ≡ c → is_voucher m ops o.author ≡ is_member nat_eq (authors_from m ops) o.author
        → vouchers (o ∷ ops) m ≡ counted (is_last_vouch m (o ∷ ops)) + vouchers ops m
    by true true e f g = rw (e, f, sym g ∙ f) (omega arith)
    by true false e f g = rw (e, f, sym g ∙ f) (omega arith)
    by false c e f g = rw e (omega arith)

pub vouchers-more : (m : ℕ) (ops : List Vouch) (i : ℕ) → i < length ops
    → vouchers (drop i ops) m ≡ counted (is_last_vouch m (drop i ops)) + vouchers (drop (i + 1) ops) m
vouchers-more m ops i h =
    let d : Vouch = record { author = 0; size = 0 } in
    rw (at_drop_more (λ xs. vouchers xs m) ops i d h, at_drop_more (is_last_vouch m) ops i d h) (vouchers-front m (get_or ops i d) (drop (i + 1) ops))

-- there are at most as many as operations
pub vouchers-le : (m : ℕ) (ops : List Vouch) → vouchers ops m ≤ length ops
vouchers-le m [] = omega arith
vouchers-le m (o ∷ ops) =
    let e = vouchers-front m o ops in let r = vouchers-le m ops in
    by (is_last_vouch m (o ∷ ops)) e r
  where
    by : (b : Bool) → vouchers (o ∷ ops) m ≡ counted b + vouchers ops m → vouchers ops m ≤ length ops → vouchers (o ∷ ops) m ≤ suc (length ops)
    by true e r = omega arith
    by false e r = omega arith

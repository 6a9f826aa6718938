use Rattle.std.proofs.Common.{ℕ, ◌<◌, ◌≤◌, List, refl}
use Rattle.std.proofs.lemmas.List.FromFn.{length-map-range_with_len}
use Rattle.lms_params.specs.Parameters.{ots_row}
use Rattle.lms_ots.specs.Digits.{AllAtLeast, digit, digits}
use Rattle.lms_ots.proofs.Rows.{digit_read}
use Rattle.lms_ots.proofs.Dominance.{hash_same}
use Rattle.lms_ots.proofs.law.digits_law.Goals as goal

least : (code w p ls : ℕ) (a b : List ℕ) → AllAtLeast (digits (ots_row code w p ls) a) (digits (ots_row code w p ls) b) →
    (i : ℕ) → i < p → digit (ots_row code w p ls) b i ≤ digit (ots_row code w p ls) a i
unfolding digits
least code w p ls a b h i l =
    let row = ots_row code w p ls in
    let in_list = h i (rw length-map-range_with_len l) in
    rw (digit_read row a (digits row a) i refl l, digit_read row b (digits row b) i refl l) at in_list

pub returns : goal.returns
returns g c = λ h.
    hash_same g.row.CODE g.row.W g.row.P g.row.LS c.requires.row c.args.first.now c.args.second.now
    c.told-first c.told-second c.fits-first c.fits-second
    (least g.row.CODE g.row.W g.row.P g.row.LS c.args.first.now c.args.second.now h)

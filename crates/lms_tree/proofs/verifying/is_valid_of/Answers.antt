use Rattle.std.proofs.Common.{◌≡◌, ◌≢◌, ◌+◌, ◌-◌, ◌*◌, ◌^◌, ◌<◌, ◌≤◌, ◌⊎◌, ℕ, Bool, true, false, List, length, get_or, drop, take, slice_range, arith, Ok, Err, refl, ap, sym, ◌∙◌, inl, inr}
use Rattle.std.specs.Bool.{Decides}
use Rattle.std.proofs.lemmas.Bool.{cases_eq, false≢true}
use Rattle.std.proofs.lemmas.Bool.Decides.{Decides-eqb}
use Rattle.std.proofs.lemmas.List.{take_rest}
use Rattle.std.proofs.lemmas.Slice.Eq.{slice_eq-Decides}
use Rattle.lms_params.specs.Parameters.{ots_row}
use Rattle.lms_ots.specs.Digits.{number_at}
use Rattle.lms_ots.specs.OneTime.{candidate_key}
use Rattle.lms_tree.specs.Valid.{Valid, is_valid, key_by, leaf_node, path_node}
use Rattle.lms_tree.proofs.Decided.{decided, length_part, number_part, top_is, valid_by_top}
use Rattle.lms_tree.proofs.verifying.is_valid_of.Goals as goal

pub returns-then-sig-behind : goal.returns-then-sig-behind
returns-then-sig-behind g c =
    let key = key_by g.row.LMS g.row.H g.row.CODE g.row.W g.row.P g.row.LS c.args.id.now c.args.root.now in
    decided key c.args.message.now c.args.sig.now false
    (λ e. absurd (false≢true e), λ v. absurd (omega (arith, v.long, c.if-sig-behind.true)))

pub returns-then-number_at : goal.returns-then-number_at
returns-then-number_at g c =
    let key = key_by g.row.LMS g.row.H g.row.CODE g.row.W g.row.P g.row.LS c.args.id.now c.args.root.now in
    let place : 8 + 32 * (g.row.P + 1) ≡ 4 + (4 + 32 * (g.row.P + 1)) = omega arith in
    decided key c.args.message.now c.args.sig.now false (
      λ e. absurd (false≢true e),
      λ v. absurd (c.if-number_at.true (c.number_at.ensures ∙ (ap (λ n. number_at c.args.sig.now n) place ∙ v.lms_code))),
    )

pub returns-then-q-leaves_of : goal.returns-then-q-leaves_of
returns-then-q-leaves_of g c =
    let key = key_by g.row.LMS g.row.H g.row.CODE g.row.W g.row.P g.row.LS c.args.id.now c.args.root.now in
    decided key c.args.message.now c.args.sig.now false
    (λ e. absurd (false≢true e), λ v. absurd (omega (arith, v.in_tree, c.number_at-q.ensures, c.leaves_of.ensures, c.if-q-leaves_of.true)))

pub returns-in_default : goal.returns-in_default
returns-in_default g c =
    let key = key_by g.row.LMS g.row.H g.row.CODE g.row.W g.row.P g.row.LS c.args.id.now c.args.root.now in
    let sig = c.args.sig.now in
    let size = 8 + 32 * (g.row.P + 1) - 4 in
    let enough : 4 + size ≤ length sig = omega (arith, c.if-sig-behind.false) in
    let whole : length (take size (drop 4 sig)) ≡ 4 + 32 * (g.row.P + 1) = omega (arith, length_part sig 4 size enough) in
    decided key c.args.message.now sig false (
      λ e. absurd (false≢true e),
      λ v. absurd (c.in_default.not-Ok _ (c.ots_candidate.ensures.key whole (number_part sig 4 size (omega arith) ∙ v.ots_code))),
    )

pub returns : goal.returns
returns g c =
    let key = key_by g.row.LMS g.row.H g.row.CODE g.row.W g.row.P g.row.LS c.args.id.now c.args.root.now in
    let sig = c.args.sig.now in
    let message = c.args.message.now in
    let size = 8 + 32 * (g.row.P + 1) - 4 in
    let enough : 4 + size ≤ length sig = omega (arith, c.if-sig-behind.false) in
    let whole : length (take size (drop 4 sig)) ≡ 4 + 32 * (g.row.P + 1) = omega (arith, length_part sig 4 size enough) in
    let q = c.number_at-q.result in
    let leaf : number_at sig 0 < 2 ^ g.row.H = omega (arith, c.number_at-q.ensures, c.leaves_of.ensures, c.if-q-leaves_of.false) in
    let place : 4 + (4 + 32 * (g.row.P + 1)) ≡ 8 + 32 * (g.row.P + 1) = omega arith in
    let lms : number_at sig (4 + (4 + 32 * (g.row.P + 1))) ≡ g.row.LMS =
    ap (λ n. number_at sig n) place ∙ (sym c.number_at.ensures ∙ c.if-number_at.false) in
    let code : number_at (take size (drop 4 sig)) 0 ≡ g.row.CODE =
    elim (cases_eq (number_at (take size (drop 4 sig)) 0) g.row.CODE) [
      | inl same ↦ same
      | inr differs ↦ absurd (let refused = c.ots_candidate.ensures.code whole differs in let given = c.in-Ok.is in cc)
    ] in
    let ots : number_at sig 4 ≡ g.row.CODE = sym (number_part sig 4 size (omega arith)) ∙ code in
    let candidate : c.in-Ok.candidate ≡ candidate_key (ots_row g.row.CODE g.row.W g.row.P g.row.LS) c.args.id.now q message (take size (drop 4 sig)) =
    (let found = c.ots_candidate.ensures.key whole code in let given = c.in-Ok.is in cc) in
    let behind = drop (8 + 32 * (g.row.P + 1) + 4) sig in
    let count : c.leaves_of.result ≡ 2 ^ g.row.H = c.leaves_of.ensures in
    let top = top_is g.row.LMS g.row.H g.row.CODE g.row.W g.row.P g.row.LS c.args.id.now c.args.root.now message sig
    (take size (drop 4 sig)) c.in-Ok.candidate c.top_of.result q size c.number_at-q.ensures (omega arith) refl candidate
    (rw (take_rest sig (8 + 32 * (g.row.P + 1) + 4)) at c.top_of.ensures) in
    let same : Decides c.eq.result (c.top_of.result ≡ c.args.root.now) = slice_eq-Decides Decides-eqb c.top_of.result c.args.root.now c.eq.result c.eq.ensures in
    decided key message sig c.eq.result (valid_by_top key message sig c.top_of.result c.eq.result top same (omega (arith, c.if-sig-behind.false)) ots lms leaf)

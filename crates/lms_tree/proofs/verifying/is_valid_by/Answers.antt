use Rattle.std.proofs.Common.{◌≡◌, ap, sym, ◌∙◌}
use Rattle.lms_tree.specs.Valid.{Key, Valid, is_valid, key_by}
use Rattle.lms_tree.proofs.Decided.{key_is, valid_decides}
use Rattle.lms_tree.proofs.verifying.is_valid_by.Goals as goal

pub returns-clause-decided : goal.returns-clause-decided
returns-clause-decided g c =
    let key : Key = c.args.key.now in
    let id : c.key.inside.id ≡ key.id = ap (λ (k : Key). k.id) c.key.view_is in
    let root : c.key.inside.root ≡ key.root = ap (λ (k : Key). k.root) c.key.view_is in
    let same = key_is key g.row.LMS g.row.H g.row.CODE g.row.W g.row.P g.row.LS c.key.inside.id c.key.inside.root
    c.requires.lms c.requires.ots id root in
    c.is_valid_of.ensures ∙ ap (λ (k : Key). is_valid k c.args.message.now c.args.sig.now) same

pub returns-clause-valid : goal.returns-clause-valid
returns-clause-valid g c =
    let is : c.is_valid_of.result ≡ is_valid c.args.key.now c.args.message.now c.args.sig.now = returns-clause-decided g c in
    let test = valid_decides c.args.key.now c.args.message.now c.args.sig.now in
    (λ h. test.0 (sym is ∙ h), λ v. is ∙ test.1 v)

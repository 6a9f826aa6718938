use Rattle.std.proofs.Common.{◌∙◌, ◌<◌, length, Some, sym, ap, rules, arith}
use Rattle.tree_model.proofs.AccessLists.{set_digest-dict, set_digest-none}
use Rattle.tree_extract.proofs.dicts.set_digest.Goals as goal

pub returns-then-is_empty : goal.returns-then-is_empty
returns-then-is_empty g c = sym (set_digest-none g.D.Digester.digest_of c.args.entries.now (search rules))

pub returns : goal.returns
returns g c =
    let some : 0 < length c.args.entries.now = search rules in
    ap (λ x. Some x) c.dict_digest.ensures
    ∙ sym (set_digest-dict g.D.Digester.digest_of c.args.entries.now some)

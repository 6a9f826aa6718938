use Rattle.std.proofs.Common.{◌≡◌, ◌∙◌, None, Some, ap, sym}
use Rattle.std.proofs.lemmas.Result.{IfOk-weaker}
use Rattle.dict_proof.specs.View.{list_view}
use Rattle.dict_proof.proofs.Views.{list_view-some}
use Rattle.tree_extract.specs.AccessListDifference.{dict_difference}
use Rattle.tree_extract.specs.NodeString.{found_strings, strings_of}
use Rattle.tree_extract.proofs.AccessListDifferences.{found-collides, found-decides, one_digest}
use Rattle.tree_extract.proofs.dicts.dict_clash.Goals as goal

pub clash_of-requires : goal.clash_of-requires
clash_of-requires g c =
    found-collides g.D.Digester.digest_of (list_view c.args.p.now) c.args.entries.now (strings_of c.in-Some.found)
    (sym c.compare_list.ensures.finds ∙ ap found_strings c.in-Some.is)

pub returns-in-None-clause-none : goal.returns-in-None-clause-none
returns-in-None-clause-none g c =
    let agree =
    one_digest g.D.Digester.digest_of (list_view c.args.p.now) c.args.entries.now c.compare_list.result.a c.compare_list.result.b
    c.requires.some c.compare_list.ensures.part c.compare_list.ensures.set (list_view-some c.args.p.now) c.requires.digests in
    found-decides g.D.Digester.digest_of (list_view c.args.p.now) c.args.entries.now None c.requires.some
    (sym (ap found_strings c.in-None.is) ∙ c.compare_list.ensures.finds)
    (λ none. c.compare_list.ensures.prunes agree (ap found_strings c.in-None.is))

pub returns-in-Some-clause-none : goal.returns-in-Some-clause-none
returns-in-Some-clause-none g c =
    let agree =
    one_digest g.D.Digester.digest_of (list_view c.args.p.now) c.args.entries.now c.compare_list.result.a c.compare_list.result.b
    c.requires.some c.compare_list.ensures.part c.compare_list.ensures.set (list_view-some c.args.p.now) c.requires.digests in
    IfOk-weaker c.clash_of.result _ _
    (λ clash same. found-decides g.D.Digester.digest_of (list_view c.args.p.now) c.args.entries.now clash c.requires.some
    (same ∙ sym (ap found_strings c.in-Some.is) ∙ c.compare_list.ensures.finds)
    (λ none. c.compare_list.ensures.prunes agree (ap found_strings c.in-Some.is ∙ sym same ∙ none)))
    c.clash_of.ensures

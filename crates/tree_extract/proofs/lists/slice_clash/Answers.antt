use Rattle.std.proofs.Common.{◌≡◌, ◌∙◌, None, Some, ap, sym}
use Rattle.std.proofs.lemmas.Result.{IfOk-weaker}
use Rattle.fr_digest.specs.Collision.{Strings}
use Rattle.tree_extract.proofs.Differences.{list_difference-collides, list_difference-decides, list_difference-same}
use Rattle.tree_extract.specs.Difference.{list_difference}
use Rattle.tree_extract.specs.NodeString.{found_strings, strings_of}
use Rattle.tree_extract.proofs.lists.slice_clash.Goals as goal

some_none : (s : Strings) → Some s ≡ None → ⊥
some_none s e = cc

pub returns-then-is_same-clause-value : goal.returns-then-is_same-clause-value
returns-then-is_same-clause-value g c =
    sym (list_difference-same g.D.Digester.digest_of c.args.a.now c.args.b.now (c.is_same.ensures.0 c.if-is_same.true))

pub clash_of-requires : goal.clash_of-requires
clash_of-requires g c =
    let is : list_difference g.D.Digester.digest_of c.args.a.now c.args.b.now ≡ Some (strings_of c.in-Some.found) =
    sym c.first_difference.ensures ∙ ap found_strings c.in-Some.is in
    list_difference-collides g.D.Digester.digest_of c.args.a.now c.args.b.now (strings_of c.in-Some.found) is

pub returns-in-None-clause-none : goal.returns-in-None-clause-none
returns-in-None-clause-none g c =
    let is : list_difference g.D.Digester.digest_of c.args.a.now c.args.b.now ≡ None =
    sym c.first_difference.ensures ∙ ap found_strings c.in-None.is in
    list_difference-decides g.D.Digester.digest_of g.met.D.Digester.has_length c.args.a.now c.args.b.now c.requires.some c.requires.lengths c.requires.roots None (sym is)

pub returns-in-Some-clause-none : goal.returns-in-Some-clause-none
returns-in-Some-clause-none g c =
    let is : list_difference g.D.Digester.digest_of c.args.a.now c.args.b.now ≡ Some (strings_of c.in-Some.found) =
    sym c.first_difference.ensures ∙ ap found_strings c.in-Some.is in
    IfOk-weaker c.clash_of.result _ _
    (λ clash same. list_difference-decides g.D.Digester.digest_of g.met.D.Digester.has_length c.args.a.now c.args.b.now c.requires.some c.requires.lengths c.requires.roots clash (same ∙ sym is))
    c.clash_of.ensures

pub returns-in-Some-clause-equal_take_no_memory : goal.returns-in-Some-clause-equal_take_no_memory
returns-in-Some-clause-equal_take_no_memory g c same =
    let is : list_difference g.D.Digester.digest_of c.args.a.now c.args.b.now ≡ Some (strings_of c.in-Some.found) =
    sym c.first_difference.ensures ∙ ap found_strings c.in-Some.is in
    let nothing : Some (strings_of c.in-Some.found) ≡ None = sym is ∙ list_difference-same g.D.Digester.digest_of c.args.a.now c.args.b.now same in
    absurd (some_none (strings_of c.in-Some.found) nothing)

use Rattle.std.proofs.Common.{◌≡◌, ◌∙◌, None, Some, ap, length, sym, true}
use Rattle.std.proofs.lemmas.Result.{IfOk-weaker}
use Rattle.fr_digest.specs.Collision.{Strings}
use Rattle.hist_proof.specs.Pruned.{fits}
use Rattle.hist_proof.specs.View.{tree_view}
use Rattle.tree_extract.proofs.PrunedDifferences.{history_difference-collides, history_difference-decides, history_difference-prunes}
use Rattle.tree_extract.specs.NodeString.{found_strings, strings_of}
use Rattle.tree_extract.specs.PrunedDifference.{history_difference}
use Rattle.tree_extract.proofs.history.hist_clash.Goals as goal

some_none : (s : Strings) → Some s ≡ None → ⊥
some_none s e = cc

pub clash_of-requires : goal.clash_of-requires
clash_of-requires g c =
    let is : history_difference g.D.Digester.digest_of (tree_view c.args.p.now) c.args.texts.now ≡ Some (strings_of
    c.in-Some.found) =
    sym (rw c.as_slice.ensures at c.compare_all.ensures.found) ∙ ap found_strings c.in-Some.is in
    history_difference-collides g.D.Digester.digest_of (tree_view c.args.p.now) c.args.texts.now (strings_of
    c.in-Some.found) is

pub returns-in-None-clause-none : goal.returns-in-None-clause-none
returns-in-None-clause-none g c =
    let is : history_difference g.D.Digester.digest_of (tree_view c.args.p.now) c.args.texts.now ≡ None =
    sym (rw c.as_slice.ensures at c.compare_all.ensures.found) ∙ ap found_strings c.in-None.is in
    let fitting : fits (tree_view c.args.p.now) (length c.args.texts.now) ≡ true = rw c.requires.lengths
    c.requires.fitting in
    history_difference-decides g.D.Digester.digest_of g.met.D.Digester.has_length (tree_view c.args.p.now)
    c.args.texts.now c.compare_all.ensures.held fitting c.requires.roots None (sym is)

pub returns-in-Some-clause-none : goal.returns-in-Some-clause-none
returns-in-Some-clause-none g c =
    let is : history_difference g.D.Digester.digest_of (tree_view c.args.p.now) c.args.texts.now ≡ Some (strings_of
    c.in-Some.found) =
    sym (rw c.as_slice.ensures at c.compare_all.ensures.found) ∙ ap found_strings c.in-Some.is in
    let fitting : fits (tree_view c.args.p.now) (length c.args.texts.now) ≡ true = rw c.requires.lengths
    c.requires.fitting in
    IfOk-weaker c.clash_of.result _ _
    (λ clash same. history_difference-decides g.D.Digester.digest_of g.met.D.Digester.has_length (tree_view
    c.args.p.now) c.args.texts.now c.compare_all.ensures.held fitting c.requires.roots clash (same ∙ sym is))
    c.clash_of.ensures

pub returns-in-Some-clause-prunings_take_no_memory : goal.returns-in-Some-clause-prunings_take_no_memory
returns-in-Some-clause-prunings_take_no_memory g c prunes =
    let is : history_difference g.D.Digester.digest_of (tree_view c.args.p.now) c.args.texts.now ≡ Some (strings_of
    c.in-Some.found) =
    sym (rw c.as_slice.ensures at c.compare_all.ensures.found) ∙ ap found_strings c.in-Some.is in
    let nothing : Some (strings_of c.in-Some.found) ≡ None = sym is
    ∙ history_difference-prunes g.D.Digester.digest_of (tree_view c.args.p.now) c.args.texts.now prunes in
    absurd (some_none (strings_of c.in-Some.found) nothing)

use Rattle.std.proofs.lemmas.Result.{IfOk-weaker}
use Rattle.dict_proof.specs.View.{list_view}
use Rattle.hall_replies.specs.Kept.{leaves_of, owner_of}
use Rattle.hall_replies.specs.Shown.{SpellsProof, SpellsShort}
use Rattle.hall_replies.proofs.Kept.{leaf-at}
use Rattle.hall_replies.proofs.Proofs.{fits-at, spells-proof}
use Rattle.hall_replies.proofs.lists.proof_text.Goals as goal

pub prune_for-requires : goal.prune_for-requires
prune_for-requires g c =
    let s = c.args.snap.now in
    let kept = c.requires.kept in
    let leaf = c.item.result.now.leaf in
    let at = leaf-at s c.args.k c.item.result.now (rw c.history.ensures at c.item.ensures) in
    record {
      fits = rw (c.list_before-before.ensures, c.change_of.ensures)
          (fits-at g.D.Digester.digest_of (owner_of s) s.view.wall (leaves_of s) c.args.k leaf kept.lawful at);
    }

pub returns : goal.returns
returns g c =
    let s = c.args.snap.now in
    let kept = c.requires.kept in
    let p = list_view c.in_ok-list.list in
    let leaf = c.item.result.now.leaf in
    let at = leaf-at s c.args.k c.item.result.now (rw c.history.ensures at c.item.ensures) in
    IfOk-weaker c.short_text.result (SpellsShort p) (SpellsProof g.D.Digester.digest_of (owner_of s) (leaves_of s) c.args.k)
    (λ bytes it. spells-proof g.D.Digester.digest_of (owner_of s) (leaves_of s) c.args.k leaf p bytes kept.spelled at
    c.numbers_fit.ensures (rw c.list_before-before.ensures at c.in_ok-list.ensures.prunes)
    (rw (c.list_before-before.ensures, c.change_of.ensures) at c.in_ok-list.ensures.meets) it)
    c.short_text.ensures

-- A wall as its server keeps it is one as a client knows it.
use Rattle.std.proofs.Common.{◌≡◌, List, take, true, sym, subst}
use Rattle.std.specs.List.{AllByRecursion}
use Rattle.fr_digest.specs.Digest.{Digest}
use Rattle.lms_tree.specs.Valid.{Key}
use Rattle.lms_tree.proofs.Decided.{valid_decides}
use Rattle.op_types.specs.declared.op.Leaf.{Leaf}
use Rattle.op_types.specs.declared.view.View.{View}
use Rattle.op_types.specs.Spelling.{view_signed}
use Rattle.wall_law.specs.Lawful.{Lawful}
use Rattle.signed_ops.specs.Signed.{is_author_signed, is_view_signed}
use Rattle.check_rules.specs.declared.known.Known.{Known}
use Rattle.hall_core.specs.declared.facts.WallFacts.{WallFacts}
use Rattle.hall_core.specs.Honest as kept
use Rattle.hall_core.specs.Standing as standing
use Rattle.honest_replies.specs.HonestNews.{IsHonest, IsViewOf, SeenIn}
use Rattle.hall_replies.specs.Knowing.{Knows}

module _ (d : Digest) (facts : WallFacts) where
  seen-same : (L : List Leaf) (view : View) → kept.SeenIn d facts L view → SeenIn d facts.server L view
  unfolding is_view_signed
  seen-same L view seen some = let it = seen some in record {
    within = it.within;
    same = it.same;
    signed = (valid_decides facts.server (view_signed view.wall view.size view.root) view.sig).1 it.signed;
  }

  pub view-same : (L : List Leaf) (view : View) → standing.IsViewOf d facts L view
      → IsViewOf d facts.wall facts.server L view
  view-same L view it = record { on = it.wall; size = it.size; seen = seen-same L view it.seen }

  pub wall-same : (known : Known) (L : List Leaf) → Knows facts known → kept.IsHonest d facts L → IsHonest d known L
  wall-same known L knows it = record {
    lawful = subst (λ owner. Lawful d owner known.wall L) (sym knows.owner)
        (subst (λ wall. Lawful d facts.owner wall L) (sym knows.wall) it.lawful);
    signed = subst (λ users. AllByRecursion (λ (l : Leaf). is_author_signed users l.op ≡ true) L) (sym knows.users)
        it.signed;
    seen = λ k l at. subst (λ (server : Key). SeenIn d server (take k L) l.op.view) (sym knows.server)
        (seen-same (take k L) l.op.view (it.seen k l at));
    spelled = it.spelled;
  }

use Rattle.std.proofs.Common.{◌∙◌, refl, ap, sym, subst}
use Rattle.std.proofs.lemmas.Bool.{false≢true}
use Rattle.dict_proof.specs.Spelling.{FitsIn}
use Rattle.dict_proof.specs.View.{list_view, part_view}
use Rattle.dict_proof.proofs.Levels.{absent_in, entry_in, hidden_in, left_in, node_in, none_in, right_in, some_level}
use Rattle.dict_proof.proofs.Views.{list_view-hidden, list_view-node, list_view-some}
use Rattle.dict_proof.proofs.spelled.+measured.Goals as goal

pub is_part_within-returns-in-None : goal.is_part_within-returns-in-None
is_part_within-returns-in-None t c = (λ is. rw c.in-None.is (absent_in c.args.most), λ h. refl)

pub is_within-returns-then-most-eq0 : goal.is_within-returns-then-most-eq0
is_within-returns-then-most-eq0 t c = (
  λ is. absurd (false≢true is),
  λ h. absurd (none_in c.args.most (list_view c.args.p.now) c.if-most-eq0.true
      (some_level (list_view c.args.p.now) (list_view-some c.args.p.now)) h),
)

pub is_within-returns-in-Hidden : goal.is_within-returns-in-Hidden
is_within-returns-in-Hidden t c = (
  λ is. subst (FitsIn c.args.most) (sym (ap list_view c.in-Hidden.is ∙ list_view-hidden c.in-Hidden.digest))
      (hidden_in c.args.most c.in-Hidden.digest c.if-most-eq0.false c.is_dig.ensures),
  λ h. refl,
)

pub is_within-returns-then-not-is_entry : goal.is_within-returns-then-not-is_entry
is_within-returns-then-not-is_entry t c =
    let is = ap list_view c.in-Node.is ∙ list_view-node c.in-Node.entry c.in-Node.left c.in-Node.right in (
      λ is. absurd (false≢true is),
      λ h. sym c.if-not-is_entry.true ∙ c.is_entry.ensures.1 (entry_in c.args.most c.in-Node.entry (part_view c.in-Node.left) (part_view c.in-Node.right) (subst (FitsIn c.args.most) is h)),
    )

pub is_within-returns-then-not-is_part_within : goal.is_within-returns-then-not-is_part_within
is_within-returns-then-not-is_part_within t c =
    let is = ap list_view c.in-Node.is ∙ list_view-node c.in-Node.entry c.in-Node.left c.in-Node.right in (
      λ is. absurd (false≢true is),
      λ h. sym c.if-not-is_part_within.true ∙ c.is_part_within.ensures.1 (left_in c.args.most c.in-Node.entry (part_view c.in-Node.left) (part_view c.in-Node.right) (subst (FitsIn c.args.most) is h)),
    )

pub is_within-returns-else-not-is_part_within : goal.is_within-returns-else-not-is_part_within
is_within-returns-else-not-is_part_within t c =
    let is = ap list_view c.in-Node.is ∙ list_view-node c.in-Node.entry c.in-Node.left c.in-Node.right in
    let entry = c.is_entry.ensures.0 c.if-not-is_entry.false in
    let left = c.is_part_within.ensures.0 c.if-not-is_part_within.false in (
      λ right. subst (FitsIn c.args.most) (sym is)
          (node_in c.args.most c.in-Node.entry (part_view c.in-Node.left) (part_view c.in-Node.right) c.if-most-eq0.false entry left
          (c.is_part_within-in-Node.ensures.0 right)),
      λ h. c.is_part_within-in-Node.ensures.1 (right_in c.args.most c.in-Node.entry (part_view c.in-Node.left)
          (part_view c.in-Node.right) (subst (FitsIn c.args.most) is h)),
    )

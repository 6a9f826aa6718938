-- What is made of a tree that isn't one of the view's size, and of one that is.
use Rattle.std.proofs.Common.{◌≡◌, ℕ, Bool, true, false, not, ◌&&◌, ◌||◌, List, Option, Some, None, Result, Ok, Err, refl, sym, ap, ◌∙◌}
use Rattle.std.specs.Prelude.{nat_lt, nat_eq, if◌then◌else◌}
use Rattle.std.specs.List.{list_any}
use Rattle.fr_digest.specs.Digest.{Digest}
use Rattle.op_types.specs.declared.op.Leaf.{Leaf}
use Rattle.op_types.specs.declared.view.View.{View}
use Rattle.hist_proof.specs.Pruned.{Tree, fits}
use Rattle.pruned_list.specs.PrunedList.{PrunedList}
use Rattle.msg_form.specs.declared.verdict.Verdict.{Verdict}
use Rattle.msg_form.specs.declared.verdict.Verdict.TheVariants as verdicts
use Rattle.check_rules.specs.declared.known.Known.{Known}
use Rattle.check_rules.specs.declared.asked.Asked.{Asked}
use Rattle.check_rules.specs.Shown.{leaves_from}
use Rattle.check_rules.specs.Verdict.{Judgement, early_verdict, is_bad_from, is_other_wall, judged_later, judged_news, late_verdict, nothing_new, rejected_or, shows_other_wall, tree_verdict}

or-off : (a b c : Bool) → b ≡ false → (a || (b && c)) ≡ a
or-off true b c e = refl
or-off false b c e = ap (λ (x : Bool). x && c) e

pub by-early : (d : Digest) (known : Known) (asked : Asked) (view : View) (from : ℕ) (tree : Tree)
    (lists : List PrunedList)
    (v : Option Verdict) → fits tree view.size ≡ false → early_verdict known (is_other_wall known view.wall) view ≡ v
    → judged_news d known asked view from tree lists
    ≡ rejected_or (if nat_eq view.size known.size then nothing_new asked view.size
    else judged_later d known asked view from tree lists) v
unfolding judged_news
by-early d known asked view from tree lists v unfit e =
    ap (rejected_or (if nat_eq view.size known.size then nothing_new asked view.size
    else judged_later d known asked view from tree lists))
    (ap (λ (b : Bool). early_verdict known b view)
    (or-off (is_other_wall known view.wall) (fits tree view.size)
    (shows_other_wall known view.size tree from) unfit) ∙ e)

pub unfit-verdict : (d : Digest) (known : Known) (asked : Asked) (view : View) (from : ℕ) (tree : Tree)
    (lists : List PrunedList) (v : Verdict) → fits tree view.size ≡ false
    → early_verdict known (is_other_wall known view.wall) view ≡ Some v
    → judged_news d known asked view from tree lists ≡ Err v
unfit-verdict d known asked view from tree lists v unfit e = by-early d known asked view from tree lists
    (Some v) unfit e

pub unfit-same : (d : Digest) (known : Known) (asked : Asked) (view : View) (from : ℕ) (tree : Tree)
    (lists : List PrunedList) → fits tree view.size ≡ false
    → early_verdict known (is_other_wall known view.wall) view ≡ None → nat_eq view.size known.size ≡ true
    → judged_news d known asked view from tree lists ≡ nothing_new asked view.size
unfit-same d known asked view from tree lists unfit e same =
    by-early d known asked view from tree lists None unfit e
    ∙ ap (λ (b : Bool). if b then nothing_new asked view.size else judged_later d known asked view from tree lists)
    same

later : (d : Digest) (known : Known) (asked : Asked) (view : View) (from : ℕ) (tree : Tree)
    (lists : List PrunedList) → fits tree view.size ≡ false
    → early_verdict known (is_other_wall known view.wall) view ≡ None → nat_eq view.size known.size ≡ false
    → judged_news d known asked view from tree lists ≡ judged_later d known asked view from tree lists
later d known asked view from tree lists unfit e other =
    by-early d known asked view from tree lists None unfit e
    ∙ ap (λ (b : Bool). if b then nothing_new asked view.size else judged_later d known asked view from tree lists)
    other

at-from : (d : Digest) (known : Known) (asked : Asked) (view : View) (from : ℕ) (tree : Tree) (lists : List PrunedList)
    → is_bad_from known view from ≡ true → judged_later d known asked view from tree lists ≡ Err verdicts.BadFrom
unfolding judged_later late_verdict tree_verdict
at-from d known asked view from tree lists bad = rw bad refl

at-shape : (d : Digest) (known : Known) (asked : Asked) (view : View) (from : ℕ) (tree : Tree)
    (lists : List PrunedList)
    → is_bad_from known view from ≡ false → fits tree view.size ≡ false
    → judged_later d known asked view from tree lists ≡ Err verdicts.BadShape
unfolding judged_later late_verdict tree_verdict
at-shape d known asked view from tree lists good unfit = rw (good, unfit) refl

pub unfit-from : (d : Digest) (known : Known) (asked : Asked) (view : View) (from : ℕ) (tree : Tree)
    (lists : List PrunedList) → fits tree view.size ≡ false
    → early_verdict known (is_other_wall known view.wall) view ≡ None → nat_eq view.size known.size ≡ false
    → is_bad_from known view from ≡ true
    → judged_news d known asked view from tree lists ≡ Err verdicts.BadFrom
unfit-from d known asked view from tree lists unfit e other bad =
    later d known asked view from tree lists unfit e other ∙ at-from d known asked view from tree lists bad

pub unfit-shape : (d : Digest) (known : Known) (asked : Asked) (view : View) (from : ℕ) (tree : Tree)
    (lists : List PrunedList) → fits tree view.size ≡ false
    → early_verdict known (is_other_wall known view.wall) view ≡ None → nat_eq view.size known.size ≡ false
    → is_bad_from known view from ≡ false
    → judged_news d known asked view from tree lists ≡ Err verdicts.BadShape
unfit-shape d known asked view from tree lists unfit e other good =
    later d known asked view from tree lists unfit e other ∙ at-shape d known asked view from tree lists good unfit

-- ---- a tree of the view's size

pub fit-news : (d : Digest) (known : Known) (asked : Asked) (view : View) (from : ℕ) (tree : Tree)
    (lists : List PrunedList)
    (leaves : List Leaf) (b : Bool) (v : Option Verdict) → fits tree view.size ≡ true
    → leaves ≡ leaves_from tree view.size from
    → b ≡ (is_other_wall known view.wall || list_any (λ (l : Leaf). is_other_wall known l.op.wall) leaves)
    → early_verdict known b view ≡ v
    → judged_news d known asked view from tree lists
    ≡ rejected_or (if nat_eq view.size known.size then nothing_new asked view.size
    else judged_later d known asked view from tree lists) v
unfolding judged_news
fit-news d known asked view from tree lists leaves b v fit behind is e =
    ap (rejected_or (if nat_eq view.size known.size then nothing_new asked view.size
    else judged_later d known asked view from tree lists))
    (ap (λ (f : Bool). early_verdict known
    (is_other_wall known view.wall || (f && list_any (λ (l : Leaf). is_other_wall known l.op.wall)
    (leaves_from tree view.size from))) view) fit
    ∙ ap (λ (xs : List Leaf). early_verdict known
    (is_other_wall known view.wall || list_any (λ (l : Leaf). is_other_wall known l.op.wall) xs) view) (sym behind)
    ∙ ap (λ (c : Bool). early_verdict known c view) (sym is) ∙ e)

pub fit-same : (d : Digest) (known : Known) (asked : Asked) (view : View) (from : ℕ) (tree : Tree)
    (lists : List PrunedList)
    → judged_news d known asked view from tree lists
    ≡ rejected_or (if nat_eq view.size known.size then nothing_new asked view.size
    else judged_later d known asked view from tree lists) None
    → nat_eq view.size known.size ≡ true → judged_news d known asked view from tree lists ≡ nothing_new asked view.size
fit-same d known asked view from tree lists news same =
    news ∙ ap (λ (b : Bool). if b then nothing_new asked view.size else judged_later d known asked view from tree
    lists) same

pub fit-later : (d : Digest) (known : Known) (asked : Asked) (view : View) (from : ℕ) (tree : Tree)
    (lists : List PrunedList)
    → judged_news d known asked view from tree lists
    ≡ rejected_or (if nat_eq view.size known.size then nothing_new asked view.size
    else judged_later d known asked view from tree lists) None
    → nat_eq view.size known.size ≡ false
    → judged_later d known asked view from tree lists ≡ judged_news d known asked view from tree lists
fit-later d known asked view from tree lists news other =
    sym (news ∙ ap (λ (b : Bool). if b then nothing_new asked view.size else judged_later d known asked view from
    tree lists) other)

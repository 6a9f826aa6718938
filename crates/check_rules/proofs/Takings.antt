-- A reply is taken exactly where it says what is accepted.
use Rattle.std.proofs.Common.{◌≡◌, ℕ, ◌<◌, ◌≤◌, Bool, true, false, not, ◌&&◌, ◌||◌, List, [], ◌∷◌, Option, Some, None, refl, ap, sym, subst, ◌∙◌, arith, eq-eqb, inl, inr}
use Rattle.std.specs.Prelude.{Ok, Err, nat_eq, nat_lt, if◌then◌else◌}
use Rattle.std.proofs.lemmas.Bool.{cases_Bool, cases_lt, ltb-false, le-ltb, lt-ltb}
use Rattle.fr_bytes.specs.Bytes.{Text}
use Rattle.fr_digest.specs.Digest.{Digest}
use Rattle.op_types.specs.declared.op.Leaf.{Leaf}
use Rattle.op_types.specs.declared.view.View.{View}
use Rattle.hist_proof.specs.Pruned.{Tree, fits}
use Rattle.pruned_list.specs.PrunedList.{PrunedList}
use Rattle.msg_form.specs.declared.verdict.Verdict.{Verdict}
use Rattle.msg_form.specs.declared.verdict.Verdict.TheVariants as verdicts
use Rattle.signed_ops.specs.Signed.{is_view_signed}
use Rattle.wall_law.specs.Rows.{row}
use Rattle.wall_law.proofs.Rows.{all-none, none-all, off-or, off-row, or-off, row-off}
use Rattle.check_rules.specs.declared.asked.Asked.{Asked}
use Rattle.check_rules.specs.declared.asked.Asked.TheVariants.{Look, Append}
use Rattle.check_rules.specs.declared.known.Known.{Known}
use Rattle.check_rules.specs.Heard.{Heard, bare, news, refused, heard_of}
use Rattle.check_rules.specs.Shown.{leaves_from}
use Rattle.check_rules.specs.Takes.{Says, Takes}
use Rattle.check_rules.specs.Verdict.{Judged, Judgement, same, taken, refusal, answered_or, early_verdict, is_answered, is_append, is_level, is_other_root, is_other_wall, judged, judged_bare, judged_heard, judged_later, judged_news, late_verdict, nothing_new, rejected_or, shows_other_wall}
use Rattle.check_rules.proofs.Acceptances.{accepted, shape-fits, silent, walls-same}
use Rattle.check_rules.proofs.Tests.{equal-numbers, not-off, off-both, off-not, second-off}

-- ---- answers

-- no verdict was told in front
first-ok : (other : Judgement) (r : Option Verdict) (j : Judged) → rejected_or other r ≡ Ok j → (r ≡ None) × (other ≡ Ok j)
first-ok other None j e = (refl, e)
first-ok other (Some verdict) j e = absurd cc

ok-first : (other : Judgement) (r : Option Verdict) → r ≡ None → rejected_or other r ≡ other
ok-first other None e = refl
ok-first other (Some verdict) e = absurd cc

then-ok : (b : Bool) (x : Judgement) (verdict : Verdict) (j : Judged) → (if b then x else Err verdict) ≡ Ok j
    → (b ≡ true) × (x ≡ Ok j)
then-ok true x verdict j e = (refl, e)
then-ok false x verdict j e = absurd cc

same-ok : (a b : Judged) → (let x : Judgement = Ok a in x) ≡ Ok b → a ≡ b
same-ok a b e = cc

other-number : (m n : ℕ) → m < n → nat_eq n m ≡ false
other-number m n less = elim (cases_Bool (nat_eq n m)) [
  | inl is ↦ absurd (let equal = equal-numbers n m is in omega arith)
  | inr other ↦ other
]

is-bigger : (m n : ℕ) → nat_eq n m ≡ false → m ≤ n → m < n
is-bigger m n other le = elim (cases_lt m n) [
  | inl less ↦ less
  | inr ge ↦ absurd (let equal : n ≡ m = omega arith in let is : nat_eq n m ≡ true = eq-eqb n m equal in cc)
]

and-off : (a b : Bool) → a ≡ false → (a && b) ≡ false
and-off true b e = absurd cc
and-off false b e = refl

-- ---- what a reply is taken to say

module _ (d : Digest) (known : Known) (asked : Asked) (bytes : Text) where
  abbrev Told : Judged → Type 0
  Told (same size) = Unit {0}
  Told (taken view from tree leaves lists) = Takes d known asked bytes view from tree leaves lists
  Told (refusal cause number) = Unit {0}

  told-nothing : (a : Asked) (size : ℕ) (j : Judged) → nothing_new a size ≡ Ok j → Told j
  told-nothing Look size j e = subst Told (same-ok (same size) j e) tt
  told-nothing (Append op) size j e = absurd cc

  module _ (view : View) (from : ℕ) (tree : Tree) (lists : List PrunedList) where
    abbrev leaves : List Leaf
    leaves = leaves_from tree view.size from

    abbrev other : Bool
    other = is_other_wall known view.wall || (fits tree view.size && shows_other_wall known view.size tree from)

    abbrev rows : List (Option Verdict)
    rows =
        row other verdicts.WrongWall
        ∷ row (nat_lt 0 view.size && not (is_view_signed known.server view)) verdicts.BadServerSignature
        ∷ row (nat_lt view.size known.size) verdicts.Shorter
        ∷ row (is_level known view && is_other_root view.root known.root) verdicts.Forked
        ∷ []

    told-later : heard_of (is_append asked) bytes ≡ Some (news view from tree lists)
        → early_verdict known other view ≡ None → nat_eq view.size known.size ≡ false
        → late_verdict d known view from tree lists ≡ None → is_answered asked leaves ≡ true
        → Takes d known asked bytes view from tree leaves lists
    unfolding early_verdict
    told-later heard early unlike late answered =
        let each = all-none rows early in
        let walls = or-off (is_other_wall known view.wall) (fits tree view.size && shows_other_wall known view.size tree from)
        (row-off other verdicts.WrongWall each.0) in
        let unsigned = row-off (nat_lt 0 view.size && not (is_view_signed known.server view)) verdicts.BadServerSignature each.1.0 in
        let longer = ltb-false view.size known.size (row-off (nat_lt view.size known.size) verdicts.Shorter each.1.1.0) in
        let later = is-bigger known.size view.size unlike longer in
        let fitting = shape-fits d known view from tree lists late in
        record {
          says = record {
            heard = heard;
            wall = equal-numbers view.wall known.wall (not-off (nat_eq view.wall known.wall) walls.0);
            signed = not-off (is_view_signed known.server view)
                (second-off (nat_lt 0 view.size) (not (is_view_signed known.server view)) unsigned (lt-ltb 0 view.size (omega arith)));
            accepted = accepted d known view from tree lists later
                (second-off (fits tree view.size) (shows_other_wall known view.size tree from) walls.1 fitting) late;
            leaves_are = refl;
          };
          answered = answered;
        }

    told-after : (j : Judged) → heard_of (is_append asked) bytes ≡ Some (news view from tree lists)
        → early_verdict known other view ≡ None → nat_eq view.size known.size ≡ false
        → judged_later d known asked view from tree lists ≡ Ok j → Told j
    unfolding judged_later
    told-after j heard early unlike e =
        let first = first-ok (answered_or asked leaves (Ok (taken view from tree leaves lists)))
        (late_verdict d known view from tree lists) j e in
        let answered = then-ok (is_answered asked leaves) (Ok (taken view from tree leaves lists)) verdicts.Missing j first.1 in
        subst Told (same-ok (taken view from tree leaves lists) j answered.1)
        (told-later heard early unlike first.0 answered.0)

    told-by : (b : Bool) (j : Judged) → nat_eq view.size known.size ≡ b
        → heard_of (is_append asked) bytes ≡ Some (news view from tree lists)
        → early_verdict known other view ≡ None
        → (if b then nothing_new asked view.size else judged_later d known asked view from tree lists) ≡ Ok j → Told j
    told-by true j is heard early e = told-nothing asked view.size j e
    told-by false j is heard early e = told-after j heard early is e

    told-news : (j : Judged) → heard_of (is_append asked) bytes ≡ Some (news view from tree lists)
        → judged_news d known asked view from tree lists ≡ Ok j → Told j
    unfolding judged_news
    told-news j heard e =
        let first = first-ok
        (if nat_eq view.size known.size then nothing_new asked view.size else judged_later d known asked view from tree lists)
        (early_verdict known other view) j e in
        told-by (nat_eq view.size known.size) j refl heard first.0 first.1

    -- and back
    says-early : Says d known (is_append asked) bytes view from tree leaves lists → early_verdict known other view ≡ None
    unfolding early_verdict
    says-early t = none-all rows (
      off-row other verdicts.WrongWall (off-or (is_other_wall known view.wall) (fits tree view.size && shows_other_wall known view.size tree from)
          (off-not (nat_eq view.wall known.wall) (eq-eqb view.wall known.wall t.wall))
          (off-both (fits tree view.size) (shows_other_wall known view.size tree from) (λ is. walls-same known leaves t.accepted.wall))),
      (
        off-row (nat_lt 0 view.size && not (is_view_signed known.server view)) verdicts.BadServerSignature
            (off-both (nat_lt 0 view.size) (not (is_view_signed known.server view)) (λ some. off-not (is_view_signed known.server view) t.signed)),
        (
          off-row (nat_lt view.size known.size) verdicts.Shorter (le-ltb view.size known.size (let later = t.accepted.later in omega arith)),
          (
            off-row (is_level known view && is_other_root view.root known.root) verdicts.Forked
                (and-off (is_level known view) (is_other_root view.root known.root)
                (and-off (nat_eq view.size known.size) (nat_lt 0 known.size) (other-number known.size view.size t.accepted.later))),
            tt,
          ),
        ),
      ),
    )

    says-later : Says d known (is_append asked) bytes view from tree leaves lists
        → judged_later d known asked view from tree lists
        ≡ answered_or asked leaves (Ok (taken view from tree leaves lists))
    unfolding judged_later
    says-later t = ok-first (answered_or asked leaves (Ok (taken view from tree leaves lists)))
        (late_verdict d known view from tree lists) (silent d known view from tree lists t.accepted)

    says-news : Says d known (is_append asked) bytes view from tree leaves lists
        → judged_news d known asked view from tree lists
        ≡ answered_or asked leaves (Ok (taken view from tree leaves lists))
    unfolding judged_news
    says-news t = ok-first
        (if nat_eq view.size known.size then nothing_new asked view.size else judged_later d known asked view from tree lists)
        (early_verdict known other view) (says-early t)
        ∙ ap (λ (b : Bool). let x : Judgement = if b then nothing_new asked view.size else judged_later d known asked view from tree lists in x)
        (other-number known.size view.size t.accepted.later)
        ∙ says-later t

  told-bare : (view : View) (j : Judged) → judged_bare known asked view ≡ Ok j → Told j
  told-bare view j e =
      let first = first-ok (if nat_eq view.size known.size then nothing_new asked view.size else Err verdicts.BadFrom)
      (early_verdict known (is_other_wall known view.wall) view) j e in
      told-nothing asked view.size j (then-ok (nat_eq view.size known.size) (nothing_new asked view.size) verdicts.BadFrom j first.1).1

  told-refusal : (b : Bool) (cause number : ℕ) (j : Judged) → (if b then Err verdicts.WrongWall else Ok (refusal cause number)) ≡ Ok j → Told j
  told-refusal true cause number j e = absurd cc
  told-refusal false cause number j e = subst Told (same-ok (refusal cause number) j e) tt

  told-heard : (h : Option Heard) (j : Judged) → heard_of (is_append asked) bytes ≡ h → judged_heard d known asked h ≡ Ok j → Told j
  told-heard None j is e = absurd cc
  told-heard (Some (bare view)) j is e = told-bare view j e
  told-heard (Some (news view from tree lists)) j is e = told-news view from tree lists j is e
  told-heard (Some (refused wall cause number)) j is e = told-refusal (is_other_wall known wall) cause number j e

  pub takes : (view : View) (from : ℕ) (tree : Tree) (leaves : List Leaf) (lists : List PrunedList)
      → judged d known asked bytes ≡ Ok (taken view from tree leaves lists)
      → Takes d known asked bytes view from tree leaves lists
  unfolding judged
  takes view from tree leaves lists e =
      told-heard (heard_of (is_append asked) bytes) (taken view from tree leaves lists) refl e

  -- what says so is taken, but for an operation that it doesn't hold
  pub is-said : (view : View) (from : ℕ) (tree : Tree) (leaves : List Leaf) (lists : List PrunedList)
      → Says d known (is_append asked) bytes view from tree leaves lists
      → judged d known asked bytes ≡ answered_or asked leaves (Ok (taken view from tree leaves lists))
  unfolding judged
  is-said view from tree leaves lists t =
      let plain = subst (λ (ls : List Leaf). Says d known (is_append asked) bytes view from tree ls lists) t.leaves_are t in
      ap (judged_heard d known asked) t.heard ∙ says-news view from tree lists plain
      ∙ ap (λ (ls : List Leaf). let x : Judgement = answered_or asked ls (Ok (taken view from tree ls lists)) in x) (sym t.leaves_are)

  pub is-taken : (view : View) (from : ℕ) (tree : Tree) (leaves : List Leaf) (lists : List PrunedList)
      → Takes d known asked bytes view from tree leaves lists
      → judged d known asked bytes ≡ Ok (taken view from tree leaves lists)
  is-taken view from tree leaves lists t = is-said view from tree leaves lists t.says
      ∙ ap (λ (b : Bool). let x : Judgement = if b then Ok (taken view from tree leaves lists) else Err verdicts.Missing in x) t.answered

-- The rows over the tree, over who vouches and over the positions, one after the other.
use Rattle.std.proofs.Common.{◌≡◌, ℕ, ◌-◌, Bool, true, false, not, ◌&&◌, ◌||◌, List, Option, Some, None, refl, sym, ap, ◌∙◌, subst}
use Rattle.std.specs.Prelude.{is_none, is_some, nat_lt}
use Rattle.std.specs.Option.{option_map, option_or}
use Rattle.fr_bytes.specs.Bytes.{Text}
use Rattle.fr_digest.specs.Digest.{Digest}
use Rattle.op_types.specs.declared.op.Leaf.{Leaf}
use Rattle.op_types.specs.declared.view.View.{View}
use Rattle.hist_proof.specs.Pruned.{Tree, at, cut, digest_of, fits}
use Rattle.pruned_list.specs.PrunedList.{PrunedList}
use Rattle.wall_law.specs.Lawful.{Told as Tells}
use Rattle.msg_form.specs.declared.verdict.Verdict.{Verdict}
use Rattle.check_rules.specs.declared.known.Known.{Known}
use Rattle.check_rules.specs.Shown.{anchor, leaves_from, shows_from}
use Rattle.check_rules.specs.Verdict.{is_bad_shape, late_verdict, positions_verdict, told_before, tree_verdict, vouch_verdict}

-- ---- the shape

pub hides : (known : Known) (size from : ℕ) (tree : Tree) → fits tree size ≡ true
    → shows_from tree size (from - 1) ≡ false
    → is_bad_shape known size from tree ≡ true
hides known size from tree fit shows = rw (fit, shows) refl

none-mapped : (d : Digest) (o : Option Tree) → is_none (option_map (digest_of d) o) ≡ is_none o
none-mapped d None = refl
none-mapped d (Some x) = refl

pub misses : (d : Digest) (known : Known) (size from : ℕ) (tree : Tree) (accepted : Option Text)
    → fits tree size ≡ true
    → shows_from tree size (from - 1) ≡ true → accepted ≡ at d tree size known.size
    → (nat_lt 0 known.size && is_none accepted) ≡ is_bad_shape known size from tree
unfolding at
misses d known size from tree accepted fit shows e =
    ap (λ (o : Option Text). nat_lt 0 known.size && is_none o) e
    ∙ ap (λ (b : Bool). nat_lt 0 known.size && b) (none-mapped d (cut tree size known.size))
    ∙ sym (shaped fit shows)
  where
    shaped : fits tree size ≡ true → shows_from tree size (from - 1) ≡ true
        → is_bad_shape known size from tree ≡ (nat_lt 0 known.size && is_none (cut tree size known.size))
    shaped f s = rw (f, s) refl

-- ---- one row after the other

first-some : (v rest : Option Verdict) → is_some v ≡ true → v ≡ option_or v rest
first-some None rest e = absurd cc
first-some (Some v) rest e = refl

not-some : (v : Option Verdict) → is_some v ≡ false → v ≡ None
not-some None e = refl
not-some (Some v) e = absurd cc

or-none : (v : Option Verdict) → option_or v None ≡ v
or-none None = refl
or-none (Some v) = refl

pub late-tree : (d : Digest) (known : Known) (view : View) (from : ℕ) (tree : Tree) (lists : List PrunedList)
    (v : Option Verdict) → v ≡ tree_verdict d known view from tree → is_some v ≡ true
    → v ≡ late_verdict d known view from tree lists
unfolding late_verdict
late-tree d known view from tree lists v e some =
    first-some v (option_or (vouch_verdict known from (leaves_from tree view.size from))
    (option_or (positions_verdict d known tree view.size (told_before d known.owner (anchor tree view.size from)) from
    (leaves_from tree view.size from) lists) None)) some
    ∙ ap (λ (o : Option Verdict). option_or o (option_or (vouch_verdict known from (leaves_from tree view.size from))
    (option_or (positions_verdict d known tree view.size (told_before d known.owner (anchor tree view.size from)) from
    (leaves_from tree view.size from) lists) None))) e

rows-behind : (d : Digest) (known : Known) (view : View) (from : ℕ) (tree : Tree) (lists : List PrunedList)
    (v : Option Verdict) → v ≡ tree_verdict d known view from tree → is_some v ≡ false
    → late_verdict d known view from tree lists ≡ option_or (vouch_verdict known from
    (leaves_from tree view.size from))
    (option_or (positions_verdict d known tree view.size (told_before d known.owner (anchor tree view.size from)) from
    (leaves_from tree view.size from) lists) None)
unfolding late_verdict
rows-behind d known view from tree lists v e none =
    ap (λ (o : Option Verdict). option_or o (option_or (vouch_verdict known from (leaves_from tree view.size from))
    (option_or (positions_verdict d known tree view.size (told_before d known.owner (anchor tree view.size from)) from
    (leaves_from tree view.size from) lists) None))) (sym e ∙ not-some v none)

pub late-vouch : (d : Digest) (known : Known) (view : View) (from : ℕ) (tree : Tree) (lists : List PrunedList)
    (leaves : List Leaf) (u v : Option Verdict) → u ≡ tree_verdict d known view from tree → is_some u ≡ false
    → leaves ≡ leaves_from tree view.size from → v ≡ vouch_verdict known from leaves → is_some v ≡ true
    → v ≡ late_verdict d known view from tree lists
late-vouch d known view from tree lists leaves u v e none behind is some =
    first-some v (option_or (positions_verdict d known tree view.size (told_before d known.owner
    (anchor tree view.size from)) from
    (leaves_from tree view.size from) lists) None) some
    ∙ ap (λ (o : Option Verdict). option_or o (option_or (positions_verdict d known tree view.size
    (told_before d known.owner (anchor tree view.size from)) from (leaves_from tree view.size from) lists) None))
    (is ∙ ap (vouch_verdict known from) behind)
    ∙ sym (rows-behind d known view from tree lists u e none)

last-rows : (d : Digest) (known : Known) (view : View) (from : ℕ) (tree : Tree) (lists : List PrunedList)
    (leaves : List Leaf) (u v : Option Verdict) (first : Tells) → u ≡ tree_verdict d known view from tree
    → is_some u ≡ false
    → leaves ≡ leaves_from tree view.size from → v ≡ vouch_verdict known from leaves → is_some v ≡ false
    → first ≡ told_before d known.owner (anchor tree view.size from)
    → positions_verdict d known tree view.size first from leaves lists ≡ late_verdict d known view from tree lists
last-rows d known view from tree lists leaves u v first e none behind is none' told =
    ap (λ (t : Tells). positions_verdict d known tree view.size t from leaves lists) told
    ∙ ap (λ (xs : List Leaf). positions_verdict d known tree view.size (told_before d known.owner
    (anchor tree view.size from)) from xs lists) behind
    ∙ sym (rows-behind d known view from tree lists u e none
    ∙ ap (λ (o : Option Verdict). option_or o (option_or (positions_verdict d known tree view.size
    (told_before d known.owner (anchor tree view.size from)) from (leaves_from tree view.size from) lists) None))
    (ap (vouch_verdict known from) (sym behind) ∙ sym is ∙ not-some v none')
    ∙ or-none (positions_verdict d known tree view.size (told_before d known.owner (anchor tree view.size from)) from
    (leaves_from tree view.size from) lists))

pub late-last : (d : Digest) (known : Known) (view : View) (from n : ℕ) (tree : Tree) (lists : List PrunedList)
    (leaves : List Leaf) (u v : Option Verdict) (first : Tells) → n ≡ view.size
    → u ≡ tree_verdict d known view from tree
    → is_some u ≡ false → leaves ≡ leaves_from tree n from → v ≡ vouch_verdict known from leaves → is_some v ≡ false
    → first ≡ told_before d known.owner (anchor tree n from)
    → positions_verdict d known tree n first from leaves lists ≡ late_verdict d known view from tree lists
late-last d known view from n tree lists leaves u v first size e none behind is none' told =
    let P : ℕ → Type 0 = λ m. leaves ≡ leaves_from tree m from → first ≡ told_before d known.owner (anchor tree m from)
    → positions_verdict d known tree m first from leaves lists ≡ late_verdict d known view from tree lists in
    subst P (sym size) (λ b t. last-rows d known view from tree lists leaves u v first e none b is none' t) behind told

-- One position: nothing stands in the way of a leaf exactly where it passes, and what passes over a state's own
-- entries comes next in that state.
use Rattle.std.proofs.Common.{◌≡◌, ℕ, Bool, true, false, not, ◌&&◌, ◌||◌, List, [], ◌∷◌, Option, Some, None, refl, ap, sym, ◌∙◌, eq-eqb, rules}
use Rattle.std.specs.Prelude.{nat_eq, option_and_then, unwrap_or, is_none}
use Rattle.std.specs.Option.{option_map}
use Rattle.std.specs.Str.{bytes_eq}
use Rattle.std.proofs.lemmas.Bool.{eqb-true}
use Rattle.std.proofs.lemmas.Slice.Eq.{bytes_eq-Decides}
use Rattle.fr_bytes.specs.Bytes.{Text}
use Rattle.fr_digest.specs.Digest.{Digest}
use Rattle.op_types.specs.declared.op.Op.{Op}
use Rattle.op_types.specs.declared.op.Leaf.{Leaf}
use Rattle.op_types.specs.Kinds.{changed_user}
use Rattle.tree_model.specs.declared.entry.Entry.{Entry}
use Rattle.tree_model.specs.AccessList.{dict, entry_of}
use Rattle.wall_law.specs.declared.refusal.LawRefusal.{LawRefusal}
use Rattle.wall_law.specs.declared.refusal.PositionRefusal.{PositionRefusal}
use Rattle.wall_law.specs.declared.refusal.PositionRefusal.TheVariants.{BadAuthorSignature, BadDictProof, Unlawful, BadView, WrongAfter}
use Rattle.wall_law.specs.declared.state.State.{State}
use Rattle.wall_law.specs.State.{after, epoch_after}
use Rattle.wall_law.specs.Law.{law_of, law}
use Rattle.wall_law.specs.Lawful.{Told, told_of, ComesNext}
use Rattle.wall_law.specs.Position.{Finding, IsOf, PositionPasses, is_hid, is_told, law_found, position_refusal}
use Rattle.wall_law.specs.Rows.{row}
use Rattle.wall_law.proofs.Rows.{all-none, map-none, none-all, off-or, off-row, or-off, row-off, some-of}

-- ---- tests

not-off : (b : Bool) → not b ≡ false → b ≡ true
not-off true e = refl
not-off false e = absurd cc

off-not : (b : Bool) → b ≡ true → not b ≡ false
off-not true e = refl
off-not false e = absurd cc

equal-bytes : (xs ys : List ℕ) → bytes_eq xs ys ≡ true → xs ≡ ys
equal-bytes xs ys e = search (rules, bytes_eq-Decides)

bytes-equal : (xs ys : List ℕ) → xs ≡ ys → bytes_eq xs ys ≡ true
bytes-equal xs ys e = search (rules, bytes_eq-Decides)

both-true : (a b : Bool) → (a && b) ≡ true → (a ≡ true) × (b ≡ true)
both-true true b e = (refl, e)
both-true false b e = absurd cc

equal-numbers : (m n : ℕ) → nat_eq m n ≡ true → m ≡ n
equal-numbers m n e = search (rules, eqb-true)

numbers-equal : (m n : ℕ) → m ≡ n → nat_eq m n ≡ true
numbers-equal m n e = eq-eqb m n e

-- ---- a leaf passes

abbrev RowsOf : Told → ℕ → ℕ → Leaf → Finding → List (Option PositionRefusal)
RowsOf before wall k leaf f =
    row (not f.signed) BadAuthorSignature
    ∷ row (not (bytes_eq f.list before.list) || is_hid before wall k leaf.op f) BadDictProof
    ∷ option_map Unlawful (law_found before wall k leaf.op f)
    ∷ row (not f.seen) BadView
    ∷ row (not (is_told before leaf f.after)) WrongAfter
    ∷ []

left-some : (law : Option LawRefusal) (after : Option Text) → law ≡ None → (is_none law && is_none after) ≡ false
    → is_none after ≡ false
left-some None after e off = off
left-some (Some refusal) after e off = absurd cc

-- the law over what was found
found-law : (before : Told) (wall k : ℕ) (op : Op) (f : Finding) (author changed : Option Entry)
    → f.author ≡ Some author → f.changed ≡ Some changed → law_found before wall k op f ≡ None
    → law_of author changed before.epoch wall k op ≡ None
found-law before wall k op f author changed a c e = rw (a, c) at e

law-found : (before : Told) (wall k : ℕ) (op : Op) (f : Finding) (author changed : Option Entry)
    → f.author ≡ Some author → f.changed ≡ Some changed → law_of author changed before.epoch wall k op ≡ None
    → law_found before wall k op f ≡ None
law-found before wall k op f author changed a c e = rw (a, c) e

-- what the rows say where none applies
pub passes : (before : Told) (wall k : ℕ) (leaf : Leaf) (f : Finding)
    → position_refusal before wall k leaf f ≡ None → PositionPasses before wall k leaf f
unfolding position_refusal
passes before wall k leaf f none =
    let rows = all-none (RowsOf before wall k leaf f) none in
    let law = map-none Unlawful (law_found before wall k leaf.op f) rows.1.1.0 in
    let shown = or-off (not (bytes_eq f.list before.list)) (is_hid before wall k leaf.op f)
    (row-off (not (bytes_eq f.list before.list) || is_hid before wall k leaf.op f) BadDictProof rows.1.0) in
    let hid = or-off (is_none f.author) (is_none f.changed || (is_none (law_found before wall k leaf.op f) && is_none f.after))
    shown.1 in
    let others = or-off (is_none f.changed) (is_none (law_found before wall k leaf.op f) && is_none f.after) hid.1 in
    let author = some-of f.author hid.0 in
    let changed = some-of f.changed others.0 in
    let after = some-of f.after (left-some (law_found before wall k leaf.op f) f.after law others.1) in
    let told = both-true (bytes_eq leaf.after (unwrap_or f.after []))
    (nat_eq leaf.epoch (epoch_after before.epoch leaf.op))
    (not-off (is_told before leaf f.after) (row-off (not (is_told before leaf f.after)) WrongAfter rows.1.1.1.1.0)) in
    record {
      signed = not-off f.signed (row-off (not f.signed) BadAuthorSignature rows.0);
      list = equal-bytes f.list before.list (not-off (bytes_eq f.list before.list) shown.0);
      author = author.0;
      finds_author = author.1;
      changed = changed.0;
      finds_changed = changed.1;
      lawful = found-law before wall k leaf.op f author.0 changed.0 author.1 changed.1 law;
      seen = not-off f.seen (row-off (not f.seen) BadView rows.1.1.1.0);
      after = after.1
          ∙ ap Some (sym (equal-bytes leaf.after (unwrap_or f.after []) told.0
          ∙ ap (λ (o : Option Text). unwrap_or o []) after.1));
      epoch = equal-numbers leaf.epoch (epoch_after before.epoch leaf.op) told.1;
    }

is-off : {A : Type 0} (x : Option A) (a : A) → x ≡ Some a → is_none x ≡ false
is-off None a e = absurd cc
is-off (Some x) a e = refl

law-off : (law : Option LawRefusal) (after : Option Text) (x : Text) → after ≡ Some x
    → (is_none law && is_none after) ≡ false
law-off None after x e = is-off after x e
law-off (Some refusal) after x e = refl

no-law : (law : Option LawRefusal) → law ≡ None → option_map Unlawful law ≡ None
no-law None e = refl
no-law (Some refusal) e = absurd cc

and-on : (a b : Bool) → a ≡ true → b ≡ true → (a && b) ≡ true
and-on true b e f = f
and-on false b e f = absurd cc

told-on : (before : Told) (leaf : Leaf) (after : Option Text) → after ≡ Some leaf.after
    → leaf.epoch ≡ epoch_after before.epoch leaf.op → is_told before leaf after ≡ true
told-on before leaf after a e = and-on (bytes_eq leaf.after (unwrap_or after []))
    (nat_eq leaf.epoch (epoch_after before.epoch leaf.op))
    (bytes-equal leaf.after (unwrap_or after []) (ap (λ (o : Option Text). unwrap_or o []) (sym a)))
    (numbers-equal leaf.epoch (epoch_after before.epoch leaf.op) e)

-- where it passes no row applies
pub no-refusal : (before : Told) (wall k : ℕ) (leaf : Leaf) (f : Finding)
    → PositionPasses before wall k leaf f → position_refusal before wall k leaf f ≡ None
unfolding position_refusal
no-refusal before wall k leaf f p =
    let law = law-found before wall k leaf.op f p.author p.changed p.finds_author p.finds_changed p.lawful in
    let hid = off-or (is_none f.author)
    (is_none f.changed || (is_none (law_found before wall k leaf.op f) && is_none f.after))
    (is-off f.author p.author p.finds_author)
    (off-or (is_none f.changed) (is_none (law_found before wall k leaf.op f) && is_none f.after)
    (is-off f.changed p.changed p.finds_changed)
    (law-off (law_found before wall k leaf.op f) f.after leaf.after p.after)) in
    none-all (RowsOf before wall k leaf f) (
      off-row (not f.signed) BadAuthorSignature (off-not f.signed p.signed),
      (
        off-row (not (bytes_eq f.list before.list) || is_hid before wall k leaf.op f) BadDictProof
            (off-or (not (bytes_eq f.list before.list)) (is_hid before wall k leaf.op f)
            (off-not (bytes_eq f.list before.list) (bytes-equal f.list before.list p.list)) hid),
        (
          no-law (law_found before wall k leaf.op f) law,
          (
            off-row (not f.seen) BadView (off-not f.seen p.seen),
            (
              off-row (not (is_told before leaf f.after)) WrongAfter
                  (off-not (is_told before leaf f.after) (told-on before leaf f.after p.after p.epoch)),
              tt,
            ),
          ),
        ),
      ),
    )

-- ---- over a state's own entries

same-some : {A : Type 0} (x : Option A) (a b : A) → x ≡ Some a → x ≡ Some b → a ≡ b
same-some x a b e f = cc

-- a state's own entry of the changed user
abbrev own-changed : State → Op → Option Entry
own-changed s op = option_and_then (λ (user : ℕ). entry_of s.entries user) (changed_user op.kind)

pub comes-next : (d : Digest) (s : State) (wall k : ℕ) (leaf : Leaf) (f : Finding) → IsOf d s leaf.op f
    → PositionPasses (told_of d s) wall k leaf f → ComesNext d s wall k leaf
unfolding law
comes-next d s wall k leaf f of p =
    let author = same-some f.author p.author (entry_of s.entries leaf.op.author) p.finds_author of.author in
    let changed = same-some f.changed p.changed (own-changed s leaf.op)
    p.finds_changed of.changed in
    let list = same-some f.after leaf.after (dict d (after s leaf.op).entries) p.after of.after in (
      ap (λ (x : Option Entry). law_of x (own-changed s leaf.op) s.epoch wall k leaf.op) (sym author)
          ∙ ap (λ (x : Option Entry). law_of p.author x s.epoch wall k leaf.op) (sym changed) ∙ p.lawful,
      ap (λ (x : Text). let t : Told = record { list = x; epoch = leaf.epoch } in t) list
          ∙ ap (λ (n : ℕ). let t : Told = record { list = dict d (after s leaf.op).entries; epoch = n } in t) p.epoch,
    )

pub next-passes : (d : Digest) (s : State) (wall k : ℕ) (leaf : Leaf) (f : Finding) → IsOf d s leaf.op f
    → f.signed ≡ true → f.list ≡ dict d s.entries → f.seen ≡ true → ComesNext d s wall k leaf
    → PositionPasses (told_of d s) wall k leaf f
unfolding law
next-passes d s wall k leaf f of signed list seen next = record {
  signed = signed;
  list = list;
  author = entry_of s.entries leaf.op.author;
  finds_author = of.author;
  changed = own-changed s leaf.op;
  finds_changed = of.changed;
  lawful = next.0;
  seen = seen;
  after = of.after ∙ ap Some (sym (ap (λ (t : Told). t.list) next.1));
  epoch = ap (λ (t : Told). t.epoch) next.1;
}

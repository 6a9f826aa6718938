-- The rows of a position one after the other, and going over positions.
use Rattle.std.proofs.Common.{◌≡◌, ◌≢◌, ℕ, ◌+◌, ◌<◌, ◌≤◌, Bool, true, false, not, ◌&&◌, ◌||◌, cond, List, [], ◌∷◌, length, map, drop, get_or, Option, Some, None, Result, Ok, Err, refl, sym, ap, ◌∙◌, arith}
use Rattle.std.specs.Prelude.{is_some, IfOk, nat_eq, nat_lt, if◌then◌else◌}
use Rattle.std.specs.Option.{option_or}
use Rattle.std.specs.Str.{bytes_eq}
use Rattle.std.specs.List.{drop-map}
use Rattle.std.proofs.lemmas.List.{drop_more, drop_all}
use Rattle.fr_digest.specs.Digest.{Digest}
use Rattle.op_types.specs.declared.kind.Kind.{Kind}
use Rattle.op_types.specs.declared.kind.Wrap.{Wrap}
use Rattle.op_types.specs.declared.kind.Kind.TheVariants.{Post, Admit, Remove}
use Rattle.op_types.specs.declared.op.Leaf.{Leaf}
use Rattle.op_types.specs.declared.op.Op.{Op}
use Rattle.op_types.specs.Kinds.{changed_user}
use Rattle.tree_model.specs.declared.entry.Entry.{Entry}
use Rattle.hist_proof.specs.Pruned.{Tree}
use Rattle.pruned_list.specs.PrunedList.{PrunedList, found, hid, seek}
use Rattle.dict_proof.specs.declared.pruned_dict.PrunedDict.{PrunedDict}
use Rattle.dict_proof.specs.Keeping.{KeepsAuthor}
use Rattle.dict_proof.specs.View.{list_view}
use Rattle.wall_law.specs.declared.refusal.LawRefusal.{LawRefusal}
use Rattle.wall_law.specs.declared.refusal.LawRefusal.TheVariants as laws
use Rattle.wall_law.specs.declared.refusal.PositionRefusal.{PositionRefusal}
use Rattle.wall_law.specs.declared.refusal.PositionRefusal.TheVariants as refusals
use Rattle.wall_law.specs.State.{change_of}
use Rattle.wall_law.specs.Law.{law_of, may_add, is_owner, next_of, fits_change, is_bad_change}
use Rattle.wall_law.specs.Lawful.{Told as Tells, told}
use Rattle.wall_law.specs.Position.{Finding, position_refusal}
use Rattle.msg_form.specs.declared.verdict.Verdict.{Verdict}
use Rattle.check_rules.specs.declared.known.Known.{Known}
use Rattle.check_core.specs.Finding.{refusal_behind}
use Rattle.check_rules.specs.Verdict.{looked, looked_user, position_verdict, positions_verdict}

-- ---- the rows of a position

pub not-signed : (before : Tells) (wall k : ℕ) (leaf : Leaf) (f : Finding) → f.signed ≡ false
    → position_refusal before wall k leaf f ≡ Some refusals.BadAuthorSignature
unfolding position_refusal
not-signed before wall k leaf f signed = rw signed refl

pub other-list : (before : Tells) (wall k : ℕ) (leaf : Leaf) (f : Finding) → f.signed ≡ true
    → bytes_eq f.list before.list ≡ false → position_refusal before wall k leaf f ≡ Some refusals.BadDictProof
unfolding position_refusal
other-list before wall k leaf f signed list = rw (signed, list) refl

pub hid-author : (before : Tells) (wall k : ℕ) (leaf : Leaf) (f : Finding) → f.signed ≡ true
    → bytes_eq f.list before.list ≡ true → f.author ≡ None
    → position_refusal before wall k leaf f ≡ Some refusals.BadDictProof
unfolding position_refusal
hid-author before wall k leaf f signed list author = rw (signed, list, author) refl

pub hid-changed : (before : Tells) (wall k : ℕ) (leaf : Leaf) (f : Finding) (a : Option Entry) → f.signed ≡ true
    → bytes_eq f.list before.list ≡ true → f.author ≡ Some a → f.changed ≡ None
    → position_refusal before wall k leaf f ≡ Some refusals.BadDictProof
unfolding position_refusal
hid-changed before wall k leaf f a signed list author changed = rw (signed, list, author, changed) refl

pub unlawful : (before : Tells) (wall k : ℕ) (leaf : Leaf) (f : Finding) (a c : Option Entry) (r : LawRefusal)
    → f.signed ≡ true → bytes_eq f.list before.list ≡ true → f.author ≡ Some a → f.changed ≡ Some c
    → law_of a c before.epoch wall k leaf.op ≡ Some r
    → position_refusal before wall k leaf f ≡ Some (refusals.Unlawful r)
unfolding position_refusal
unlawful before wall k leaf f a c r signed list author changed law = rw (signed, list, author, changed, law) refl

pub lawful-rest : (before : Tells) (wall k : ℕ) (leaf : Leaf) (f : Finding) (a c : Option Entry)
    → f.signed ≡ true → bytes_eq f.list before.list ≡ true → f.author ≡ Some a → f.changed ≡ Some c
    → law_of a c before.epoch wall k leaf.op ≡ None
    → position_refusal before wall k leaf f ≡ refusal_behind before leaf f
unfolding position_refusal refusal_behind
lawful-rest before wall k leaf f a c signed list author changed law = rw (signed, list, author, changed, law) refl

pub if-ok-same : {X E : Type 0} (r : Result X E) (a b : X) → IfOk r (λ (x : X). x ≡ a) → a ≡ b
    → IfOk r (λ (x : X). x ≡ b)
if-ok-same (Ok x) a b h e = h ∙ e
if-ok-same (Err x) a b h e = tt

pub if-ok-view : {X Y E : Type 0} (f : X → Y) (r : Result X E) (a b : Y) → IfOk r (λ (x : X). f x ≡ a) → a ≡ b
    → IfOk r (λ (x : X). f x ≡ b)
if-ok-view f (Ok x) a b h e = h ∙ e
if-ok-view f (Err x) a b h e = tt

-- ---- a change that the law lets stand keeps its author

skip : (b : Bool) (x : LawRefusal) (rest : Option LawRefusal) → cond b (Some x) rest ≡ None
    → (b ≡ false) × (rest ≡ None)
skip true x rest e = absurd cc
skip false x rest e = (refl, e)

both-off : (a b : Bool) → (not a || not b) ≡ false → (a ≡ true) × (b ≡ true)
both-off true true e = (refl, refl)
both-off true false e = absurd cc
both-off false b e = absurd cc

not-both : (c : Option Entry) (user slot : ℕ) (wraps : List Wrap) → is_owner c ≡ true
    → fits_change (Remove user slot wraps) c ≡ true → ⊥
not-both None user slot wraps owner fit = cc
not-both (Some x) user slot wraps owner fit = wrong (is_owner (Some x)) owner fit
  where
    wrong : (b : Bool) → b ≡ true → not b ≡ true → ⊥
    wrong true e f = cc
    wrong false e f = cc

keeps-kind : (kind : Kind) (author : ℕ) (p : PrunedList) (a c : Option Entry) → looked (seek p author) ≡ Some a
    → looked_user p (changed_user kind) ≡ Some c → may_add a ≡ true → is_bad_change a c kind ≡ false
    → KeepsAuthor p author (change_of kind)
keeps-kind (Post body) author p a c sa sc may bad = tt
keeps-kind (Admit user role slot wraps) author p a c sa sc may bad = tt
keeps-kind (Remove user slot wraps) author p a c sa sc may bad =
    let both = both-off (is_owner a) (fits_change (Remove user slot wraps) c) bad in (
      λ same. let one : a ≡ c = same-entry p user author a c same sa sc in
          not-both c user slot wraps (rw one at both.0) both.1,
      λ end. let none : a ≡ None = no-entry a (sym sa
          ∙ ap looked end) in let off : may_add None ≡ true = rw none at may in cc,
    )
  where
    same-entry : (p : PrunedList) (user author : ℕ) (a c : Option Entry) → user ≡ author
        → looked (seek p author) ≡ Some a
        → looked (seek p user) ≡ Some c → a ≡ c
    same-entry p user author a c same sa sc = let e : Some a ≡ Some c = sym sa
        ∙ ap (λ (u : ℕ). looked (seek p u)) (sym same) ∙ sc in cc

    no-entry : (a : Option Entry) → Some a ≡ Some None → a ≡ None
    no-entry a e = cc

pub keeps : (op : Op) (p : PrunedList) (a c : Option Entry) (epoch wall k : ℕ) → looked (seek p op.author) ≡ Some a
    → looked_user p (changed_user op.kind) ≡ Some c → law_of a c epoch wall k op ≡ None
    → KeepsAuthor p op.author (change_of op.kind)
unfolding law_of
keeps op p a c epoch wall k sa sc law =
    let one = skip (not (nat_eq op.wall wall)) laws.WrongWall (
    if not (may_add a) then Some laws.NotAllowed else (
    if not (nat_eq op.epoch epoch) then Some (laws.StaleEpoch epoch) else (
    if nat_lt op.seq (next_of a) then Some (laws.Replayed (next_of a)) else (
    if is_bad_change a c op.kind then Some laws.BadChange else (
    if nat_lt k op.view.size then Some laws.LateView else None))))) law in
    let two = skip (not (may_add a)) laws.NotAllowed (
    if not (nat_eq op.epoch epoch) then Some (laws.StaleEpoch epoch) else (
    if nat_lt op.seq (next_of a) then Some (laws.Replayed (next_of a)) else (
    if is_bad_change a c op.kind then Some laws.BadChange else (
    if nat_lt k op.view.size then Some laws.LateView else None)))) one.1 in
    let three = skip (not (nat_eq op.epoch epoch)) (laws.StaleEpoch epoch) (
    if nat_lt op.seq (next_of a) then Some (laws.Replayed (next_of a)) else (
    if is_bad_change a c op.kind then Some laws.BadChange else (
    if nat_lt k op.view.size then Some laws.LateView else None))) two.1 in
    let four = skip (nat_lt op.seq (next_of a)) (laws.Replayed (next_of a)) (
    if is_bad_change a c op.kind then Some laws.BadChange else (
    if nat_lt k op.view.size then Some laws.LateView else None)) three.1 in
    let five = skip (is_bad_change a c op.kind) laws.BadChange
    (if nat_lt k op.view.size then Some laws.LateView else None) four.1 in
    keeps-kind op.kind op.author p a c sa sc (on (may_add a) two.0) five.0
  where
    on : (b : Bool) → not b ≡ false → b ≡ true
    on true e = refl
    on false e = absurd cc

-- ---- going over positions

-- how far a check of positions has come
pub record Walks (d : Digest) (known : Known) (tree : Tree) (size : ℕ) (first : Tells) (k : ℕ) (leaves : List Leaf)
    (lists : List PrunedList) (before : Tells) (i : ℕ) : Type 0 where
  pub rest : positions_verdict d known tree size first k leaves lists
      ≡ positions_verdict d known tree size before (k + i) (drop i leaves) (drop i lists)

pub walk-first : (d : Digest) (known : Known) (tree : Tree) (size : ℕ) (first : Tells) (k : ℕ) (leaves : List Leaf)
    (lists : List PrunedList) → Walks d known tree size first k leaves lists first 0
walk-first d known tree size first k leaves lists = record {
  rest = ap (λ (n : ℕ). positions_verdict d known tree size first n leaves lists)
      (let same : k ≡ k + 0 = omega arith in same);
}

none-left : (d : Digest) (known : Known) (tree : Tree) (size : ℕ) (before : Tells) (k : ℕ) (lists : List PrunedList)
    → positions_verdict d known tree size before k [] lists ≡ None
unfolding positions_verdict
none-left d known tree size before k lists = refl

no-list : (d : Digest) (known : Known) (tree : Tree) (size : ℕ) (before : Tells) (k : ℕ) (leaf : Leaf)
    (leaves : List Leaf)
    → positions_verdict d known tree size before k (leaf ∷ leaves) [] ≡ None
unfolding positions_verdict
no-list d known tree size before k leaf leaves = refl

one-more : (d : Digest) (known : Known) (tree : Tree) (size : ℕ) (before : Tells) (k : ℕ) (leaf : Leaf)
    (leaves : List Leaf)
    (list : PrunedList) (lists : List PrunedList)
    → positions_verdict d known tree size before k (leaf ∷ leaves) (list ∷ lists)
    ≡ option_or (position_verdict d known tree size before k leaf list) (positions_verdict d known tree size
    (told leaf) (k + 1) leaves lists)
unfolding positions_verdict
one-more d known tree size before k leaf leaves list lists = refl

pub next-leaf : (leaves : List Leaf) (i : ℕ) (leaf : Leaf) → i < length leaves → leaf ≡ get_or leaves i leaf
    → drop i leaves ≡ leaf ∷ drop (i + 1) leaves
next-leaf leaves i leaf lt e = drop_more leaves i leaf lt ∙ ap (λ (x : Leaf). x ∷ drop (i + 1) leaves) (sym e)

pub next-list : (lists : List PrunedDict) (i : ℕ) (list : PrunedDict) → i < length lists → list ≡ get_or lists i list
    → drop i (map list_view lists) ≡ list_view list ∷ drop (i + 1) (map list_view lists)
next-list lists i list lt e =
    drop-map list_view i lists
    ∙ ap (map list_view) (drop_more lists i list lt ∙ ap (λ (x : PrunedDict). x ∷ drop (i + 1) lists) (sym e))
    ∙ ap (λ (ls : List PrunedList). list_view list ∷ ls) (sym (drop-map list_view (i + 1) lists))

pub no-next : (lists : List PrunedDict) (i : ℕ) → length lists ≤ i → drop i (map list_view lists) ≡ []
no-next lists i le = drop-map list_view i lists ∙ ap (map list_view) (drop_all i lists le)

not-some : (v : Option Verdict) → is_some v ≡ false → v ≡ None
not-some None e = refl
not-some (Some v) e = absurd cc

first-some : (v rest : Option Verdict) → is_some v ≡ true → option_or v rest ≡ v
first-some None rest e = absurd cc
first-some (Some v) rest e = refl

pub walk-here : (d : Digest) (known : Known) (tree : Tree) (size : ℕ) (first : Tells) (k : ℕ) (leaves : List Leaf)
    (lists : List PrunedList) (before : Tells) (i : ℕ) (leaf : Leaf) (list : PrunedList)
    → Walks d known tree size first k leaves lists before i → i < length leaves → leaf ≡ get_or leaves i leaf
    → drop i lists ≡ list ∷ drop (i + 1) lists
    → positions_verdict d known tree size first k leaves lists
    ≡ option_or (position_verdict d known tree size before (k + i) leaf list)
    (positions_verdict d known tree size (told leaf) (k + i + 1) (drop (i + 1) leaves) (drop (i + 1) lists))
walk-here d known tree size first k leaves lists before i leaf list h lt e here =
    h.rest
    ∙ ap (λ (xs : List Leaf). positions_verdict d known tree size before (k + i) xs (drop i lists))
    (next-leaf leaves i leaf lt e)
    ∙ ap (λ (ls : List PrunedList). positions_verdict d known tree size before (k + i) (leaf ∷ drop
    (i + 1) leaves) ls) here
    ∙ one-more d known tree size before (k + i) leaf (drop (i + 1) leaves) list (drop (i + 1) lists)

pub walk-on : (d : Digest) (known : Known) (tree : Tree) (size : ℕ) (first : Tells) (k : ℕ) (leaves : List Leaf)
    (lists : List PrunedList) (before next : Tells) (i : ℕ) (leaf : Leaf) (list : PrunedList) (v : Option Verdict)
    → Walks d known tree size first k leaves lists before i → i < length leaves → leaf ≡ get_or leaves i leaf
    → drop i lists ≡ list ∷ drop (i + 1) lists
    → v ≡ position_verdict d known tree size before (k + i) leaf list → is_some v ≡ false → next ≡ told leaf
    → Walks d known tree size first k leaves lists next (i + 1)
walk-on d known tree size first k leaves lists before next i leaf list v h lt e here is none same =
    let place : k + i + 1 ≡ k + (i + 1) = omega arith in
    record {
      rest = walk-here d known tree size first k leaves lists before i leaf list h lt e here
          ∙ ap (λ (o : Option Verdict). option_or o (positions_verdict d known tree size (told leaf) (k + i + 1)
          (drop (i + 1) leaves) (drop (i + 1) lists))) (sym is ∙ not-some v none)
          ∙ ap (λ (t : Tells). positions_verdict d known tree size t (k + i + 1) (drop (i + 1) leaves) (drop
          (i + 1) lists)) (sym same)
          ∙ ap (λ (n : ℕ). positions_verdict d known tree size next n (drop (i + 1) leaves) (drop
          (i + 1) lists)) place;
    }

pub walk-stops : (d : Digest) (known : Known) (tree : Tree) (size : ℕ) (first : Tells) (k : ℕ) (leaves : List Leaf)
    (lists : List PrunedList) (before : Tells) (i : ℕ) (leaf : Leaf) (list : PrunedList) (v : Option Verdict)
    → Walks d known tree size first k leaves lists before i → i < length leaves → leaf ≡ get_or leaves i leaf
    → drop i lists ≡ list ∷ drop (i + 1) lists
    → v ≡ position_verdict d known tree size before (k + i) leaf list → is_some v ≡ true
    → v ≡ positions_verdict d known tree size first k leaves lists
walk-stops d known tree size first k leaves lists before i leaf list v h lt e here is some =
    sym (walk-here d known tree size first k leaves lists before i leaf list h lt e here
    ∙ ap (λ (o : Option Verdict). option_or o
    (positions_verdict d known tree size (told leaf) (k + i + 1) (drop (i + 1) leaves) (drop (i + 1) lists))) (sym is)
    ∙ first-some v (positions_verdict d known tree size (told leaf) (k + i + 1) (drop (i + 1) leaves) (drop
    (i + 1) lists)) some)

pub walk-short : (d : Digest) (known : Known) (tree : Tree) (size : ℕ) (first : Tells) (k : ℕ) (leaves : List Leaf)
    (lists : List PrunedList) (before : Tells) (i : ℕ) (leaf : Leaf)
    → Walks d known tree size first k leaves lists before i → i < length leaves → leaf ≡ get_or leaves i leaf
    → drop i lists ≡ [] → positions_verdict d known tree size first k leaves lists ≡ None
walk-short d known tree size first k leaves lists before i leaf h lt e none =
    h.rest
    ∙ ap (λ (xs : List Leaf). positions_verdict d known tree size before (k + i) xs (drop i lists))
    (next-leaf leaves i leaf lt e)
    ∙ ap (λ (ls : List PrunedList). positions_verdict d known tree size before (k + i) (leaf ∷ drop
    (i + 1) leaves) ls) none
    ∙ no-list d known tree size before (k + i) leaf (drop (i + 1) leaves)

pub walk-ends : (d : Digest) (known : Known) (tree : Tree) (size : ℕ) (first : Tells) (k : ℕ) (leaves : List Leaf)
    (lists : List PrunedList) (before : Tells) (i : ℕ)
    → Walks d known tree size first k leaves lists before i → length leaves ≤ i
    → positions_verdict d known tree size first k leaves lists ≡ None
walk-ends d known tree size first k leaves lists before i h le =
    h.rest
    ∙ ap (λ (xs : List Leaf). positions_verdict d known tree size before (k + i) xs (drop i lists))
    (drop_all i leaves le)
    ∙ none-left d known tree size before (k + i) (drop i lists)

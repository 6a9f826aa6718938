-- Comparisons that are made in order.
use Rattle.std.proofs.Common.{◌≡◌, ◌∙◌, ℕ, ◌+◌, ◌<◌, ◌≤◌, true, false, List, [], ◌∷◌, ◌++◌, length, map, take, drop, get_or, Option, Some, None, refl, sym, ap, subst}
use Rattle.std.specs.Prelude.{IsNone, is_some}
use Rattle.std.specs.List.{AllByRecursion, flat_map}
use Rattle.std.specs.Option.{option_map, option_or}
use Rattle.fr_bytes.specs.Bytes.{Text}
use Rattle.fr_bytes.proofs.Lists.{each-append}
use Rattle.fr_digest.specs.Collision.{Strings}
use Rattle.fr_digest.specs.Digest.{Digest}
use Rattle.hist_proof.specs.Pruned.{Prunes, Tree, digest_of, fits}
use Rattle.pruned_list.specs.PrunedList.{PrunedList, PrunesDict}
use Rattle.tree_extract.specs.AccessListDifference.{dict_difference}
use Rattle.tree_extract.specs.Difference.{list_difference}
use Rattle.tree_extract.specs.PrunedDifference.{history_difference}
use Rattle.op_types.specs.declared.op.Leaf.{Leaf}
use Rattle.wall_law.specs.State.{state_of}
use Rattle.tree_model.specs.AccessList.{IsRising}
use Rattle.tree_model.specs.AccessList.{dict as set_root}
use Rattle.tree_model.specs.History.{root, root_of_all}
use Rattle.pruned_list.specs.PrunedList as list_digest
use Rattle.std.proofs.lemmas.List.{drop_all, length-map, length-take-le}
use Rattle.tree_model.specs.declared.entry.Entry.{Entry}
use Rattle.world_audit.specs.Comparisons.{Agrees, Comparison, dict, dicts_compared, first_difference, lists, some_in, strings_of, texts_of, tree}
use Rattle.world_audit.specs.Ready.{AreReady, IsReady}
use Rattle.tree_extract.proofs.Differences.{list_difference-same}
use Rattle.tree_model.proofs.HistoryLaws.{root-length}
use Rattle.hist_proof.proofs.Trees.{fits-is}
use Rattle.tree_extract.proofs.PrunedDifferences.{history_difference-prunes}
use Rattle.op_types.specs.Spelling.{leaf_text}
use Rattle.audit_run.specs.Compared.{Compared}
use Rattle.audit_run.proofs.Searching.{Search, next-is}

module _ (d : Digest) where
  first-append : (xs ys : List Comparison) → first_difference d (xs ++ ys) ≡ option_or (first_difference d xs) (first_difference d ys)
  unfolding first_difference
  first-append [] ys = refl
  first-append (x ∷ xs) ys =
      ap (option_or (strings_of d x)) (first-append xs ys) ∙ or-or (strings_of d x) (first_difference d xs) (first_difference d ys)
    where
      or-or : (a b c : Option Strings) → option_or a (option_or b c) ≡ option_or (option_or a b) c
      or-or None b c = refl
      or-or (Some a) b c = refl

  none-found : Compared d [] None
  unfolding first_difference
  none-found = record { first = refl; agree = λ none. tt }

  then-found : (xs ys : List Comparison) (o : Option Strings) → Compared d xs None → Compared d ys o → Compared d (xs ++ ys) o
  then-found xs ys o before here = record {
    first = here.first ∙ ap (λ (p : Option Strings). option_or p (first_difference d ys)) before.first ∙ sym (first-append xs ys);
    agree = λ none. each-append (Agrees d) xs ys (before.agree refl) (here.agree none);
  }

  first-found : (xs ys : List Comparison) (s : Strings) → Compared d xs (Some s) → Compared d (xs ++ ys) (Some s)
  first-found xs ys s here = record {
    first = ap (λ (p : Option Strings). option_or p (first_difference d ys)) here.first ∙ sym (first-append xs ys);
    agree = λ none. absurd cc;
  }

  pub compares : Search (Compared d)
  compares = record { none = none-found; on = then-found; stop = first-found }

  pub ready-front : (xs ys : List Comparison) → AreReady d (xs ++ ys) → AreReady d xs
  unfolding AreReady
  ready-front [] ys ready = tt
  ready-front (x ∷ xs) ys ready = (ready.0, λ agrees. ready-front xs ys (ready.1 agrees))

  pub ready-back : (xs ys : List Comparison) → AreReady d (xs ++ ys) → AllByRecursion (Agrees d) xs → AreReady d ys
  unfolding AreReady
  ready-back [] ys ready all = ready
  ready-back (x ∷ xs) ys ready all = ready-back xs ys (ready.1 all.0) all.1

  pub ready-one : (c : Comparison) → AreReady d (c ∷ []) → IsReady d c
  unfolding AreReady
  ready-one c ready = ready.0

  -- one comparison
  one : (c : Comparison) (o : Option Strings) → o ≡ strings_of d c → (o ≡ None → Agrees d c) → Compared d (c ∷ []) o
  unfolding first_difference
  one c o is agree = record { first = is ∙ sym (or-none (strings_of d c)); agree = λ none. (agree none, tt) }
    where
      or-none : (p : Option Strings) → option_or p None ≡ p
      or-none None = refl
      or-none (Some s) = refl

  is-none : {A : Type 0} (o : Option A) → o ≡ None → IsNone o
  is-none None e = refl
  is-none (Some x) e = absurd cc

  pub tree-compared : (p : Tree) (texts : List Text) (o : Option Strings) → o ≡ history_difference d p texts
      → (IsNone o → Prunes d p texts) → Compared d (tree p texts ∷ []) o
  unfolding strings_of Agrees
  tree-compared p texts o is agree = one (tree p texts) o is (λ e. agree (is-none o e))

  pub lists-compared : (a b : List Text) (o : Option Strings) → o ≡ list_difference d a b
      → (IsNone o → a ≡ b) → Compared d (lists a b ∷ []) o
  unfolding strings_of Agrees
  lists-compared a b o is agree = one (lists a b) o is (λ e. agree (is-none o e))

  pub dict-compared : (p : PrunedList) (E : List Entry) (o : Option Strings) → o ≡ dict_difference d p E
      → (IsNone o → PrunesDict d p E) → Compared d (dict p E ∷ []) o
  unfolding strings_of Agrees
  dict-compared p E o is agree = one (dict p E) o is (λ e. agree (is-none o e))

-- The rest is ready, and what is found in it is what is found in all of them.
pub record Remains (d : Digest) (rest all : List Comparison) : Type 0 where
  pub ready : AreReady d rest
  pub later : (o : Option Strings) → Compared d rest o → Compared d all o

module _ (d : Digest) where
  pub ready-dict : (p : PrunedList) (E : List Entry) → AreReady d (dict p E ∷ [])
      → (0 < length E) × IsRising E × (list_digest.digest_of d p ≡ set_root d E)
  unfolding IsReady
  ready-dict p E ready = ready-one d (dict p E) ready

  pub ready-tree : (p : Tree) (texts : List Text) → AreReady d (tree p texts ∷ [])
      → (fits p (length texts) ≡ true) × (digest_of d p ≡ root_of_all d texts)
  unfolding IsReady
  ready-tree p texts ready = ready-one d (tree p texts) ready

  pub ready-lists : (a b : List Text) → AreReady d (lists a b ∷ [])
      → (0 < length a) × (length a ≡ length b) × (root_of_all d a ≡ root_of_all d b)
  unfolding IsReady
  ready-lists a b ready = ready-one d (lists a b) ready

-- ---- the pruned lists

all-remain : (d : Digest) (cs : List Comparison) → AreReady d cs → Remains d cs cs
all-remain d cs ready = record { ready = ready; later = λ o found. found }

-- one behind the other
pub next-remain : (d : Digest) (c : Comparison) (rest all : List Comparison) (o : Option Strings) → Remains d (c ∷ rest) all
    → Compared d (c ∷ []) o → is_some o ≡ false → Remains d rest all
next-remain d c rest all None it here absent = record {
  ready = ready-back d (c ∷ []) rest it.ready (here.agree refl);
  later = λ o found. it.later o ((compares d).on (c ∷ []) rest o here found);
}
next-remain d c rest all (Some s) it here absent = absurd cc

pub stop-remain : (d : Digest) (c : Comparison) (rest all : List Comparison) (o : Option Strings) → Remains d (c ∷ rest) all
    → Compared d (c ∷ []) o → is_some o ≡ true → Compared d all o
stop-remain d c rest all None it here there = absurd cc
stop-remain d c rest all (Some s) it here there = it.later (Some s) ((compares d).stop (c ∷ []) rest s here)

pub first-ready : (d : Digest) (c : Comparison) (rest all : List Comparison) → Remains d (c ∷ rest) all → AreReady d (c ∷ [])
first-ready d c rest all it = ready-front d (c ∷ []) rest it.ready

dicts-next : (owner : ℕ) (L : List Leaf) (k : ℕ) (p : PrunedList) (ps : List PrunedList)
    → dicts_compared owner L k (p ∷ ps) ≡ dict p (state_of owner (take k L)).entries ∷ dicts_compared owner L (k + 1) ps
unfolding dicts_compared
dicts-next owner L k p ps = refl

dicts-none : (owner : ℕ) (L : List Leaf) (k : ℕ) → dicts_compared owner L k [] ≡ []
unfolding dicts_compared
dicts-none owner L k = refl

module _ {A : Type 0} (view : A → PrunedList) (d : Digest) (owner : ℕ) (L : List Leaf) where
  abbrev pub RestFrom : ℕ → ℕ → ℕ → List A → Type 0
  RestFrom from k i xs = Remains d (dicts_compared owner L k (map view (drop i xs))) (dicts_compared owner L from (map view xs))

  here-is : (from k i : ℕ) (xs : List A) (x : A) → i < length xs → x ≡ get_or xs i x → RestFrom from k i xs
      → Remains d (dict (view x) (state_of owner (take k L)).entries ∷ dicts_compared owner L (k + 1) (map view (drop (i + 1) xs)))
      (dicts_compared owner L from (map view xs))
  here-is from k i xs x less is rest =
      subst (λ (cs : List Comparison). Remains d cs (dicts_compared owner L from (map view xs)))
      (ap (λ (ys : List A). dicts_compared owner L k (map view ys)) (next-is xs i x less is)
      ∙ dicts-next owner L k (view x) (map view (drop (i + 1) xs))) rest

  pub dict-ready : (from k i : ℕ) (xs : List A) (x : A) → i < length xs → x ≡ get_or xs i x → RestFrom from k i xs
      → AreReady d (dict (view x) (state_of owner (take k L)).entries ∷ [])
  dict-ready from k i xs x less is rest =
      first-ready d (dict (view x) (state_of owner (take k L)).entries) (dicts_compared owner L (k + 1) (map view (drop (i + 1) xs)))
      (dicts_compared owner L from (map view xs)) (here-is from k i xs x less is rest)

  pub dict-on : (from k i : ℕ) (xs : List A) (x : A) (o : Option Strings) → i < length xs → x ≡ get_or xs i x → RestFrom from k i xs
      → Compared d (dict (view x) (state_of owner (take k L)).entries ∷ []) o → is_some o ≡ false → RestFrom from (k + 1) (i + 1) xs
  dict-on from k i xs x o less is rest found absent =
      next-remain d (dict (view x) (state_of owner (take k L)).entries) (dicts_compared owner L (k + 1) (map view (drop (i + 1) xs)))
      (dicts_compared owner L from (map view xs)) o (here-is from k i xs x less is rest) found absent

  pub dict-stop : (from k i : ℕ) (xs : List A) (x : A) (o : Option Strings) → i < length xs → x ≡ get_or xs i x → RestFrom from k i xs
      → Compared d (dict (view x) (state_of owner (take k L)).entries ∷ []) o → is_some o ≡ true
      → Compared d (dicts_compared owner L from (map view xs)) o
  dict-stop from k i xs x o less is rest found there =
      stop-remain d (dict (view x) (state_of owner (take k L)).entries) (dicts_compared owner L (k + 1) (map view (drop (i + 1) xs)))
      (dicts_compared owner L from (map view xs)) o (here-is from k i xs x less is rest) found there

  pub dicts-over : (from k i : ℕ) (xs : List A) → length xs ≤ i → RestFrom from k i xs
      → Compared d (dicts_compared owner L from (map view xs)) None
  dicts-over from k i xs past rest =
      rest.later None (subst (λ (cs : List Comparison). Compared d cs None)
      (sym (ap (λ (ys : List A). dicts_compared owner L k (map view ys)) (drop_all i xs past) ∙ dicts-none owner L k))
      ((compares d).none))

pub same-compared : (d : Digest) (a b : List Text) → a ≡ b → Compared d (lists a b ∷ []) None
same-compared d a b same = lists-compared d a b None (sym (list_difference-same d a b same)) (λ none. same)

-- lists that are written out
pub root-lists : (d : Digest) (a b x y : List Text) → AreReady d (lists a b ∷ []) → x ≡ a → y ≡ b
    → (0 < length x) × (length x ≡ length y) × (root d x (length x) ≡ root d y (length y))
root-lists d a b x y ready is also =
    let it = ready-lists d a b ready in (
      subst (λ (z : List Text). 0 < length z) (sym is) it.0,
      ap length is ∙ it.1 ∙ ap length (sym also),
      root-length d x ∙ ap (root_of_all d) is ∙ it.2 ∙ sym (root-length d y ∙ ap (root_of_all d) also),
    )

pub lists-written : (d : Digest) (a b x y : List Text) (o : Option Strings) → x ≡ a → y ≡ b → o ≡ list_difference d x y
    → (IsNone o → x ≡ y) → Compared d (lists a b ∷ []) o
lists-written d a b x y o is also value none =
    subst (λ (z : List Text). Compared d (lists z b ∷ []) o) is
    (subst (λ (z : List Text). Compared d (lists x z ∷ []) o) also (lists-compared d x y o value none))

-- ---- the tree

abbrev pub trees_cut : List Text → Option Tree → List Comparison
trees_cut texts front = map (λ (c : Tree). tree c texts) (some_in front)

pub no-tree : {A : Type 0} (view : A → Tree) (d : Digest) (texts : List Text) (front : Option Tree) (o : Option A) → option_map view o ≡ front → o ≡ None
    → Compared d (trees_cut texts front) None
no-tree view d texts front o is none =
    subst (λ (p : Option Tree). Compared d (trees_cut texts p) None) (ap (option_map view) (sym none) ∙ is) ((compares d).none)

pub one-tree : {A : Type 0} (view : A → Tree) (texts : List Text) (front : Option Tree) (o : Option A) (x : A) → option_map view o ≡ front → o ≡ Some x
    → tree (view x) texts ∷ [] ≡ trees_cut texts front
one-tree view texts front o x is some = ap (trees_cut texts) (ap (option_map view) (sym some) ∙ is)

pub tree-fits : (d : Digest) (p : Tree) (texts : List Text) (v : ℕ) → AreReady d (tree p texts ∷ []) → length texts ≡ v
    → (fits p v ≡ true) × (0 < v) × (digest_of d p ≡ root d texts (length texts))
tree-fits d p texts v ready long =
    let it = ready-tree d p texts ready in
    let e : fits p v ≡ true = ap (fits p) (sym long) ∙ it.0 in
    (e, (fits-is p v e).some, it.1 ∙ sym (root-length d texts))

pub long-texts : (v : ℕ) (leaves : List Leaf) → v ≤ length leaves → length (texts_of (take v leaves)) ≡ v
long-texts v leaves within = length-map (take v leaves) leaf_text ∙ length-take-le v leaves within

pub pruned-compared : (d : Digest) (p : Tree) (texts : List Text) → Prunes d p texts → Compared d (tree p texts ∷ []) None
pruned-compared d p texts prunes =
    tree-compared d p texts None (sym (history_difference-prunes d p texts prunes)) (λ none. prunes)

-- ---- many

module _ {X : Type 0} (d : Digest) (f : X → List Comparison) where
  abbrev pub ManyRest : ℕ → List X → Type 0
  ManyRest i xs = Remains d (flat_map f (drop i xs)) (flat_map f xs)

  pub many-begin : (xs : List X) → AreReady d (flat_map f xs) → ManyRest 0 xs
  many-begin xs ready = record { ready = ready; later = λ o found. found }

  split-here : (i : ℕ) (xs : List X) (x : X) → i < length xs → x ≡ get_or xs i x
      → flat_map f (drop i xs) ≡ f x ++ flat_map f (drop (i + 1) xs)
  split-here i xs x less is = ap (flat_map f) (next-is xs i x less is)

  pub many-ready : (i : ℕ) (xs : List X) (x : X) → i < length xs → x ≡ get_or xs i x → ManyRest i xs → AreReady d (f x)
  many-ready i xs x less is rest =
      ready-front d (f x) (flat_map f (drop (i + 1) xs)) (subst (AreReady d) (split-here i xs x less is) rest.ready)

  pub many-on : (i : ℕ) (xs : List X) (x : X) (o : Option Strings) → i < length xs → x ≡ get_or xs i x → ManyRest i xs
      → Compared d (f x) o → is_some o ≡ false → ManyRest (i + 1) xs
  many-on i xs x None less is rest found absent = record {
    ready = ready-back d (f x) (flat_map f (drop (i + 1) xs)) (subst (AreReady d) (split-here i xs x less is) rest.ready) (found.agree refl);
    later = λ o after. rest.later o (subst (λ (cs : List Comparison). Compared d cs o) (sym (split-here i xs x less is))
        ((compares d).on (f x) (flat_map f (drop (i + 1) xs)) o found after));
  }
  many-on i xs x (Some s) less is rest found absent = absurd cc

  pub many-stop : (i : ℕ) (xs : List X) (x : X) (o : Option Strings) → i < length xs → x ≡ get_or xs i x → ManyRest i xs
      → Compared d (f x) o → is_some o ≡ true → Compared d (flat_map f xs) o
  many-stop i xs x None less is rest found there = absurd cc
  many-stop i xs x (Some s) less is rest found there =
      rest.later (Some s) (subst (λ (cs : List Comparison). Compared d cs (Some s)) (sym (split-here i xs x less is))
      ((compares d).stop (f x) (flat_map f (drop (i + 1) xs)) s found))

  pub many-over : (i : ℕ) (xs : List X) → length xs ≤ i → ManyRest i xs → Compared d (flat_map f xs) None
  many-over i xs past rest =
      rest.later None (subst (λ (ys : List X). Compared d (flat_map f ys) None) (sym (drop_all i xs past)) ((compares d).none))

-- ---- one list of comparisons behind another

pub behind-ready : (d : Digest) (xs ys : List Comparison) (o : Option Strings) → AreReady d (xs ++ ys) → Compared d xs o → is_some o ≡ false
    → AreReady d ys
behind-ready d xs ys None ready found absent = ready-back d xs ys ready (found.agree refl)
behind-ready d xs ys (Some s) ready found absent = absurd cc

pub stops-there : (d : Digest) (xs ys : List Comparison) (o : Option Strings) → Compared d xs o → is_some o ≡ true → Compared d (xs ++ ys) o
stops-there d xs ys None found there = absurd cc
stops-there d xs ys (Some s) found there = (compares d).stop xs ys s found

pub goes-behind : (d : Digest) (xs ys : List Comparison) (o p : Option Strings) → Compared d xs o → is_some o ≡ false → Compared d ys p
    → Compared d (xs ++ ys) p
goes-behind d xs ys None p found absent after = (compares d).on xs ys p found after
goes-behind d xs ys (Some s) p found absent after = absurd cc

-- No two wraps of a plan use one stream of one key.
use Rattle.std.proofs.Common.{◌≡◌, ◌∙◌, ◌⊎◌, inl, inr, ℕ, zero, suc, ◌+◌, ◌-◌, ◌*◌, ◌/◌, ◌^◌, ◌<◌, ◌≤◌, Bool, true, false, List, [], ◌∷◌, ◌++◌, Option, Some, None, Result, Ok, Err, eq-eqb, refl, ap, sym, subst, arith}
use Rattle.std.specs.Prelude.{if◌then◌else◌, is_none, nat_eq, nat_lt, option_map, slice_get}
use Rattle.std.specs.List.{cons_option, filter_map, flat_map}
use Rattle.std.proofs.lemmas.Bool.{cases_lt, cond-true, cond-false, eqb-true, false≢true}
use Rattle.std.proofs.Math.Nat.{pow-suc, one-le-pow}
use Rattle.fr_bytes.specs.Bytes.{Text}
use Rattle.op_types.specs.declared.kind.Wrap.{Wrap}
use Rattle.key_graph.specs.declared.change.Change.{Change}
use Rattle.key_graph.specs.declared.change.KeyChange.{KeyChange}
use Rattle.key_graph.specs.declared.change.KeyChange.TheVariants.{Admit, Remove}
use Rattle.key_graph.specs.declared.change.Member.{Member}
use Rattle.key_graph.specs.declared.change.PlanRefusal.{PlanRefusal}
use Rattle.key_graph.specs.declared.change.Setting.{Setting}
use Rattle.key_graph.specs.Slots.{least_below}
use Rattle.key_graph.specs.KeyTree.{Plan, Tree, after, ancestors, children, fits, followed_by, holder, holder_after, is_held, key_at, planned, place_of, sealed, slot_node, slot_of, with_wraps, wrap_at, wrap_stream, wraps_above, wraps_of}
use Rattle.key_graph.specs.Reach.{Among, HasSlot, KeyName, leaf, inner, named}
use Rattle.key_graph.specs.Streams.{AreFit, IsPlan, Use, WrapUses}
use Rattle.key_graph.proofs.Law.{and_left, high, low}
use Rattle.key_graph.proofs.Runs.{place_fits, place_within, planned_place}

-- ---- a user has one slot

not-both : {P : Type 0} {b : Bool} → b ≡ true → b ≡ false → P
not-both is isnt = absurd (let f = sym is ∙ isnt in cc)

none_step : (test : ℕ → Bool) (n : ℕ) (o : Option ℕ) → least_below test n ≡ o → (b : Bool) → test n ≡ b
    → least_below test (suc n) ≡ None
    → (o ≡ None) × (b ≡ false)
none_step test n (Some j) h b t e = let f : Some j ≡ None = rw h at e in absurd cc
none_step test n None h true t e = let f : Some n ≡ None = rw (h, t) at e in absurd cc
none_step test n None h false t e = (refl, refl)

-- where none is found, none passes
none_passes : (test : ℕ → Bool) (n i : ℕ) → least_below test n ≡ None → i < n → test i ≡ true → ⊥
none_passes test zero i e h p = omega arith
none_passes test (suc n) i e h p =
    let r = none_step test n (least_below test n) refl (test n) refl e in
    elim (cases_lt i n) [
      | inl less ↦ none_passes test n i r.0 less p
      | inr at ↦ (let same : i ≡ n = omega arith in not-both p (ap test same ∙ r.1))
    ]

is-none : (o : Option ℕ) → is_none o ≡ true → o ≡ None
is-none None e = refl
is-none (Some x) e = absurd cc

clash : (t : ℕ) (cs : List Change) (what : KeyChange) (slot u s : ℕ) → fits t cs slot what ≡ true
    → is_held (Some u) (holder_after what) ≡ true
    → HasSlot t cs u s → ⊥
clash t cs (Admit v key) slot u s fit held has =
    let same = eqb-true v u held in
    let none : slot_of t cs u ≡ None = ap (slot_of t cs) (sym same) ∙ is-none (slot_of t cs v) (and_left _ _ fit) in
    none_passes (λ i. is_held (Some u) (holder cs i)) (2 ^ t) s none has.within has.held
clash t cs (Remove v) slot u s fit held has = absurd cc

held-so : (c : Change) (cs : List Change) (u s : ℕ) (b : Bool) → nat_eq c.slot s ≡ b
    → is_held (Some u) (holder (c ∷ cs) s) ≡ true
    → is_held (Some u) (if b then holder_after c.what else holder cs s) ≡ true
held-so c cs u s b e h = subst (λ (x : Bool). is_held (Some u) (if x then holder_after c.what else holder cs s)
    ≡ true) e h

-- Where each change fitted, no user has two slots.
pub one_slot : (t : ℕ) (cs : List Change) (u s r : ℕ) → AreFit t cs → HasSlot t cs u s → HasSlot t cs u r → s ≡ r
one_slot t [] u s r fit a b = let f = a.held in absurd cc
one_slot t (c ∷ cs) u s r fit a b = by (nat_eq c.slot s) refl (nat_eq c.slot r) refl (one_slot t cs u s r fit.1)
  where
    by : (x : Bool) → nat_eq c.slot s ≡ x → (y : Bool) → nat_eq c.slot r ≡ y → (HasSlot t cs u s
        → HasSlot t cs u r → s ≡ r) → s ≡ r
    by true e true f rest = sym (eqb-true c.slot s e) ∙ eqb-true c.slot r f
    by true e false f rest = absurd (clash t cs c.what c.slot u r fit.0 (held-so c cs u s true e a.held)
        (record { within = b.within; held = held-so c cs u r false f b.held }))
    by false e true f rest = absurd (clash t cs c.what c.slot u s fit.0 (held-so c cs u r true f b.held)
        (record { within = a.within; held = held-so c cs u s false e a.held }))
    by false e false f rest = rest (record { within = a.within; held = held-so c cs u s false e a.held })
        (record { within = b.within; held = held-so c cs u r false f b.held })

-- ---- the children of the nodes above a slot

abbrev kids : ℕ → ℕ → List ℕ
kids k n = flat_map children (ancestors k n)

most : (k n y : ℕ) → Among y (kids k n) → y ≤ 2 * (n / 2) + 1
most zero n y a = absurd a
most (suc k) n y (inl e) = omega arith
most (suc k) n y (inr (inl e)) = omega arith
most (suc k) n y (inr (inr a)) = let m = most k (n / 2) y a in omega arith

half : (k n : ℕ) → 2 ^ suc k ≤ n → (2 ^ k ≤ n / 2) × (1 ≤ n / 2)
half k n big =
    let e : 2 ^ suc k ≡ 2 ^ k * 2 = pow-suc 2 k in
    let one : 1 ≤ 2 ^ k = one-le-pow k 2 (omega arith) in
    (omega arith, omega arith)

least : (k n y : ℕ) → 2 ^ k ≤ n → Among y (kids k n) → 2 ≤ y
least zero n y big a = absurd a
least (suc k) n y big (inl e) = let h = half k n big in omega (arith, h.1)
least (suc k) n y big (inr (inl e)) = let h = half k n big in omega (arith, h.1)
least (suc k) n y big (inr (inr a)) = least k (n / 2) y (half k n big).0 a

abbrev AllApart : List ℕ → Type 0
AllApart [] = Unit {0}
AllApart (x ∷ xs) = (Among x xs → ⊥) × AllApart xs

kids-apart : (k n : ℕ) → 2 ^ k ≤ n → AllApart (kids k n)
kids-apart zero n big = tt
kids-apart (suc k) n big = (first, (second, kids-apart k (n / 2) (half k n big).0))
  where
    one : 1 ≤ n / 2
    one = (half k n big).1

    first : Among (2 * (n / 2)) ((2 * (n / 2) + 1) ∷ kids k (n / 2)) → ⊥
    first (inl e) = omega arith
    first (inr a) = let m = most k (n / 2) (2 * (n / 2)) a in let o = one in omega arith

    second : Among (2 * (n / 2) + 1) (kids k (n / 2)) → ⊥
    second a = let m = most k (n / 2) (2 * (n / 2) + 1) a in let o = one in omega arith

-- ---- where a wrap stands

module _ (f : ℕ → Option Wrap) (of : (y : ℕ) (w : Wrap) → f y ≡ Some w → w.child ≡ y) where
  in-front : (x : ℕ) (xs : List ℕ) (o : Option Wrap) (i : ℕ) (w : Wrap) → f x ≡ o → (i : ℕ)
      → slice_get (cons_option o (filter_map f xs)) i ≡ Some w
      → ((j : ℕ) → slice_get (filter_map f xs) j ≡ Some w → Among w.child xs) → Among w.child (x ∷ xs)
  in-front x xs None _ w e i at rest = inr (rest i at)
  in-front x xs (Some v) _ w e zero at rest =
      let same : v ≡ w = cc in inl (ap (λ (z : Wrap). z.child) (sym same) ∙ of x v e)
  in-front x xs (Some v) _ w e (suc i) at rest = inr (rest i at)

  child-among : (xs : List ℕ) (i : ℕ) (w : Wrap) → slice_get (filter_map f xs) i ≡ Some w → Among w.child xs
  child-among [] i w at = absurd cc
  child-among (x ∷ xs) i w at = in-front x xs (f x) i w refl i at (λ j. child-among xs j w)

  one-of : (x : ℕ) (xs : List ℕ) (o : Option Wrap) (i j : ℕ) (w v : Wrap) → f x ≡ o → (Among x xs → ⊥)
      → slice_get (cons_option o (filter_map f xs)) i ≡ Some w → slice_get (cons_option o (filter_map f xs)) j
      ≡ Some v → w.child ≡ v.child
      → ((k l : ℕ) → slice_get (filter_map f xs) k ≡ Some w → slice_get (filter_map f xs) l ≡ Some v → k ≡ l) → i ≡ j
  one-of x xs None i j w v e apart a b same rest = rest i j a b
  one-of x xs (Some z) zero zero w v e apart a b same rest = refl
  one-of x xs (Some z) zero (suc j) w v e apart a b same rest =
      let it : z ≡ w = cc in
      let at : v.child ≡ x = sym same ∙ (ap (λ (q : Wrap). q.child) (sym it) ∙ of x z e) in
      absurd (apart (subst (λ (n : ℕ). Among n xs) at (child-among xs j v b)))
  one-of x xs (Some z) (suc i) zero w v e apart a b same rest =
      let it : z ≡ v = cc in
      let at : w.child ≡ x = same ∙ (ap (λ (q : Wrap). q.child) (sym it) ∙ of x z e) in
      absurd (apart (subst (λ (n : ℕ). Among n xs) at (child-among xs i w a)))
  one-of x xs (Some z) (suc i) (suc j) w v e apart a b same rest = ap suc (rest i j a b)

  one-place : (xs : List ℕ) (i j : ℕ) (w v : Wrap) → AllApart xs → slice_get (filter_map f xs) i ≡ Some w
      → slice_get (filter_map f xs) j ≡ Some v
      → w.child ≡ v.child → i ≡ j
  one-place [] i j w v apart a b same = absurd cc
  one-place (x ∷ xs) i j w v apart a b same =
      one-of x xs (f x) i j w v refl apart.0 a b same (λ k l p q. one-place xs k l w v apart.1 p q same)

of-child : (setting : Setting) (cs : List Change) (g y : ℕ) (w : Wrap) → wrap_at setting cs g y ≡ Some w → w.child ≡ y
unfolding wrap_at
of-child setting cs g y w e = by (key_at setting cs y) e
  where
    by : (o : Option Text) → option_map (sealed setting cs g y) o ≡ Some w → w.child ≡ y
    by None e' = absurd cc
    by (Some key) e' = let same : sealed setting cs g y key ≡ w = cc in ap (λ (z : Wrap). z.child) (sym same)

-- ---- a plan's uses

abbrev node-of : KeyName → ℕ
node-of (leaf v) = 0
node-of (inner x g) = x

abbrev user-of : KeyName → ℕ
user-of (leaf v) = v
user-of (inner x g) = 0

abbrev is-leaf : KeyName → Bool
is-leaf (leaf v) = true
is-leaf (inner x g) = false

module _ (setting : Setting) (p : Plan) where
  abbrev t : ℕ
  t = setting.depth

  listed : (i : ℕ) (w : Wrap) → slice_get (wraps_of setting p) i ≡ Some w
      → Among w.child (kids t (slot_node t p.change.slot))
  unfolding wraps_of
  listed i w at = child-among (wrap_at setting (after p) p.change.generation) (of-child setting
      (after p) p.change.generation)
      (kids t (slot_node t p.change.slot)) i w at

  placed : (i j : ℕ) (w v : Wrap) → slice_get (wraps_of setting p) i ≡ Some w → slice_get (wraps_of setting p) j
      ≡ Some v → w.child ≡ v.child → i ≡ j
  unfolding wraps_of
  placed i j w v a b same = one-place (wrap_at setting (after p) p.change.generation) (of-child setting
      (after p) p.change.generation)
      (kids t (slot_node t p.change.slot)) i j w v (kids-apart t (slot_node t p.change.slot) (omega arith)) a b same

  pub child_above_root : (i : ℕ) (w : Wrap) → slice_get (wraps_of setting p) i ≡ Some w → 2 ≤ w.child
  child_above_root i w at = least t (slot_node t p.change.slot) w.child (omega arith) (listed i w at)

  abbrev holds : ℕ → Option Member
  holds y = holder (after p) (y - 2 ^ t)

  leaf-named : (o : Option Member) (k : KeyName) → option_map (λ (m : Member). leaf m.user) o ≡ Some k
      → (is_held (Some (user-of k)) o ≡ true) × (is-leaf k ≡ true)
  leaf-named None k e = absurd cc
  leaf-named (Some m) k e =
      let same : leaf m.user ≡ k = cc in
      (subst (λ (n : ℕ). nat_eq m.user n ≡ true) (ap user-of same) (eq-eqb m.user m.user refl), ap is-leaf (sym same))

  -- the key of an inner node, or of who has a slot
  named-so : (w : Wrap) (k : KeyName) → named setting p w ≡ Some k
      → ((w.child < 2 ^ t) × (k ≡ inner w.child w.child_gen)) ⊎ ((2 ^ t ≤ w.child)
      × (is_held (Some (user-of k)) (holds w.child) ≡ true) × (is-leaf k ≡ true))
  named-so w k e = elim (cases_lt w.child (2 ^ t)) [
    | inl less ↦
        let f = sym (cond-true (nat_lt w.child (2 ^ t)) (Some (inner w.child w.child_gen)) (option_map (λ
        (m : Member). leaf m.user) (holds w.child)) (low w.child (2 ^ t) less)) ∙ e in
        inl (less, let same : k ≡ inner w.child w.child_gen = cc in same)
    | inr more ↦
        let f = sym (cond-false (nat_lt w.child (2 ^ t)) (Some (inner w.child w.child_gen)) (option_map (λ
        (m : Member). leaf m.user) (holds w.child)) (high w.child (2 ^ t) more)) ∙ e in
        let held = leaf-named (holds w.child) k f in
        inr (more, held.0, held.1)
  ]

  -- None uses the root's key.
  pub not_root : (i : ℕ) (u : Use) (g : ℕ) → WrapUses setting p i u → u.key ≡ inner 1 g → ⊥
  not_root i u g uses root = elim (named-so uses.wrap u.key uses.key) [
    | inl node ↦
        let two = child_above_root i uses.wrap uses.there in
        let same : 1 ≡ uses.wrap.child = ap node-of (sym root ∙ node.1) in omega arith
    | inr slot ↦ absurd (false≢true (sym (ap is-leaf root) ∙ slot.2))
  ]

  in-tree : p.change.slot < 2 ^ t → (i : ℕ) (w : Wrap) → slice_get (wraps_of setting p) i ≡ Some w
      → w.child - 2 ^ t < 2 ^ t
  in-tree small i w at = let m = most t (slot_node t p.change.slot) w.child (listed i w at) in
      let one : 1 ≤ 2 ^ t = one-le-pow t 2 (omega arith) in omega arith

  same-child : AreFit t (after p) → p.change.slot < 2 ^ t → (i j : ℕ) (u : Use) → (a : WrapUses setting p i u)
      → (b : WrapUses setting p j u)
      → a.wrap.child ≡ b.wrap.child
  same-child fit small i j u a b = by (named-so a.wrap u.key a.key) (named-so b.wrap u.key b.key)
    where
      by : ((a.wrap.child < 2 ^ t) × (u.key ≡ inner a.wrap.child a.wrap.child_gen))
          ⊎ ((2 ^ t ≤ a.wrap.child) × (is_held (Some (user-of u.key)) (holds a.wrap.child) ≡ true)
          × (is-leaf u.key ≡ true))
          → ((b.wrap.child < 2 ^ t) × (u.key ≡ inner b.wrap.child b.wrap.child_gen))
          ⊎ ((2 ^ t ≤ b.wrap.child) × (is_held (Some (user-of u.key)) (holds b.wrap.child) ≡ true)
          × (is-leaf u.key ≡ true))
          → a.wrap.child ≡ b.wrap.child
      by (inl x) (inl y) = ap node-of (sym x.1 ∙ y.1)
      by (inl x) (inr y) = absurd (false≢true (sym (ap is-leaf x.1) ∙ y.2))
      by (inr x) (inl y) = absurd (false≢true (sym (ap is-leaf y.1) ∙ x.2))
      by (inr x) (inr y) =
          let s : a.wrap.child - 2 ^ t ≡ b.wrap.child - 2 ^ t =
          one_slot t (after p) (user-of u.key) (a.wrap.child - 2 ^ t) (b.wrap.child - 2 ^ t) fit
          (record { within = in-tree small i a.wrap a.there; held = x.1 })
          (record { within = in-tree small j b.wrap b.there; held = y.1 }) in
          let m = x.0 in let n = y.0 in omega arith

  -- No two wraps use one stream of one key.
  pub once : AreFit t (after p) → p.change.slot < 2 ^ t → (i j : ℕ) (u : Use) → WrapUses setting p i u
      → WrapUses setting p j u → i ≡ j
  once fit small i j u a b = placed i j a.wrap b.wrap a.there b.there (same-child fit small i j u a b)

-- Plans that use one stream are of one generation.
pub one_generation : (setting : Setting) (p q : Plan) (i j : ℕ) (u : Use) → p.change.generation < 2 ^ 32
    → q.change.generation < 2 ^ 32
    → WrapUses setting p i u → WrapUses setting q j u → p.change.generation ≡ q.change.generation
one_generation setting p q i j u small small' a b =
    let same : wrap_stream (a.wrap.child / 2) p.change.generation
    ≡ wrap_stream (b.wrap.child / 2) q.change.generation = sym a.stream ∙ b.stream in
    omega arith

-- ---- plans of a tree

abbrev wraps-in : Result (ℕ × List Wrap) PlanRefusal → List Wrap
wraps-in (Ok m) = m.1
wraps-in (Err x) = []

planned-wraps : (tree : Tree) (g : ℕ) (what : KeyChange) (slot : ℕ) (wraps : List Wrap)
    → place_of tree.setting.depth tree.followed what ≡ Ok slot
    → planned tree g what ≡ Ok (slot, wraps)
    → wraps_of tree.setting (record {
      change = record { generation = g; slot = slot; what = what };
      before =
          tree.followed;
    }) ≡ wraps
unfolding planned wraps_of
planned-wraps tree g what slot wraps place e = ap wraps-in (ap (with_wraps tree g what) (sym place) ∙ e)

pub planned_is : (tree : Tree) (g : ℕ) (what : KeyChange) (slot : ℕ) (wraps : List Wrap)
    → AreFit tree.setting.depth tree.followed
    → planned tree g what ≡ Ok (slot, wraps)
    → IsPlan tree.setting g slot wraps (record {
      change = record { generation = g; slot = slot; what = what };
      before = tree.followed;
    })
planned_is tree g what slot wraps fit e =
    let place = planned_place tree g what slot wraps e in
    record {
      fit = (place_fits tree.setting.depth tree.followed what slot place, fit);
      within = place_within tree.setting.depth tree.followed what slot place;
      generation = refl;
      slot_is = refl;
      wraps_are = planned-wraps tree g what slot wraps place e;
    }

-- what follows a change keeps that each fitted
pub followed_fit : (tree : Tree) (c : Change) → AreFit tree.setting.depth tree.followed
    → AreFit tree.setting.depth (followed_by tree c).1.followed
unfolding followed_by
followed_fit tree c fit = by (fits tree.setting.depth tree.followed c.slot c.what) refl
  where
    by : (b : Bool) → fits tree.setting.depth tree.followed c.slot c.what ≡ b
        → AreFit tree.setting.depth (if b then c ∷ tree.followed else tree.followed)
    by true e = (e, fit)
    by false e = fit

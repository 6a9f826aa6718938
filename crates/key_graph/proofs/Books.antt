-- What a book holds after the changes of a key run.
use Rattle.std.proofs.Common.{◌≡◌, ℕ, zero, suc, ◌+◌, ◌-◌, ◌*◌, ◌/◌, ◌^◌, ◌<◌, ◌≤◌, ◌⊎◌, inl, inr, Bool, true, false, ◌&&◌, List, [], ◌∷◌, ◌++◌, Option, Some, None, is_some, is_none, refl, ap, sym, ◌∙◌, subst, eq-eqb, arith}
use Rattle.std.specs.Prelude.{if◌then◌else◌, nat_eq, nat_lt, option_map, option_and_then, ◌↔◌, slice_get}
use Rattle.std.specs.List.{cons_option}
use Rattle.std.proofs.lemmas.Bool.{eqb-true, false≢true, ltb-true}
use Rattle.std.proofs.lemmas.Bool.Decides.{eqb_tells}
use Rattle.std.proofs.Math.Nat.{pow-suc, one-le-pow}
use Rattle.fr_bytes.specs.Bytes.{Text}
use Rattle.op_types.specs.declared.kind.Wrap.{Wrap}
use Rattle.pad_wrap.proofs.Pads.{twice}
use Rattle.key_graph.specs.declared.change.Setting.{Setting}
use Rattle.key_graph.specs.declared.change.Member.{Member}
use Rattle.key_graph.specs.declared.change.Change.{Change}
use Rattle.key_graph.specs.declared.change.KeyChange.{KeyChange}
use Rattle.key_graph.specs.declared.change.KeyChange.TheVariants.{Admit, Remove}
use Rattle.key_graph.specs.Slots.{any_below, least_below}
use Rattle.key_graph.specs.KeyTree.{Plan, fits, generation, generation_at, has_member, holder, holder_after, inner_text, is_below, is_held, key_at, sealed, slot_node, slot_of, tree_root, wrap_at, wrap_stream, wraps_above, wraps_of}
use Rattle.key_graph.specs.KeyBook.{Book, Keys, book_root, child_key, is_slot, kept_slot, learnt, opened, opened_all, slot_after, with_key, with_opened, wraps_in}
use Rattle.key_graph.specs.Learning.{HasLeaf, IsAdmittedWith, book_after, kind_of}
use Rattle.key_graph.specs.Reach.{Event, HasSlotBelow, IsMember, IsRun, changes_at, followed, generations, plans, tree_of}
use Rattle.key_graph.proofs.Histories.{any_found, both_true}
use Rattle.key_graph.proofs.Nodes as nodes
use Rattle.key_graph.proofs.Nodes.{Above}
use Rattle.key_graph.proofs.Opening.{all-other, flipped}
use Rattle.key_graph.proofs.Law.{Closed, IsChild, and_left, and_right, any_some, apart_slots, below_or_at, child_half, generation-kept, generation-new, has-key, held_some, high, holder-other, low}
use Rattle.key_graph.specs.Streams.{AreFit}
use Rattle.key_graph.proofs.Runs.{AreDistinct, IsUnused, all_fit, begun, distinct, facts, none_held, start}

-- ---- tests

is_false : (b : Bool) → (b ≡ true → ⊥) → b ≡ false
is_false true h = absurd (h refl)
is_false false h = refl

any_same : (p q : ℕ → Bool) (n : ℕ) → ((i : ℕ) → p i ≡ q i) → any_below p n ≡ any_below q n
any_same p q zero h = refl
any_same p q (suc n) h = rw (any_same p q n h, h n) refl

some_none : (i : ℕ) → Some i ≡ None → ⊥
some_none i e = cc

none_step : (test : ℕ → Bool) (n : ℕ) (o : Option ℕ) → least_below test n ≡ o → (b : Bool) → test n ≡ b → least_below test (suc n) ≡ None
    → (o ≡ None) × (b ≡ false)
none_step test n (Some j) h b k e = (let f : Some j ≡ None = rw h at e in absurd (some_none j f))
none_step test n None h true k e = (let f : Some n ≡ None = rw (h, k) at e in absurd (some_none n f))
none_step test n None h false k e = (refl, refl)

least_none : (test : ℕ → Bool) (n i : ℕ) → least_below test n ≡ None → i < n → test i ≡ false
least_none test zero i e h = absurd (omega arith)
least_none test (suc n) i e h =
    let s = none_step test n (least_below test n) refl (test n) refl e in
    elim (eqb_tells i n) [ inl q ↦ ap test q.1 ∙ s.1 | inr q ↦ least_none test n i s.0 (let d = q.1 in omega arith) ]

-- ---- whether a user has a slot below a node, as a test

abbrev pub has_user : ℕ → List Change → ℕ → ℕ → Bool
has_user t cs u y = any_below (λ s. is_below t y s && is_held (Some u) (holder cs s)) (2 ^ t)

user_slot : (t : ℕ) (cs : List Change) (u y : ℕ) → has_user t cs u y ≡ true → HasSlotBelow t cs y u
user_slot t cs u y h =
    let i = any_some (λ s. is_below t y s && is_held (Some u) (holder cs s)) (2 ^ t) h in
    let b = is_below t y i.0 in
    let held = is_held (Some u) (holder cs i.0) in
    (i.0, record { within = i.1; held = and_right b held i.2 }, and_left b held i.2)

slot_user : (t : ℕ) (cs : List Change) (u y : ℕ) → HasSlotBelow t cs y u → has_user t cs u y ≡ true
slot_user t cs u y h = any_found (λ s. is_below t y s && is_held (Some u) (holder cs s)) h.0 (2 ^ t) h.1.within (both_true h.2 h.1.held)

user_up : (t : ℕ) (cs : List Change) (u y : ℕ) → 2 ≤ y → has_user t cs u y ≡ true → has_user t cs u (y / 2) ≡ true
user_up t cs u y two h =
    let s = user_slot t cs u y h in
    slot_user t cs u (y / 2) (s.0, s.1, nodes.below_parent t y s.0 s.1.within two s.2)

user_down : (t : ℕ) (cs : List Change) (u x : ℕ) → x < 2 ^ t → has_user t cs u x ≡ true → (has_user t cs u (2 * x) ≡ true) ⊎ (has_user t cs u (2 * x + 1) ≡ true)
user_down t cs u x small h =
    let s = user_slot t cs u x h in
    let n = slot_node t s.0 in
    elim (nodes.child t n x (nodes.below_inner t x s.0 small s.2)) [
      | inl l ↦ inl (slot_user t cs u (2 * x) (s.0, s.1, nodes.below_of t (2 * x) s.0 l))
      | inr r ↦ inr (slot_user t cs u (2 * x + 1) (s.0, s.1, nodes.below_of t (2 * x + 1) s.0 r))
    ]

user_key : (setting : Setting) (cs : List Change) (u y : ℕ) → has_user setting.depth cs u y ≡ true → (key : Text) × (key_at setting cs y ≡ Some key)
user_key setting cs u y h =
    let s = user_slot setting.depth cs u y h in
    let m = held_some u (holder cs s.0) s.1.held in
    has-key setting cs y s.0 m.0 s.1.within m.1 s.2

-- the key that the user is to hold of a node
abbrev pub want : Setting → ℕ → List Change → ℕ → Option Text
want setting u cs y = if has_user setting.depth cs u y then key_at setting cs y else None

want_by : (setting : Setting) (cs : List Change) (u x g : ℕ) → x < 2 ^ setting.depth → generation setting.depth cs x ≡ g → (b : Bool) → has_user setting.depth cs u x ≡ b
    → want setting u cs x ≡ (if has_user setting.depth cs u x then Some (inner_text setting.master setting.wall x g) else None)
unfolding key_at
want_by setting cs u x g small e true h =
    let t = setting.depth in
    let s = user_slot t cs u x h in
    let m = held_some u (holder cs s.0) s.1.held in
    let member : has_member t cs x ≡ true = any_found (λ i. is_below t x i && is_some (holder cs i)) s.0 (2 ^ t) s.1.within (both_true s.2 (ap is_some m.1)) in
    rw (h, low x (2 ^ t) small, member, e) refl
want_by setting cs u x g small e false h = rw h refl

want-inner : (setting : Setting) (cs : List Change) (u x g : ℕ) → x < 2 ^ setting.depth → generation setting.depth cs x ≡ g
    → want setting u cs x ≡ (if has_user setting.depth cs u x then Some (inner_text setting.master setting.wall x g) else None)
want-inner setting cs u x g small e = want_by setting cs u x g small e (has_user setting.depth cs u x) refl

-- ---- a change leaves the nodes that aren't above its slot

kept_test : (t y : ℕ) (c : Change) (cs : List Change) (test : Option Member → Bool) → is_below t y c.slot ≡ false → (s : ℕ) (b : Bool) → is_below t y s ≡ b
    → (is_below t y s && test (holder (c ∷ cs) s)) ≡ (is_below t y s && test (holder cs s))
kept_test t y c cs test off s true e = ap (λ m. is_below t y s && test m) (holder-other c cs s (apart_slots t y c s off e))
kept_test t y c cs test off s false e = rw e refl

below_kept : (t y : ℕ) (c : Change) (cs : List Change) (test : Option Member → Bool) → is_below t y c.slot ≡ false → (s : ℕ)
    → (is_below t y s && test (holder (c ∷ cs) s)) ≡ (is_below t y s && test (holder cs s))
below_kept t y c cs test off s = kept_test t y c cs test off s (is_below t y s) refl

want-kept : (setting : Setting) (c : Change) (cs : List Change) (u y : ℕ) → y < 2 ^ setting.depth → is_below setting.depth y c.slot ≡ false
    → want setting u (c ∷ cs) y ≡ want setting u cs y
unfolding key_at
want-kept setting c cs u y small off =
    let t = setting.depth in
    let users : has_user t (c ∷ cs) u y ≡ has_user t cs u y =
    any_same (λ s. is_below t y s && is_held (Some u) (holder (c ∷ cs) s)) (λ s. is_below t y s && is_held (Some u) (holder cs s)) (2 ^ t)
    (below_kept t y c cs (is_held (Some u)) off) in
    let members : has_member t (c ∷ cs) y ≡ has_member t cs y =
    any_same (λ s. is_below t y s && is_some (holder (c ∷ cs) s)) (λ s. is_below t y s && is_some (holder cs s)) (2 ^ t)
    (below_kept t y c cs is_some off) in
    let gen_ : generation t (c ∷ cs) y ≡ generation t cs y = generation-kept t c cs y off in
    let small_ : nat_lt y (2 ^ t) ≡ true = low y (2 ^ t) small in
    let key : (b : Bool) (g : ℕ) → Option Text = λ b g. if b then Some (inner_text setting.master setting.wall y g) else None in
    let at_new : key_at setting (c ∷ cs) y ≡ key_at setting cs y = rw small_ (ap (λ b. key b (generation t (c ∷ cs) y)) members ∙ ap (key (has_member t cs y)) gen_) in
    ap (λ b. if b then key_at setting (c ∷ cs) y else None) users ∙ ap (λ o. if has_user t cs u y then o else None) at_new

-- ---- the user's leaf key

leaf_after : (u : ℕ) (leaf : Text) (what : KeyChange) (m : Member) → IsAdmittedWith u leaf what → holder_after what ≡ Some m → m.user ≡ u → m.leaf ≡ leaf
leaf_after u leaf (Admit v key) m with_leaf e user =
    let same : record { user = v; leaf = key } ≡ m = cc in
    sym (ap (λ (n : Member). n.leaf) same) ∙ with_leaf (ap (λ (n : Member). n.user) same ∙ user)
leaf_after u leaf (Remove v) m with_leaf e user = absurd (cc)

leaf_of : (u : ℕ) (leaf : Text) (cs : List Change) → HasLeaf u leaf cs → (s : ℕ) (m : Member) → holder cs s ≡ Some m → m.user ≡ u → m.leaf ≡ leaf
leaf_of u leaf [] has s m e user = absurd (cc)
leaf_of u leaf (c ∷ cs) has s m e user = elim (eqb_tells c.slot s) [
  | inl q ↦ (let f : holder_after c.what ≡ Some m = rw (q.0) at e in leaf_after u leaf c.what m has.0 f user)
  | inr q ↦ (let f : holder cs s ≡ Some m = rw (q.0) at e in leaf_of u leaf cs has.1 s m f user)
]

slot_by : (setting : Setting) (u : ℕ) (leaf : Text) (cs : List Change) (y : ℕ) → HasLeaf u leaf cs → 2 ^ setting.depth ≤ y → y < 2 * 2 ^ setting.depth
    → (b : Bool) → is_held (Some u) (holder cs (y - 2 ^ setting.depth)) ≡ b
    → want setting u cs y ≡ (if is_held (Some u) (holder cs (y - 2 ^ setting.depth)) then Some leaf else None)
unfolding key_at
slot_by setting u leaf cs y has big bound true h =
    let t = setting.depth in
    let s = y - 2 ^ t in
    let i : slot_node t s ≡ y = omega arith in
    let below : is_below t y s ≡ true = subst (λ n. is_below t n s ≡ true) i (nodes.below_slot t s) in
    let user : has_user t cs u y ≡ true = slot_user t cs u y (s, record { within = omega arith; held = h }, below) in
    let m = held_some u (holder cs s) h in
    rw (user, high y (2 ^ t) big, m.1, eq-eqb m.0.user u m.2) (ap Some (leaf_of u leaf cs has s m.0 m.1 m.2))
slot_by setting u leaf cs y has big bound false h =
    let t = setting.depth in
    let none : has_user t cs u y ≡ false = is_false (has_user t cs u y) (λ e.
    (let s = user_slot t cs u y e in
    let q : y ≡ 2 ^ t + s.0 = nodes.slot_alone t y s.0 s.1.within big s.2 in
    let i : s.0 ≡ y - 2 ^ t = omega arith in
    false≢true (sym h ∙ (ap (λ n. is_held (Some u) (holder cs n)) (sym i) ∙ s.1.held)))) in
    rw (none, h) refl

-- a slot's key is the user's leaf key, where the slot is the user's
want-slot : (setting : Setting) (u : ℕ) (leaf : Text) (cs : List Change) (y : ℕ) → HasLeaf u leaf cs → 2 ^ setting.depth ≤ y → y < 2 * 2 ^ setting.depth
    → want setting u cs y ≡ (if is_held (Some u) (holder cs (y - 2 ^ setting.depth)) then Some leaf else None)
want-slot setting u leaf cs y has big bound = slot_by setting u leaf cs y has big bound (is_held (Some u) (holder cs (y - 2 ^ setting.depth))) refl

-- ---- the user's slot

is_none_none : {X : Type 0} (o : Option X) → is_none o ≡ true → o ≡ None
is_none_none None h = refl
is_none_none (Some x) h = absurd (false≢true h)

not_held : (t u : ℕ) (cs : List Change) (s : ℕ) → is_none (slot_of t cs u) ≡ true → s < 2 ^ t → is_held (Some u) (holder cs s) ≡ false
not_held t u cs s none h = least_none (λ i. is_held (Some u) (holder cs i)) (2 ^ t) s (is_none_none (slot_of t cs u) none) h

free_none : (o : Option Member) (u : ℕ) → is_held None o ≡ true → is_held (Some u) o ≡ false
free_none None u h = refl
free_none (Some m) u h = absurd (false≢true h)

other_user : (o : Option Member) (v u : ℕ) → is_held (Some v) o ≡ true → (v ≡ u → ⊥) → is_held (Some u) o ≡ false
other_user None v u h n = refl
other_user (Some m) v u h n = elim (eqb_tells m.user u) [ inl e ↦ absurd (n (sym (eqb-true m.user v h) ∙ e.1)) | inr e ↦ e.0 ]

slot_one : (old : Option ℕ) (sl s : ℕ) → is_slot old sl ≡ true → nat_eq sl s ≡ false → is_slot old s ≡ false
slot_one None sl s h n = refl
slot_one (Some r) sl s h n = ap (λ m. nat_eq m s) (eqb-true r sl h) ∙ n

kept-same : (old : Option ℕ) (sl : ℕ) → is_slot old sl ≡ false → kept_slot old sl ≡ old
kept-same old sl h = rw h refl

-- the holder of a slot after a change, for one user
abbrev held_after : (u : ℕ) (what : KeyChange) (sl : ℕ) (cs : List Change) (s : ℕ) → Bool
held_after u what sl cs s = is_held (Some u) (if nat_eq sl s then holder_after what else holder cs s)

slot_next : (t u : ℕ) (cs : List Change) (what : KeyChange) (sl role : ℕ) (ws : List Wrap) (old : Option ℕ) → fits t cs sl what ≡ true
    → ((s : ℕ) → s < 2 ^ t → is_slot old s ≡ is_held (Some u) (holder cs s)) → (s : ℕ) → s < 2 ^ t
    → is_slot (slot_after u old (kind_of what role sl ws)) s ≡ held_after u what sl cs s
slot_next t u cs (Admit v key) sl role ws old fit same s h =
    let a = and_left (is_none (slot_of t cs v)) (nat_lt sl (2 ^ t) && is_held None (holder cs sl)) fit in
    let b = and_right (is_none (slot_of t cs v)) (nat_lt sl (2 ^ t) && is_held None (holder cs sl)) fit in
    let within : sl < 2 ^ t = ltb-true sl (2 ^ t) (and_left (nat_lt sl (2 ^ t)) (is_held None (holder cs sl)) b) in
    let free : is_held (Some u) (holder cs sl) ≡ false = free_none (holder cs sl) u (and_right (nat_lt sl (2 ^ t)) (is_held None (holder cs sl)) b) in
    elim (eqb_tells v u) [
      | inl q ↦ elim (eqb_tells sl s) [
        | inl e ↦ (rw (q.0, e.0) (sym q.0))
        | inr e ↦ (rw (q.0, e.0) (sym (not_held t u cs s (subst (λ m. is_none (slot_of t cs m) ≡ true) q.1 a) h)))
      ]
      | inr q ↦ (let k : kept_slot old sl ≡ old = kept-same old sl (same sl within ∙ free) in
          elim (eqb_tells sl s) [
            | inl e ↦ (rw (q.0, e.0, k) (ap (is_slot old) (sym e.1) ∙ (same sl within ∙ (free ∙ sym q.0))))
            | inr e ↦ (rw (q.0, e.0, k) (same s h))
          ])
    ]
slot_next t u cs (Remove v) sl role ws old fit same s h =
    let within : sl < 2 ^ t = ltb-true sl (2 ^ t) (and_left (nat_lt sl (2 ^ t)) (is_held (Some v) (holder cs sl)) fit) in
    let held : is_held (Some v) (holder cs sl) ≡ true = and_right (nat_lt sl (2 ^ t)) (is_held (Some v) (holder cs sl)) fit in
    elim (eqb_tells v u) [
      | inl q ↦ elim (eqb_tells sl s) [
        | inl e ↦ (rw (q.0, e.0) refl)
        | inr e ↦ (let mine : is_slot old sl ≡ true = same sl within ∙ subst (λ m. is_held (Some m) (holder cs sl) ≡ true) q.1 held in
            rw (q.0, e.0) (sym (sym (same s h) ∙ slot_one old sl s mine e.0)))
      ]
      | inr q ↦ (let other : is_held (Some u) (holder cs sl) ≡ false = other_user (holder cs sl) v u held q.1 in
          let k : kept_slot old sl ≡ old = kept-same old sl (same sl within ∙ other) in
          elim (eqb_tells sl s) [
            | inl e ↦ (rw (q.0, e.0, k) (ap (is_slot old) (sym e.1) ∙ (same sl within ∙ other)))
            | inr e ↦ (rw (q.0, e.0, k) (same s h))
          ])
    ]

-- ---- wraps, one after the other

module _ (setting : Setting) (u : ℕ) (leaf : Text) (cs : List Change) (slot : Option ℕ) (g : ℕ) where
  abbrev f : ℕ → Option Wrap
  f y = wrap_at setting cs g y

  abbrev new : ℕ → Text
  new x = inner_text setting.master setting.wall x g

  abbrev users : ℕ → Bool
  users y = has_user setting.depth cs u y

  -- the keys after a wrap, where there is one
  abbrev open_one : Keys → Option Wrap → Keys
  open_one keys None = keys
  open_one keys (Some w) = opened setting.depth leaf slot g keys w

  -- what is held for a node is what the user is to hold
  abbrev Right : Keys → ℕ → Type 0
  Right keys y = child_key setting.depth leaf slot keys y (generation_at setting.depth cs y) ≡ want setting u cs y

  right_other : (keys keys' : Keys) (y : ℕ) → ((h : ℕ) → keys' y h ≡ keys y h) → Right keys y → Right keys' y
  right_other keys keys' y same r =
      let t = setting.depth in
      let gen_ = generation_at t cs y in
      ap (λ o. if nat_lt y (2 ^ t) then o else (if is_slot slot (y - 2 ^ t) && nat_eq gen_ 0 then Some leaf else None)) (same gen_) ∙ r

  no_key : (key : Text) → None ≡ Some key → ⊥
  no_key key e = cc

  one_opened : (keys : Keys) (x y : ℕ) (key : Text) → y / 2 ≡ x → (b : Bool)
      → with_opened keys g (sealed setting cs g y key) (if b then Some key else None) ≡ (if b then with_key keys x g (new x) else keys)
  one_opened keys x y key half true = rw (twice key (wrap_stream (y / 2) g) (new (y / 2)), half) refl
  one_opened keys x y key half false = refl

  one_by : (keys : Keys) (x y : ℕ) → IsChild x y → Right keys y → (o : Option Text) → key_at setting cs y ≡ o → (b : Bool) → users y ≡ b
      → open_one keys (option_map (sealed setting cs g y) o) ≡ (if b then with_key keys x g (new x) else keys)
  one_by keys x y is_child r None h true k = (let r_ = user_key setting cs u y k in let q : None ≡ Some r_.0 = sym h ∙ r_.1 in absurd (no_key r_.0 q))
  one_by keys x y is_child r None h false k = refl
  one_by keys x y is_child r (Some key) h b k =
      let t = setting.depth in
      let held : child_key t leaf slot keys y (generation_at t cs y) ≡ (if b then Some key else None) =
      r ∙ (ap (λ m. if m then key_at setting cs y else None) k ∙ ap (λ o. if b then o else None) h) in
      let w = sealed setting cs g y key in
      ap (with_opened keys g w) held ∙ one_opened keys x y key (child_half x y is_child) b

  one : (keys : Keys) (x y : ℕ) → IsChild x y → Right keys y → open_one keys (f y) ≡ (if users y then with_key keys x g (new x) else keys)
  unfolding wrap_at
  one keys x y is_child r = one_by keys x y is_child r (key_at setting cs y) refl (users y) refl

  -- both wraps of a node
  abbrev both : Keys → ℕ → Keys
  both keys x = open_one (open_one keys (f (2 * x))) (f (2 * x + 1))

  pick : (keys : Keys) (x : ℕ) → (l r m : Bool) → keys x g ≡ None → (m ≡ true → (l ≡ true) ⊎ (r ≡ true)) → (l ≡ true → m ≡ true) → (r ≡ true → m ≡ true)
      → (if r then with_key (if l then with_key keys x g (new x) else keys) x g (new x) else (if l then with_key keys x g (new x) else keys)) x g
      ≡ (if m then Some (new x) else None)
  pick keys x l true m none down left right = rw (right refl, eq-eqb x x refl, eq-eqb g g refl) refl
  pick keys x true false m none down left right = rw (left refl, eq-eqb x x refl, eq-eqb g g refl) refl
  pick keys x false false true none down left right = absurd (elim (down refl) [ inl e ↦ false≢true e | inr e ↦ false≢true e ])
  pick keys x false false false none down left right = none

  elsewhere : (keys : Keys) (x y h : ℕ) (b : Bool) (key : Text) → nat_eq x y ≡ false → (if b then with_key keys x g key else keys) y h ≡ keys y h
  elsewhere keys x y h true key e = rw e refl
  elsewhere keys x y h false key e = refl

  level : (keys : Keys) (x : ℕ) → 1 ≤ x → x < 2 ^ setting.depth → generation setting.depth cs x ≡ g → keys x g ≡ None → Right keys (2 * x) → Right keys (2 * x + 1)
      → (both keys x x g ≡ want setting u cs x) × ((y h : ℕ) → nat_eq x y ≡ false → both keys x y h ≡ keys y h)
  level keys x one_x small gen_ none left right =
      let t = setting.depth in
      let k1 = open_one keys (f (2 * x)) in
      let e1 : k1 ≡ (if users (2 * x) then with_key keys x g (new x) else keys) = one keys x (2 * x) (inl refl) left in
      let apart : nat_eq x (2 * x + 1) ≡ false = flipped x (2 * x + 1) (λ e. omega arith) in
      let same1 : (y h : ℕ) → nat_eq x y ≡ false → k1 y h ≡ keys y h = λ y h n. ap (λ (ks : Keys). ks y h) e1 ∙ elsewhere keys x y h (users (2 * x)) (new x) n in
      let e2 : both keys x ≡ (if users (2 * x + 1) then with_key k1 x g (new x) else k1) =
      one k1 x (2 * x + 1) (inr refl) (right_other keys k1 (2 * x + 1) (λ h. same1 (2 * x + 1) h apart) right) in
      let e3 : both keys x ≡ (if users (2 * x + 1) then with_key (if users (2 * x) then with_key keys x g (new x) else keys) x g (new x) else (if users (2 * x) then with_key keys x g (new x) else keys)) =
      e2 ∙ ap (λ (ks : Keys). if users (2 * x + 1) then with_key ks x g (new x) else ks) e1 in
      let half_left : 2 * x / 2 ≡ x = omega arith in
      let half_right : (2 * x + 1) / 2 ≡ x = omega arith in
      let picked = pick keys x (users (2 * x)) (users (2 * x + 1)) (users x) none (user_down t cs u x small)
      (λ b. subst (λ m. users m ≡ true) half_left (user_up t cs u (2 * x) (omega arith) b))
      (λ b. subst (λ m. users m ≡ true) half_right (user_up t cs u (2 * x + 1) (omega arith) b)) in (
        ap (λ (ks : Keys). ks x g) e3 ∙ (picked ∙ sym (want-inner setting cs u x g small gen_)),
        λ y h n. ap (λ (ks : Keys). ks y h) e2 ∙ (elsewhere k1 x y h (users (2 * x + 1)) (new x) n ∙ same1 y h n),
      )

  -- all wraps above a node, level by level
  all_cons : (o : Option Wrap) (keys : Keys) (ws : List Wrap) → opened_all setting.depth leaf slot g keys (cons_option o ws) ≡ opened_all setting.depth leaf slot g (open_one keys o) ws
  all_cons None keys ws = refl
  all_cons (Some w) keys ws = refl

  right_next : (k n : ℕ) (keys : Keys) → n / 2 < 2 ^ setting.depth
      → ((y : ℕ) → y < 2 * 2 ^ setting.depth → (Above (suc k) n y → ⊥) → Right keys y)
      → generation setting.depth cs (n / 2) ≡ g
      → (both keys (n / 2) (n / 2) g ≡ want setting u cs (n / 2)) × ((y h : ℕ) → nat_eq (n / 2) y ≡ false → both keys (n / 2) y h ≡ keys y h)
      → (y : ℕ) → y < 2 * 2 ^ setting.depth → (Above k (n / 2) y → ⊥) → Right (both keys (n / 2)) y
  unfolding generation_at
  right_next k n keys inside right gen_ done y bound off = elim (eqb_tells (n / 2) y) [
    | inl e ↦ subst (Right (both keys (n / 2))) e.1 (rw (low (n / 2) (2 ^ setting.depth) inside, gen_) done.0)
    | inr e ↦ right_other keys (both keys (n / 2)) y (λ h. done.1 y h e.0)
        (right y bound (λ a. elim (nodes.split k n y a) [ inl q ↦ e.1 (sym q) | inr b ↦ off b ]))
  ]

  path : (k n : ℕ) (keys : Keys) → 2 ^ k ≤ n → n < 2 * 2 ^ k → n < 2 * 2 ^ setting.depth
      → ((y : ℕ) → y < 2 * 2 ^ setting.depth → (Above k n y → ⊥) → Right keys y)
      → ((x : ℕ) → Above k n x → (keys x g ≡ None) × (generation setting.depth cs x ≡ g))
      → (y : ℕ) → y < 2 * 2 ^ setting.depth → Right (opened_all setting.depth leaf slot g keys (wraps_above setting cs g k n)) y
  path zero n keys big small bound right fresh y h = right y h (λ a. false≢true a)
  path (suc k) n keys big small bound right fresh y h =
      let t = setting.depth in
      let x = n / 2 in
      let pow : 2 ^ suc k ≡ 2 ^ k * 2 = pow-suc 2 k in
      let one_k : 1 ≤ 2 ^ k = one-le-pow k 2 (omega arith) in
      let above : Above (suc k) n x = nodes.first k n x refl in
      let inside : x < 2 ^ t = omega arith in
      let not_left : Above (suc k) n (2 * x) → ⊥ = λ a. (let l = nodes.lower (suc k) n (2 * x) a in omega arith) in
      let not_right : Above (suc k) n (2 * x + 1) → ⊥ = λ a. (let l = nodes.lower (suc k) n (2 * x + 1) a in omega arith) in
      let done = level keys x (omega arith) inside (fresh x above).1 (fresh x above).0 (right (2 * x) (omega arith) not_left) (right (2 * x + 1) (omega arith) not_right) in
      let rest = wraps_above setting cs g k x in
      let wraps : opened_all t leaf slot g keys (wraps_above setting cs g (suc k) n) ≡ opened_all t leaf slot g (both keys x) rest =
      all_cons (f (2 * x)) keys (cons_option (f (2 * x + 1)) rest) ∙ all_cons (f (2 * x + 1)) (open_one keys (f (2 * x))) rest in
      let next = path k x (both keys x) (omega arith) (omega arith) (omega arith)
      (λ z b n_. right_next k n keys inside right (fresh x above).1 done z b n_)
      (λ z a. (let l = nodes.lower k x z a in
      let other : nat_eq x z ≡ false = flipped x z (λ e. omega arith) in
      let old = fresh z (nodes.or_right (nat_eq z x) a) in
      (done.1 z g other ∙ old.0, old.1)))
      y h in
      subst (λ (ks : Keys). Right ks y) (sym wraps) next

-- ---- a book after the changes of a run

-- the root keys of all epochs so far
abbrev pub PastRoots : Setting → ℕ → Keys → List Change → Type 0
PastRoots setting u keys [] = Unit {0}
PastRoots setting u keys (c ∷ cs) = (keys 1 c.generation ≡ want setting u (c ∷ cs) 1) × PastRoots setting u keys cs

pub record Stands (setting : Setting) (u : ℕ) (cs : List Change) (slot : Option ℕ) (keys : Keys) : Type 0 where
  pub slots : (s : ℕ) → s < 2 ^ setting.depth → is_slot slot s ≡ is_held (Some u) (holder cs s)
  pub current : (x : ℕ) → x < 2 ^ setting.depth → keys x (generation setting.depth cs x) ≡ want setting u cs x
  pub fresh : (x g : ℕ) → IsUnused g cs → keys x g ≡ None
  pub past : PastRoots setting u keys cs

none-want : (setting : Setting) (u x : ℕ) → None ≡ want setting u [] x
none-want setting u x =
    let none : has_user setting.depth [] u x ≡ false = is_false (has_user setting.depth [] u x) (λ h. false≢true (user_slot setting.depth [] u x h).1.held) in
    rw none refl

past_kept : (setting : Setting) (u g : ℕ) (keys keys' : Keys) (cs : List Change) → IsUnused g cs → ((h : ℕ) → nat_eq g h ≡ false → keys' 1 h ≡ keys 1 h)
    → PastRoots setting u keys cs → PastRoots setting u keys' cs
past_kept setting u g keys keys' [] unused same past = tt
past_kept setting u g keys keys' (c ∷ cs) unused same past =
    (same c.generation (flipped g c.generation unused.0) ∙ past.0, past_kept setting u g keys keys' cs unused.1 same past.1)

and_true : (b : Bool) → (b && true) ≡ b
and_true true = refl
and_true false = refl

-- two levels at least
deep_root : (t : ℕ) → 1 ≤ t → 1 < 2 ^ t
deep_root zero h = absurd (omega arith)
deep_root (suc t) h = let e : 2 ^ suc t ≡ 2 ^ t * 2 = pow-suc 2 t in let one : 1 ≤ 2 ^ t = one-le-pow t 2 (omega arith) in omega arith

root_below : (t s : ℕ) → 1 ≤ t → s < 2 ^ t → is_below t 1 s ≡ true
root_below t s deep h = nodes.above_below t 1 s (nodes.root t (slot_node t s) deep (omega arith) (omega arith))

module _ (setting : Setting) (u : ℕ) (leaf : Text) (deep : 1 ≤ setting.depth) (c : Change) (cs : List Change) (slot slot' : Option ℕ) (keys : Keys)
    (stands : Stands setting u cs slot keys) (within : c.slot < 2 ^ setting.depth) (unused : IsUnused c.generation cs) (has : HasLeaf u leaf (c ∷ cs))
    (slots : (s : ℕ) → s < 2 ^ setting.depth → is_slot slot' s ≡ is_held (Some u) (holder (c ∷ cs) s)) where
  abbrev wraps : List Wrap
  wraps = wraps_above setting (c ∷ cs) c.generation setting.depth (slot_node setting.depth c.slot)

  abbrev keys' : Keys
  keys' = opened_all setting.depth leaf slot' c.generation keys wraps

  begin : (y : ℕ) → y < 2 * 2 ^ setting.depth → (Above setting.depth (slot_node setting.depth c.slot) y → ⊥) → Right setting u leaf (c ∷ cs) slot' c.generation keys y
  unfolding generation_at
  begin y bound off =
      let t = setting.depth in
      elim (below_or_at (2 ^ t) y) [
        | inl small ↦
            (let out : is_below t y c.slot ≡ false = is_false (is_below t y c.slot) (λ b. off (nodes.below_inner t y c.slot small b)) in
            rw (low y (2 ^ t) small)
            (ap (keys y) (generation-kept t c cs y out) ∙ (stands.current y small ∙ sym (want-kept setting c cs u y small out))))
        | inr big ↦
            (let held : is_slot slot' (y - 2 ^ t) ≡ is_held (Some u) (holder (c ∷ cs) (y - 2 ^ t)) = slots (y - 2 ^ t) (omega arith) in
            rw (high y (2 ^ t) big)
            (ap (λ b. if b then Some leaf else None) (and_true (is_slot slot' (y - 2 ^ t)) ∙ held) ∙ sym (want-slot setting u leaf (c ∷ cs) y has big bound)))
      ]

  right : (y : ℕ) → y < 2 * 2 ^ setting.depth → Right setting u leaf (c ∷ cs) slot' c.generation keys' y
  right = path setting u leaf (c ∷ cs) slot' c.generation setting.depth (slot_node setting.depth c.slot) keys (omega arith) (omega arith) (omega arith) begin
      (λ x a. (stands.fresh x c.generation unused, generation-new setting.depth c cs x (nodes.above_below setting.depth x c.slot a)))

  current' : (x : ℕ) → x < 2 ^ setting.depth → keys' x (generation setting.depth (c ∷ cs) x) ≡ want setting u (c ∷ cs) x
  unfolding generation_at
  current' x small = let r = right x (omega arith) in rw (low x (2 ^ setting.depth) small) at r

  others : (x h : ℕ) → nat_eq c.generation h ≡ false → keys' x h ≡ keys x h
  others x h e = all-other setting.depth leaf slot' c.generation keys wraps x h e

  after_one : Stands setting u (c ∷ cs) slot' keys'
  after_one = record {
    slots = slots;
    current = current';
    fresh = λ x h free. others x h (flipped c.generation h (λ e. free.0 (sym e))) ∙ stands.fresh x h free.1;
    past = (
      ap (keys' 1) (sym (generation-new setting.depth c cs 1 (root_below setting.depth c.slot deep within))) ∙ current' 1 (deep_root setting.depth deep),
      past_kept setting u c.generation keys keys' cs unused (others 1) stands.past,
    );
  }

wraps-kind : (what : KeyChange) (role slot : ℕ) (ws : List Wrap) → wraps_in (kind_of what role slot ws) ≡ ws
wraps-kind (Admit v key) role slot ws = refl
wraps-kind (Remove v) role slot ws = refl

record IsBookOf (setting : Setting) (u : ℕ) (leaf : Text) (cs : List Change) (book : Book) : Type 0 where
  pub depth : book.depth ≡ setting.depth
  pub user : book.user ≡ u
  pub own : book.leaf ≡ leaf
  pub epochs : book.epochs ≡ generations cs
  pub stands : Stands setting u cs book.slot book.keys

book_next : (setting : Setting) (role : Change → ℕ) (u : ℕ) (leaf : Text) → 1 ≤ setting.depth → (c : Change) (cs : List Change) (book : Book) → IsBookOf setting u leaf cs book
    → c.slot < 2 ^ setting.depth → fits setting.depth cs c.slot c.what ≡ true → IsUnused c.generation cs → HasLeaf u leaf (c ∷ cs)
    → IsBookOf setting u leaf (c ∷ cs) (learnt book c.generation (kind_of c.what (role c) c.slot (wraps_of setting (record { change = c; before = cs }))))
unfolding learnt wraps_of
book_next setting role u leaf deep c cs book b within fit unused has =
    let t = setting.depth in
    let ws = wraps_of setting (record { change = c; before = cs }) in
    let kind = kind_of c.what (role c) c.slot ws in
    let slot' = slot_after book.user book.slot kind in
    let slots : (s : ℕ) → s < 2 ^ t → is_slot slot' s ≡ is_held (Some u) (holder (c ∷ cs) s) =
    λ s h. ap (λ v. is_slot (slot_after v book.slot kind) s) b.user ∙ slot_next t u cs c.what c.slot (role c) ws book.slot fit b.stands.slots s h in
    let next = after_one setting u leaf deep c cs book.slot slot' book.keys b.stands within unused has slots in
    let same : opened_all book.depth book.leaf slot' c.generation book.keys (wraps_in kind) ≡ opened_all t leaf slot' c.generation book.keys ws =
    ap (λ d. opened_all d book.leaf slot' c.generation book.keys (wraps_in kind)) b.depth
    ∙ (ap (λ l. opened_all t l slot' c.generation book.keys (wraps_in kind)) b.own
    ∙ ap (opened_all t leaf slot' c.generation book.keys) (wraps-kind c.what (role c) c.slot ws)) in
    record {
      depth = b.depth;
      user = b.user;
      own = b.own;
      epochs = ap (λ gs. gs ++ c.generation ∷ []) b.epochs;
      stands = subst (Stands setting u (c ∷ cs) slot') (sym same) next;
    }

book_stands : (setting : Setting) (role : Change → ℕ) (u : ℕ) (leaf : Text) → 1 ≤ setting.depth → (ps : List Plan) (cs : List Change) → Closed setting.depth ps cs → AreFit setting.depth cs
    → AreDistinct cs → HasLeaf u leaf cs → IsBookOf setting u leaf cs (book_after setting role u leaf cs)
book_stands setting role u leaf deep ps [] closed fit apart has = record {
  depth = refl;
  user = refl;
  own = refl;
  epochs = refl;
  stands = record { slots = λ s h. refl; current = λ x h. none-want setting u x; fresh = λ x g h. refl; past = tt };
}
book_stands setting role u leaf deep ps (c ∷ cs) closed fit apart has =
    let b = book_stands setting role u leaf deep ps cs closed.2 fit.1 apart.1 has.1 in
    book_next setting role u leaf deep c cs (book_after setting role u leaf cs) b closed.1 fit.0 apart.0 has

-- ---- the root keys of a book

no_root : (key : Text) → None ≡ Some key → ⊥
no_root key e = cc

module _ (setting : Setting) (u : ℕ) (deep : 1 ≤ setting.depth) (cs : List Change) (keys : Keys) (past : PastRoots setting u keys cs)
    (ps : List Plan) (closed : Closed setting.depth ps cs) (e g : ℕ) (at_e : slice_get (generations cs) e ≡ Some g) where
  abbrev Root : ℕ → Option Text
  Root h = Some (inner_text setting.master setting.wall 1 h)

  root_held : (c : Change) × (before : List Change) × (changes_at (suc e) cs ≡ c ∷ before)
      × (keys 1 g ≡ (if has_user setting.depth (c ∷ before) u 1 then Root g else None))
  root_held =
      let t = setting.depth in
      let b = begun (λ ds. Closed t ps ds × PastRoots setting u keys ds) (λ d ds p. (p.0.2, p.1.1)) cs (closed, past) e g at_e in
      let top : is_below t 1 b.0.slot ≡ true = root_below t b.0.slot deep b.4.0.1 in
      let gen_ : generation t (b.0 ∷ b.1) 1 ≡ g = generation-new t b.0 b.1 1 top ∙ b.3 in
      (b.0, b.1, b.2, ap (keys 1) (sym b.3) ∙ (b.4.1.0 ∙ want-inner setting (b.0 ∷ b.1) u 1 g (deep_root t deep) gen_))

  held_root : (b : Bool) (key : Text) → (if b then Root g else None) ≡ Some key → (b ≡ true) × (Root g ≡ Some key)
  held_root true key h = (refl, h)
  held_root false key h = absurd (no_root key h)

  root_law : (key : Text) → (keys 1 g ≡ Some key) ↔ IsMember setting.depth (changes_at (suc e) cs) u × (Root g ≡ Some key)
  root_law key =
      let t = setting.depth in
      let r = root_held in
      let ds = r.0 ∷ r.1 in (
        λ h. (let both_ = held_root (has_user t ds u 1) key (sym r.3 ∙ h) in
            let s = user_slot t ds u 1 both_.0 in
            (subst (λ (xs : List Change). IsMember t xs u) (sym r.2) (s.0, s.1), both_.1)),
        λ m. (let n = subst (λ (xs : List Change). IsMember t xs u) r.2 m.0 in
            let h : has_user t ds u 1 ≡ true = slot_user t ds u 1 (n.0, n.1, root_below t n.0 deep n.1.within) in
            r.3 ∙ (ap (λ b. if b then Root g else None) h ∙ m.1)),
      )

books_at : (setting : Setting) (es : List Event) (u : ℕ) → 1 ≤ setting.depth → (ps : List Plan) → Closed setting.depth ps (followed es) → (book : Book)
    → book.epochs ≡ generations (followed es) → PastRoots setting u book.keys (followed es) → (e : ℕ) (key : Text) (o : Option ℕ) → slice_get (generations (followed es)) e ≡ o
    → (book_root book (suc e) ≡ Some key) ↔ IsMember setting.depth (changes_at (suc e) (followed es)) u × (tree_root (tree_of setting es) (suc e) ≡ Some key)
unfolding tree_root
books_at setting es u deep ps closed book epochs past e key None h =
    let none : book_root book (suc e) ≡ None = ap (λ gs. option_and_then (book.keys 1) (slice_get gs e)) epochs ∙ ap (option_and_then (book.keys 1)) h in
    (λ b. absurd (no_root key (sym none ∙ b)), λ m. absurd (no_root key (sym (ap (option_map (inner_text setting.master setting.wall 1)) h) ∙ m.1)))
books_at setting es u deep ps closed book epochs past e key (Some g) h =
    let some : book_root book (suc e) ≡ book.keys 1 g = ap (λ gs. option_and_then (book.keys 1) (slice_get gs e)) epochs ∙ ap (option_and_then (book.keys 1)) h in
    let root : tree_root (tree_of setting es) (suc e) ≡ Some (inner_text setting.master setting.wall 1 g) = ap (option_map (inner_text setting.master setting.wall 1)) h in
    let law = root_law setting u deep (followed es) book.keys past ps closed e g h key in
    (λ b. (let r = law.0 (sym some ∙ b) in (r.0, root ∙ r.1)), λ m. some ∙ law.1 (m.0, sym root ∙ m.1))

pub books : (setting : Setting) (es : List Event) (role : Change → ℕ) (u : ℕ) (leaf : Text) (e : ℕ) (key : Text) → IsRun setting es → 1 ≤ setting.depth → HasLeaf u leaf (followed es)
    → (book_root (book_after setting role u leaf (followed es)) e ≡ Some key) ↔ IsMember setting.depth (changes_at e (followed es)) u × (tree_root (tree_of setting es) e ≡ Some key)
books setting es role u leaf zero key run deep has =
    (λ h. absurd (no_root key h), λ m. absurd (none_held setting.depth u (subst (λ (cs : List Change). IsMember setting.depth cs u) (start (followed es)) m.0)))
books setting es role u leaf (suc e) key run deep has =
    let t = setting.depth in
    let f = facts setting es run in
    let cs = followed es in
    let b = book_stands setting role u leaf deep (plans es) cs f.closed (all_fit setting es run) (distinct t (plans es) f.apart cs f.closed) has in
    let book = book_after setting role u leaf cs in
    books_at setting es u deep (plans es) f.closed book b.epochs b.stands.past e key (slice_get (generations cs) e) refl

-- Who reaches which key.
use Rattle.std.proofs.Common.{◌≡◌, ℕ, zero, suc, ◌+◌, ◌-◌, ◌*◌, ◌/◌, ◌^◌, ◌<◌, ◌≤◌, ◌⊎◌, inl, inr, Bool, true, false, ◌&&◌, List, [], ◌∷◌, Option, Some, None, is_some, refl, ap, sym, ◌∙◌, subst, eq-eqb, arith}
use Rattle.std.specs.Prelude.{if◌then◌else◌, nat_eq, nat_lt, option_map}
use Rattle.std.specs.List.{filter_map, flat_map, cons_option}
use Rattle.std.proofs.lemmas.Bool.{eqb-true, false≢true, lt-ltb, le-ltb, cases_lt}
use Rattle.std.proofs.lemmas.Bool.Decides.{eqb_tells}
use Rattle.std.proofs.Math.Nat.{pow-suc, one-le-pow}
use Rattle.fr_bytes.specs.Bytes.{Text}
use Rattle.op_types.specs.declared.kind.Wrap.{Wrap}
use Rattle.key_graph.specs.declared.change.Setting.{Setting}
use Rattle.key_graph.specs.declared.change.Member.{Member}
use Rattle.key_graph.specs.declared.change.Change.{Change}
use Rattle.key_graph.specs.Slots.{any_below}
use Rattle.key_graph.specs.KeyTree.{Plan, after, ancestors, children, generation, generation_at, has_member, holder, inner_text, is_below, is_held, key_at, sealed, slot_node, wrap_at, wraps_of}
use Rattle.key_graph.specs.Reach.{Among, HasSlotBelow, KeyName, leaf, inner, named, Reach, own, opens}
use Rattle.key_graph.proofs.Histories.{any_found, both_true}
use Rattle.key_graph.proofs.Nodes as nodes
use Rattle.key_graph.proofs.Nodes.{Above, OnLine, or_cases}

-- ---- searches and lists

pub any_some : (test : ℕ → Bool) (n : ℕ) → any_below test n ≡ true → (i : ℕ) × (i < n) × (test i ≡ true)
any_some test zero h = absurd (false≢true h)
any_some test (suc n) h = elim (or_cases (any_below test n) (test n) h) [
  | inl a ↦ (let r = any_some test n a in (r.0, omega arith, r.2))
  | inr b ↦ (n, omega arith, b)
]

pub and_left : (a b : Bool) → (a && b) ≡ true → a ≡ true
and_left true b h = refl
and_left false b h = h

pub and_right : (a b : Bool) → (a && b) ≡ true → b ≡ true
and_right true b h = h
and_right false b h = absurd (false≢true h)

-- what a list of results has
among_cons : {Y : Type 0} (o : Option Y) (ys : List Y) (y : Y) → Among y (cons_option o ys) → (o ≡ Some y) ⊎ Among y ys
among_cons None ys y a = inr a
among_cons (Some z) ys y (inl e) = inl (ap Some (sym e))
among_cons (Some z) ys y (inr a) = inr a

to_cons : {Y : Type 0} (o : Option Y) (ys : List Y) (y : Y) → o ≡ Some y → Among y (cons_option o ys)
to_cons None ys y e = absurd (cc)
to_cons (Some z) ys y e = inl (cc)

later_cons : {Y : Type 0} (o : Option Y) (ys : List Y) (y : Y) → Among y ys → Among y (cons_option o ys)
later_cons None ys y a = a
later_cons (Some z) ys y a = inr a

-- y is a child of x
abbrev pub IsChild : ℕ → ℕ → Type 0
IsChild x y = (y ≡ 2 * x) ⊎ (y ≡ 2 * x + 1)

pub child_half : (x y : ℕ) → IsChild x y → y / 2 ≡ x
child_half x y (inl e) = omega arith
child_half x y (inr e) = omega arith

is_child : (n : ℕ) → IsChild (n / 2) n
is_child n = elim (eqb_tells n (2 * (n / 2))) [ inl e ↦ inl e.1 | inr e ↦ inr (let f = e.1 in omega arith) ]

-- a wrap is listed exactly where it is a child's of a node above
listed : {Y : Type 0} (f : ℕ → Option Y) (k n : ℕ) (w : Y) → Among w (filter_map f (flat_map children (ancestors k n)))
    → (y : ℕ) × (f y ≡ Some w) × Above k n (y / 2)
listed f zero n w a = absurd a
listed f (suc k) n w a =
    let x = n / 2 in
    let rest = filter_map f (flat_map children (ancestors k x)) in
    elim (among_cons (f (2 * x)) (cons_option (f (2 * x + 1)) rest) w a) [
      | inl e ↦ (2 * x, e, nodes.first k n (2 * x / 2) (omega arith))
      | inr b ↦ elim (among_cons (f (2 * x + 1)) rest w b) [
        | inl e ↦ (2 * x + 1, e, nodes.first k n ((2 * x + 1) / 2) (omega arith))
        | inr d ↦ (let r = listed f k x w d in (r.0, r.1, nodes.or_right (nat_eq (r.0 / 2) x) r.2))
      ]
    ]

lists : {Y : Type 0} (f : ℕ → Option Y) (k n x y : ℕ) (w : Y) → Above k n x → IsChild x y → f y ≡ Some w
    → Among w (filter_map f (flat_map children (ancestors k n)))
lists f zero n x y w a c e = absurd (false≢true a)
lists f (suc k) n x y w a c e =
    let h = n / 2 in
    let rest = filter_map f (flat_map children (ancestors k h)) in
    elim (nodes.split k n x a) [
      | inl q ↦ elim c [
        | inl l ↦ to_cons (f (2 * h)) (cons_option (f (2 * h + 1)) rest) w (ap f (ap (λ m. 2 * m) (sym q) ∙ sym l) ∙ e)
        | inr r ↦ later_cons (f (2 * h)) (cons_option (f (2 * h + 1)) rest) w
            (to_cons (f (2 * h + 1)) rest w (ap f (ap (λ m. 2 * m + 1) (sym q) ∙ sym r) ∙ e))
      ]
      | inr b ↦ later_cons (f (2 * h)) (cons_option (f (2 * h + 1)) rest) w (later_cons (f (2 * h + 1)) rest w (lists f k h x y w b c e))
    ]

-- ---- names

-- the name of a node's current key
abbrev pub name_at : Setting → List Change → ℕ → Option KeyName
name_at setting cs y =
    if nat_lt y (2 ^ setting.depth)
    then Some (inner y (generation setting.depth cs y))
    else option_map (λ (member : Member). leaf member.user) (holder cs (y - 2 ^ setting.depth))

pub low : (y n : ℕ) → y < n → nat_lt y n ≡ true
low y n h = lt-ltb y n h

pub high : (y n : ℕ) → n ≤ y → nat_lt y n ≡ false
high y n h = le-ltb y n h

same_branch : (b : Bool) (f : ℕ → Option KeyName) (g : ℕ) (m : Option KeyName) → (if b then f (if b then g else 0) else m) ≡ (if b then f g else m)
same_branch true f g m = refl
same_branch false f g m = refl

-- a wrap names its child's current key
named-sealed : (setting : Setting) (p : Plan) (y : ℕ) (key : Text) → named setting p (sealed setting (after p) p.change.generation y key) ≡ name_at setting (after p) y
unfolding generation_at
named-sealed setting p y key =
    let t = setting.depth in
    let m = option_map (λ (member : Member). leaf member.user) (holder (after p) (y - 2 ^ t)) in
    same_branch (nat_lt y (2 ^ t)) (λ g. Some (inner y g)) (generation t (after p) y) m

only_true : {X : Type 0} (b : Bool) (x y : X) → (if b then Some x else None) ≡ Some y → b ≡ true
only_true true x y e = refl
only_true false x y e = absurd (cc)

only_some : {X Y : Type 0} (f : X → Y) (o : Option X) (y : Y) → option_map f o ≡ Some y → (x : X) × (o ≡ Some x)
only_some f None y e = absurd (cc)
only_some f (Some x) y e = (x, refl)

pub below_or_at : (n y : ℕ) → (y < n) ⊎ (n ≤ y)
below_or_at n y = cases_lt y n

-- what the key of a node tells: it has a member below it
key-inner : (setting : Setting) (cs : List Change) (y : ℕ) (key : Text) → y < 2 ^ setting.depth → key_at setting cs y ≡ Some key → has_member setting.depth cs y ≡ true
unfolding key_at
key-inner setting cs y key h e =
    let f : (if has_member setting.depth cs y then Some (inner_text setting.master setting.wall y (generation setting.depth cs y)) else None) ≡ Some key =
    rw (low y (2 ^ setting.depth) h) at e in
    only_true (has_member setting.depth cs y) (inner_text setting.master setting.wall y (generation setting.depth cs y)) key f

key-slot : (setting : Setting) (cs : List Change) (y : ℕ) (key : Text) → 2 ^ setting.depth ≤ y → key_at setting cs y ≡ Some key
    → (member : Member) × (holder cs (y - 2 ^ setting.depth) ≡ Some member)
unfolding key_at
key-slot setting cs y key h e =
    let f : option_map (λ (member : Member). member.leaf) (holder cs (y - 2 ^ setting.depth)) ≡ Some key = rw (high y (2 ^ setting.depth) h) at e in
    only_some (λ (member : Member). member.leaf) (holder cs (y - 2 ^ setting.depth)) key f

-- and where it has a member below it, it has a key
pub has-key : (setting : Setting) (cs : List Change) (y s : ℕ) (member : Member) → s < 2 ^ setting.depth → holder cs s ≡ Some member → is_below setting.depth y s ≡ true
    → (key : Text) × (key_at setting cs y ≡ Some key)
unfolding key_at
has-key setting cs y s member h e b =
    let t = setting.depth in
    elim (below_or_at (2 ^ t) y) [
      | inl small ↦ (let m : has_member t cs y ≡ true = any_found (λ i. is_below t y i && is_some (holder cs i)) s (2 ^ t) h (both_true b (ap is_some e)) in
          (inner_text setting.master setting.wall y (generation t cs y), rw (low y (2 ^ t) small, m) refl))
      | inr big ↦ (let i : y - 2 ^ t ≡ s = (let q : y ≡ 2 ^ t + s = nodes.slot_alone t y s h big b in omega arith) in
          (member.leaf, rw (high y (2 ^ t) big, i, e) refl))
    ]

-- ---- runs of plans

-- each change stands with those before it among the plans, and has a slot of the tree
abbrev pub Closed : ℕ → List Plan → List Change → Type 0
Closed t ps [] = Unit {0}
Closed t ps (c ∷ cs) = Among (record { change = c; before = cs }) ps × (c.slot < 2 ^ t) × Closed t ps cs

-- plans of one generation are one
abbrev pub Apart : List Plan → Type 0
Apart ps = (p q : Plan) → Among p ps → Among q ps → p.change.generation ≡ q.change.generation → p ≡ q

-- a change leaves another slot to its holder
pub holder-other : (c : Change) (cs : List Change) (s : ℕ) → nat_eq c.slot s ≡ false → holder (c ∷ cs) s ≡ holder cs s
holder-other c cs s e = rw e refl

-- a node that isn't above the change's slot has slots of others below it
pub apart_slots : (t x : ℕ) (c : Change) (s : ℕ) → is_below t x c.slot ≡ false → is_below t x s ≡ true → nat_eq c.slot s ≡ false
apart_slots t x c s n b = elim (eqb_tells c.slot s) [
  | inl e ↦ absurd (false≢true (sym n ∙ (ap (is_below t x) e.1 ∙ b)))
  | inr e ↦ e.0
]

pub generation-kept : (t : ℕ) (c : Change) (cs : List Change) (x : ℕ) → is_below t x c.slot ≡ false → generation t (c ∷ cs) x ≡ generation t cs x
generation-kept t c cs x e = rw e refl

pub generation-new : (t : ℕ) (c : Change) (cs : List Change) (x : ℕ) → is_below t x c.slot ≡ true → generation t (c ∷ cs) x ≡ c.generation
generation-new t c cs x e = rw e refl

pub held_some : (u : ℕ) (o : Option Member) → is_held (Some u) o ≡ true → (member : Member) × (o ≡ Some member) × (member.user ≡ u)
held_some u None h = absurd (false≢true h)
held_some u (Some member) h = (member, refl, eqb-true member.user u h)

-- ---- a member reaches the current keys above its slot

module _ (setting : Setting) (ps : List Plan) (u : ℕ) where
  -- the node's current key is reached
  abbrev pub Reached : List Change → ℕ → Type 0
  Reached cs x = (k : KeyName) × (name_at setting cs x ≡ Some k) × Reach setting ps u k

  slot_reached : (cs : List Change) (s : ℕ) (member : Member) → holder cs s ≡ Some member → member.user ≡ u → Reached cs (slot_node setting.depth s)
  slot_reached cs s member e own_user =
      let n = 2 ^ setting.depth in
      let big : nat_lt (n + s) n ≡ false = high (n + s) n (omega arith) in
      let i : n + s - n ≡ s = omega arith in
      (leaf u, rw (big, i, e) (ap (λ v. Some (leaf v)) own_user), own)

  -- from a node of the slot's line to its parent, after one more change
  module _ (c : Change) (cs : List Change) (closed : Closed setting.depth ps (c ∷ cs)) (s : ℕ) (member : Member) (within : s < 2 ^ setting.depth)
      (held : holder (c ∷ cs) s ≡ Some member)
      (older : (x : ℕ) → is_below setting.depth x s ≡ true → nat_eq c.slot s ≡ false → Reached cs x) where
    up_by : (n : ℕ) → is_below setting.depth n s ≡ true → Reached (c ∷ cs) n → n / 2 < 2 ^ setting.depth → is_below setting.depth (n / 2) s ≡ true
        → (b : Bool) → is_below setting.depth (n / 2) c.slot ≡ b → Reached (c ∷ cs) (n / 2)
    unfolding wraps_of wrap_at
    up_by n below r small above true e =
        let t = setting.depth in
        let x = n / 2 in
        let p : Plan = record { change = c; before = cs } in
        let k = has-key setting (c ∷ cs) n s member within held below in
        let w = sealed setting (c ∷ cs) c.generation n k.0 in
        let is_wrap : option_map (sealed setting (c ∷ cs) c.generation n) (key_at setting (c ∷ cs) n) ≡ Some w = rw (k.1) refl in
        let among : Among w (wraps_of setting p) =
        lists (wrap_at setting (c ∷ cs) c.generation) t (slot_node t c.slot) x n w (nodes.below_inner t x c.slot small e) (is_child n) is_wrap in
        let name : name_at setting (c ∷ cs) x ≡ Some (inner x c.generation) = rw (low x (2 ^ t) small, e) refl in
        (inner x c.generation, name, opens p w r.0 closed.0 among (named-sealed setting p n k.0 ∙ r.1) r.2)
    up_by n below r small above false e =
        let x = n / 2 in
        let o = older x above (apart_slots setting.depth x c s e above) in
        let name : name_at setting (c ∷ cs) x ≡ name_at setting cs x = rw (low x (2 ^ setting.depth) small, e) refl in
        (o.0, name ∙ o.1, o.2)

    up : (n : ℕ) → 2 ≤ n → is_below setting.depth n s ≡ true → Reached (c ∷ cs) n → (is_below setting.depth (n / 2) s ≡ true) × Reached (c ∷ cs) (n / 2)
    up n two below r =
        let t = setting.depth in
        let above : is_below t (n / 2) s ≡ true = nodes.below_parent t n s within two below in
        let small : n / 2 < 2 ^ t = nodes.inner t (n / 2) s within (nodes.parent t (slot_node t s) n (omega arith) two (nodes.below_line t n s below)) in
        (above, up_by n below r small above (is_below t (n / 2) c.slot) refl)

    climb : (k n x : ℕ) → 2 ^ k ≤ n → is_below setting.depth n s ≡ true → Reached (c ∷ cs) n → Above k n x → Reached (c ∷ cs) x
    climb zero n x big below r a = absurd (false≢true a)
    climb (suc k) n x big below r a =
        let e : 2 ^ suc k ≡ 2 ^ k * 2 = pow-suc 2 k in
        let one : 1 ≤ 2 ^ k = one-le-pow k 2 (omega arith) in
        let m = up n (omega arith) below r in
        elim (nodes.split k n x a) [
          | inl q ↦ subst (Reached (c ∷ cs)) (sym q) m.1
          | inr b ↦ climb k (n / 2) x (omega arith) m.0 m.1 b
        ]

  pub reaches : (cs : List Change) → Closed setting.depth ps cs → (s : ℕ) (member : Member) → s < 2 ^ setting.depth → holder cs s ≡ Some member → member.user ≡ u
      → (x : ℕ) → is_below setting.depth x s ≡ true → Reached cs x
  reaches [] closed s member within held user x below = absurd (cc)
  reaches (c ∷ cs) closed s member within held user x below =
      let t = setting.depth in
      let older : (y : ℕ) → is_below t y s ≡ true → nat_eq c.slot s ≡ false → Reached cs y =
      λ y b n. reaches cs closed.2 s member within (sym (holder-other c cs s n) ∙ held) user y b in
      let base = slot_reached (c ∷ cs) s member held user in
      elim (nodes.line t (slot_node t s) x (nodes.below_line t x s below)) [
        | inl q ↦ subst (Reached (c ∷ cs)) (sym q) base
        | inr a ↦ climb c cs closed s member within held older t (slot_node t s) x (omega arith) (nodes.below_slot t s) base a
      ]

  -- ---- a user who reaches a key has a slot below

  -- what a key that is reached tells
  abbrev pub Says : KeyName → Type 0
  Says (leaf v) = v ≡ u
  Says (inner x g) = (p : Plan) → Among p ps → p.change.generation ≡ g → Above setting.depth (slot_node setting.depth p.change.slot) x → HasSlotBelow setting.depth (after p) x u

  kept_by : (c : Change) (cs : List Change) → Closed setting.depth ps (c ∷ cs) → (y : ℕ) → y < 2 ^ setting.depth → has_member setting.depth (c ∷ cs) y ≡ true
      → Says (inner y (generation setting.depth (c ∷ cs) y))
      → (has_member setting.depth cs y ≡ true → Says (inner y (generation setting.depth cs y)) → HasSlotBelow setting.depth cs y u)
      → (b : Bool) → is_below setting.depth y c.slot ≡ b → HasSlotBelow setting.depth (c ∷ cs) y u
  kept_by c cs closed y small member says tail true e =
      says (record { change = c; before = cs }) closed.0 (sym (generation-new setting.depth c cs y e)) (nodes.below_inner setting.depth y c.slot small e)
  kept_by c cs closed y small member says tail false e =
      let t = setting.depth in
      let i = any_some (λ s. is_below t y s && is_some (holder (c ∷ cs) s)) (2 ^ t) member in
      let b : is_below t y i.0 ≡ true = and_left (is_below t y i.0) (is_some (holder (c ∷ cs) i.0)) i.2 in
      let taken : is_some (holder (c ∷ cs) i.0) ≡ true = and_right (is_below t y i.0) (is_some (holder (c ∷ cs) i.0)) i.2 in
      let other : holder (c ∷ cs) i.0 ≡ holder cs i.0 = holder-other c cs i.0 (apart_slots t y c i.0 e b) in
      let before : has_member t cs y ≡ true = any_found (λ s. is_below t y s && is_some (holder cs s)) i.0 (2 ^ t) i.1 (both_true b (ap is_some (sym other) ∙ taken)) in
      let r = tail before (λ p a g up. says p a (g ∙ sym (generation-kept t c cs y e)) up) in
      let held : is_held (Some u) (holder (c ∷ cs) r.0) ≡ true = ap (is_held (Some u)) (holder-other c cs r.0 (apart_slots t y c r.0 e r.2)) ∙ r.1.held in
      (r.0, record { within = r.1.within; held = held }, r.2)

  kept_inner : (cs : List Change) → Closed setting.depth ps cs → (y : ℕ) → y < 2 ^ setting.depth → has_member setting.depth cs y ≡ true
      → Says (inner y (generation setting.depth cs y)) → HasSlotBelow setting.depth cs y u
  kept_inner [] closed y small member says =
      let i = any_some (λ s. is_below setting.depth y s && is_some (holder [] s)) (2 ^ setting.depth) member in
      absurd (false≢true (and_right (is_below setting.depth y i.0) false i.2))
  kept_inner (c ∷ cs) closed y small member says =
      kept_by c cs closed y small member says (λ m t. kept_inner cs closed.2 y small m t) (is_below setting.depth y c.slot) refl

  kept : (cs : List Change) → Closed setting.depth ps cs → (y : ℕ) (key : Text) (k : KeyName) → y < 2 * 2 ^ setting.depth → key_at setting cs y ≡ Some key
      → name_at setting cs y ≡ Some k → Says k → HasSlotBelow setting.depth cs y u
  kept cs closed y key k bound has name says =
      let t = setting.depth in
      elim (below_or_at (2 ^ t) y) [
        | inl small ↦
            (let same : Some (inner y (generation t cs y)) ≡ Some k = rw (low y (2 ^ t) small) at name in
            let q : inner y (generation t cs y) ≡ k = cc in
            kept_inner cs closed y small (key-inner setting cs y key small has) (subst Says (sym q) says))
        | inr big ↦
            (let m = key-slot setting cs y key big has in
            let same : Some (leaf m.0.user) ≡ Some k = rw (high y (2 ^ t) big, m.1) at name in
            let q : leaf m.0.user ≡ k = cc in
            let user : m.0.user ≡ u = subst Says (sym q) says in
            let i : slot_node t (y - 2 ^ t) ≡ y = omega arith in
            let held : is_held (Some u) (holder cs (y - 2 ^ t)) ≡ true = rw (m.1) (eq-eqb m.0.user u user) in
            (y - 2 ^ t, record { within = omega arith; held = held }, subst (λ n. is_below t n (y - 2 ^ t) ≡ true) i (nodes.below_slot t (y - 2 ^ t))))
      ]

  -- where a wrap comes from
  opened_from : (cs : List Change) (g y : ℕ) (w : Wrap) (o : Option Text) → key_at setting cs y ≡ o → option_map (sealed setting cs g y) o ≡ Some w
      → (key : Text) × (key_at setting cs y ≡ Some key) × (sealed setting cs g y key ≡ w)
  opened_from cs g y w None h e = absurd (cc)
  opened_from cs g y w (Some key) h e = (key, h, cc)

  opened_by : (cs : List Change) (g y : ℕ) (w : Wrap) → wrap_at setting cs g y ≡ Some w
      → (key : Text) × (key_at setting cs y ≡ Some key) × (sealed setting cs g y key ≡ w)
  unfolding wrap_at
  opened_by cs g y w e = opened_from cs g y w (key_at setting cs y) refl e

  module _ (closed : (p : Plan) → Among p ps → Closed setting.depth ps (after p)) (small : (p : Plan) → Among p ps → p.change.slot < 2 ^ setting.depth) (apart : Apart ps) where
    says_opened : (p : Plan) (w : Wrap) (k : KeyName) → Among p ps → Among w (wraps_of setting p) → named setting p w ≡ Some k → Says k
        → Says (inner (w.child / 2) p.change.generation)
    unfolding wraps_of
    says_opened p w k among aw name says q aq g above =
        let t = setting.depth in
        let n = slot_node t p.change.slot in
        let l = listed (wrap_at setting (after p) p.change.generation) t n w aw in
        let y = l.0 in
        let o = opened_by (after p) p.change.generation y w l.1 in
        let at_y : name_at setting (after p) y ≡ Some k = sym (named-sealed setting p y o.0) ∙ (ap (named setting p) o.2 ∙ name) in
        let half : y / 2 < 2 ^ t = nodes.inner t (y / 2) p.change.slot (small p among) l.2 in
        let one : 1 ≤ y / 2 = nodes.positive t n (y / 2) (omega arith) l.2 in
        let h = kept (after p) (closed p among) y o.0 k (omega arith) o.1 at_y says in
        let up : HasSlotBelow t (after p) (y / 2) u = (h.0, h.1, nodes.below_parent t y h.0 h.1.within (omega arith) h.2) in
        let child : y / 2 ≡ w.child / 2 = ap (λ (v : Wrap). v.child / 2) o.2 in
        subst (λ (r : Plan). HasSlotBelow t (after r) (w.child / 2) u) (apart p q among aq (sym g)) (subst (λ m. HasSlotBelow t (after p) m u) child up)

    pub says : {k : KeyName} → Reach setting ps u k → Says k
    says own = refl
    says (opens p w k among aw name r) = says_opened p w k among aw name (says r)

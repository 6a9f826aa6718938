-- Key runs: what their plans and followed changes keep.
use Rattle.std.proofs.Common.{◌≡◌, ℕ, zero, suc, ◌-◌, ◌^◌, ◌<◌, ◌≤◌, ◌⊎◌, inl, inr, Bool, true, false, List, [], ◌∷◌, ◌++◌, length, Option, Some, None, Result, Ok, Err, is_some, is_none, length-append, refl, ap, sym, ◌∙◌, subst, arith}
use Rattle.std.specs.Prelude.{◌↔◌, slice_get}
use Rattle.std.specs.Option.{ok_or}
use Rattle.std.proofs.lemmas.Bool.{false≢true, lt-ltb}
use Rattle.std.proofs.Math.Seq.{drop-length}
use Rattle.op_types.specs.declared.kind.Wrap.{Wrap}
use Rattle.key_graph.specs.declared.change.Setting.{Setting}
use Rattle.key_graph.specs.declared.change.Change.{Change}
use Rattle.key_graph.specs.declared.change.KeyChange.{KeyChange}
use Rattle.key_graph.specs.declared.change.KeyChange.TheVariants.{Admit, Remove}
use Rattle.key_graph.specs.declared.change.PlanRefusal.{PlanRefusal}
use Rattle.key_graph.specs.declared.change.PlanRefusal.TheVariants.{AlreadyIn, NotIn, NoSlot}
use Rattle.key_graph.specs.Slots.{least_below}
use Rattle.key_graph.specs.KeyTree.{Plan, Tree, after, fits, followed_by, free_slot, holder, is_held, place_of, planned, root_generation, slot_node, slot_of, with_wraps}
use Rattle.key_graph.specs.Reach.{Among, Event, plan, follow, followed, plans, generations, tree_of, Rises, IsOpen, IsRun, HasSlotBelow, IsMember, KeyName, leaf, inner, Reach, own, opens, changes_at}
use Rattle.key_graph.specs.Streams.{AreFit}
use Rattle.key_graph.proofs.Histories.{both_true}
use Rattle.key_graph.proofs.Nodes as nodes
use Rattle.key_graph.proofs.Nodes.{Above}
use Rattle.key_graph.proofs.Law.{Closed, Apart, says, reaches, held_some}

-- ---- places

none_some : (i : ℕ) → None ≡ Some i → ⊥
none_some i e = cc

least_step : (test : ℕ → Bool) (n i : ℕ) (o : Option ℕ) → least_below test n ≡ o → (b : Bool) → test n ≡ b → least_below test (suc n) ≡ Some i
    → ((o ≡ Some i) ⊎ ((n ≡ i) × (b ≡ true)))
least_step test n i (Some j) h b t e = inl (let f : Some j ≡ Some i = rw h at e in f)
least_step test n i None h true t e = inr (let f : Some n ≡ Some i = rw (h, t) at e in (cc, refl))
least_step test n i None h false t e = (let f : None ≡ Some i = rw (h, t) at e in absurd (none_some i f))

-- the least number that is found passes
pub least_fact : (test : ℕ → Bool) (n i : ℕ) → least_below test n ≡ Some i → (i < n) × (test i ≡ true)
least_fact test zero i e = absurd (cc)
least_fact test (suc n) i e = elim (least_step test n i (least_below test n) refl (test n) refl e) [
  | inl f ↦ (let r = least_fact test n i f in (omega arith, r.1))
  | inr f ↦ (omega (arith, f.0), ap test (sym f.0) ∙ f.1)
]

ok_some : {X E : Type 0} (o : Option X) (e : E) (x : X) → ok_or o e ≡ Ok x → o ≡ Some x
ok_some None e x h = absurd (cc)
ok_some (Some y) e x h = cc

abbrev refused : PlanRefusal → Result ℕ PlanRefusal
refused e = Err e

err_ok : (s : ℕ) → refused AlreadyIn ≡ Ok s → ⊥
err_ok s e = cc

admitted : (t : ℕ) (cs : List Change) (user : ℕ) (key : List ℕ) (s : ℕ) (b : Bool) → is_some (slot_of t cs user) ≡ b → place_of t cs (Admit user key) ≡ Ok s
    → (is_some (slot_of t cs user) ≡ false) × (free_slot t cs ≡ Some s)
admitted t cs user key s true h e = let f : refused AlreadyIn ≡ Ok s = rw h at e in absurd (err_ok s f)
admitted t cs user key s false h e = let f : ok_or (free_slot t cs) NoSlot ≡ Ok s = rw h at e in (h, ok_some (free_slot t cs) NoSlot s f)

no_some : {X : Type 0} (o : Option X) → is_some o ≡ false → is_none o ≡ true
no_some None e = refl
no_some (Some x) e = absurd (false≢true (sym e))

-- a place that is found is in the tree, and the change fits there
pub place_within : (t : ℕ) (cs : List Change) (what : KeyChange) (s : ℕ) → place_of t cs what ≡ Ok s → s < 2 ^ t
place_within t cs (Admit user key) s e = (least_fact (λ i. is_held None (holder cs i)) (2 ^ t) s (admitted t cs user key s (is_some (slot_of t cs user)) refl e).1).0
place_within t cs (Remove user) s e = (least_fact (λ i. is_held (Some user) (holder cs i)) (2 ^ t) s (ok_some (slot_of t cs user) NotIn s e)).0

pub place_fits : (t : ℕ) (cs : List Change) (what : KeyChange) (s : ℕ) → place_of t cs what ≡ Ok s → fits t cs s what ≡ true
place_fits t cs (Admit user key) s e =
    let a = admitted t cs user key s (is_some (slot_of t cs user)) refl e in
    let f = least_fact (λ i. is_held None (holder cs i)) (2 ^ t) s a.1 in
    both_true (no_some (slot_of t cs user) a.0) (both_true (lt-ltb s (2 ^ t) f.0) f.1)
place_fits t cs (Remove user) s e =
    let f = least_fact (λ i. is_held (Some user) (holder cs i)) (2 ^ t) s (ok_some (slot_of t cs user) NotIn s e) in
    both_true (lt-ltb s (2 ^ t) f.0) f.1

abbrev slot_in : Result (ℕ × List Wrap) PlanRefusal → Result ℕ PlanRefusal
slot_in (Ok m) = Ok m.0
slot_in (Err x) = Err x

place_from : (tree : Tree) (g : ℕ) (what : KeyChange) (s : ℕ) (ws : List Wrap) (r : Result ℕ PlanRefusal) → with_wraps tree g what r ≡ Ok (s, ws) → r ≡ Ok s
place_from tree g what s ws (Ok i) e = ap slot_in e
place_from tree g what s ws (Err x) e = ap slot_in e

pub planned_place : (tree : Tree) (g : ℕ) (what : KeyChange) (s : ℕ) (ws : List Wrap) → planned tree g what ≡ Ok (s, ws)
    → place_of tree.setting.depth tree.followed what ≡ Ok s
unfolding planned
planned_place tree g what s ws e = place_from tree g what s ws (place_of tree.setting.depth tree.followed what) e

-- ---- what a run keeps

abbrev pub plan_of : Change → List Event → Plan
plan_of c es = record { change = c; before = followed es }

pub record Facts (setting : Setting) (es : List Event) : Type 0 where
  pub small : (p : Plan) → Among p (plans es) → p.change.slot < 2 ^ setting.depth
  pub closed : Closed setting.depth (plans es) (followed es)
  pub all : (p : Plan) → Among p (plans es) → Closed setting.depth (plans es) (after p)
  pub apart : Apart (plans es)
  pub positive : (p : Plan) → Among p (plans es) → 0 < p.change.generation

more : (t : ℕ) (q : Plan) (ps : List Plan) (cs : List Change) → Closed t ps cs → Closed t (q ∷ ps) cs
more t q ps [] closed = tt
more t q ps (c ∷ cs) closed = (inr closed.0, closed.1, more t q ps cs closed.2)

older : (g : ℕ) (es : List Event) → Rises g es → (p : Plan) → Among p (plans es) → p.change.generation < g
older g [] rises p a = absurd a
older g (plan c ∷ es) rises p (inl e) = rw e rises.0
older g (plan c ∷ es) rises p (inr a) = older g es rises.1 p a
older g (follow c ∷ es) rises p a = older g es rises p a

above_zero : (g : ℕ) (es : List Event) → Rises g es → 0 < g
above_zero g [] rises = rises
above_zero g (plan c ∷ es) rises = above_zero g es rises.1
above_zero g (follow c ∷ es) rises = above_zero g es rises

-- an open change was planned after the changes that are followed now
open_planned : (c : Change) (es : List Event) → IsOpen c es → Among (plan_of c es) (plans es)
open_planned c [] o = absurd o
open_planned c (plan d ∷ es) (inl e) = inl (ap (λ (x : Change). plan_of x es) e)
open_planned c (plan d ∷ es) (inr o) = inr (open_planned c es o)
open_planned c (follow d ∷ es) o = absurd o

module _ (setting : Setting) (es : List Event) (f : Facts setting es) (q : Plan) where
  small_new : q.change.slot < 2 ^ setting.depth → (p : Plan) → Among p (q ∷ plans es) → p.change.slot < 2 ^ setting.depth
  small_new within p (inl e) = rw e within
  small_new within p (inr a) = f.small p a

  all_new : Closed setting.depth (q ∷ plans es) (after q) → (p : Plan) → Among p (q ∷ plans es) → Closed setting.depth (q ∷ plans es) (after p)
  all_new new p (inl e) = subst (λ (r : Plan). Closed setting.depth (q ∷ plans es) (after r)) (sym e) new
  all_new new p (inr a) = more setting.depth q (plans es) (after p) (f.all p a)

  apart_new : ((p : Plan) → Among p (plans es) → p.change.generation < q.change.generation) → (p r : Plan) → Among p (q ∷ plans es) → Among r (q ∷ plans es)
      → p.change.generation ≡ r.change.generation → p ≡ r
  apart_new old p r (inl a) (inl b) g = a ∙ sym b
  apart_new old p r (inl a) (inr b) g = let h = old r b in let e : p.change.generation ≡ q.change.generation = ap (λ (m : Plan). m.change.generation) a in absurd (omega arith)
  apart_new old p r (inr a) (inl b) g = let h = old p a in let e : r.change.generation ≡ q.change.generation = ap (λ (m : Plan). m.change.generation) b in absurd (omega arith)
  apart_new old p r (inr a) (inr b) g = f.apart p r a b g

  positive_new : 0 < q.change.generation → (p : Plan) → Among p (q ∷ plans es) → 0 < p.change.generation
  positive_new h p (inl e) = rw e h
  positive_new h p (inr a) = f.positive p a

pub facts : (setting : Setting) (es : List Event) → IsRun setting es → Facts setting es
facts setting [] run = record { small = λ p a. absurd a; closed = tt; all = λ p a. absurd a; apart = λ p q a b g. absurd a; positive = λ p a. absurd a }
facts setting (follow c ∷ es) run =
    let f = facts setting es run.1 in
    let a = open_planned c es run.0 in
    record { small = f.small; closed = (a, f.small (plan_of c es) a, f.closed); all = f.all; apart = f.apart; positive = f.positive }
facts setting (plan c ∷ es) run =
    let f = facts setting es run.2 in
    let t = setting.depth in
    let q = plan_of c es in
    let within : c.slot < 2 ^ t = place_within t (followed es) c.what c.slot (planned_place (tree_of setting es) c.generation c.what c.slot _ run.0) in
    let new : Closed t (plans (plan c ∷ es)) (after q) = (inl refl, within, more t q (plans es) (followed es) f.closed) in
    record {
      small = λ p a. small_new setting es f q within p a;
      closed = more t q (plans es) (followed es) f.closed;
      all = λ p a. all_new setting es f q new p a;
      apart = λ p r a b g. apart_new setting es f q (older c.generation es run.1) p r a b g;
      positive = λ p a. positive_new setting es f q (above_zero c.generation es run.1) p a;
    }

-- ---- who reaches which key

reached : (setting : Setting) (es : List Event) → Facts setting es → (p : Plan) (x u : ℕ) → Among p (plans es)
    → Above setting.depth (slot_node setting.depth p.change.slot) x → HasSlotBelow setting.depth (after p) x u
    → Reach setting (plans es) u (inner x p.change.generation)
reached setting es f p x u among above h =
    let t = setting.depth in
    let m = held_some u (holder (after p) h.0) h.1.held in
    let r = reaches setting (plans es) u (after p) (f.all p among) h.0 m.0 h.1.within m.1 m.2 x h.2 in
    let small : x < 2 ^ t = nodes.inner t x p.change.slot (f.small p among) above in
    let name : Some (inner x p.change.generation) ≡ Some r.0 = rw (lt-ltb x (2 ^ t) small, nodes.above_below t x p.change.slot above) at r.1 in
    let same : inner x p.change.generation ≡ r.0 = cc in
    subst (Reach setting (plans es) u) (sym same) r.2

pub reach : (setting : Setting) (es : List Event) (p : Plan) (x u : ℕ) → IsRun setting es → Among p (plans es)
    → Above setting.depth (slot_node setting.depth p.change.slot) x
    → Reach setting (plans es) u (inner x p.change.generation) ↔ HasSlotBelow setting.depth (after p) x u
reach setting es p x u run among above =
    let f = facts setting es run in (
      λ r. says setting (plans es) u f.all f.small f.apart r p among refl above,
      λ h. reached setting es f p x u among above h,
    )

-- ---- a change that is followed fits

open_fits : (setting : Setting) (c : Change) (es : List Event) → IsRun setting es → IsOpen c es → fits setting.depth (followed es) c.slot c.what ≡ true
open_fits setting c [] run o = absurd o
open_fits setting c (plan d ∷ es) run (inl e) =
    let t = setting.depth in
    let f : fits t (followed es) d.slot d.what ≡ true = place_fits t (followed es) d.what d.slot (planned_place (tree_of setting es) d.generation d.what d.slot _ run.0) in
    subst (λ (x : Change). fits t (followed es) x.slot x.what ≡ true) (sym e) f
open_fits setting c (plan d ∷ es) run (inr o) = open_fits setting c es run.2 o
open_fits setting c (follow d ∷ es) run o = absurd o

pub follows : (setting : Setting) (c : Change) (es : List Event) → IsRun setting (follow c ∷ es)
    → followed_by (tree_of setting es) c ≡ (true, tree_of setting (follow c ∷ es))
unfolding followed_by
follows setting c es run = rw (open_fits setting c es run.1 run.0) refl

-- each followed change fits, and has a generation that is neither 0 nor an earlier one's
pub all_fit : (setting : Setting) (es : List Event) → IsRun setting es → AreFit setting.depth (followed es)
all_fit setting [] run = tt
all_fit setting (plan c ∷ es) run = all_fit setting es run.2
all_fit setting (follow c ∷ es) run = (open_fits setting c es run.1 run.0, all_fit setting es run.1)

-- ---- root keys

module _ (setting : Setting) (ps : List Plan) (u : ℕ) (positive : (p : Plan) → Among p ps → 0 < p.change.generation) where
  abbrev IsPositive : KeyName → Type 0
  IsPositive (leaf v) = Unit {0}
  IsPositive (inner x g) = 0 < g

  positive_names : {k : KeyName} → Reach setting ps u k → IsPositive k
  positive_names own = tt
  positive_names (opens p w k among aw name r) = positive p among

-- what stands at a place of a list with one element more
at_snoc : (xs : List ℕ) (y i g : ℕ) → slice_get (xs ++ y ∷ []) i ≡ Some g → ((i < length xs) × (slice_get xs i ≡ Some g)) ⊎ ((i ≡ length xs) × (y ≡ g))
at_snoc [] y zero g e = inr (refl, cc)
at_snoc [] y (suc i) g e = absurd (cc)
at_snoc (x ∷ xs) y zero g e = inl (omega arith, e)
at_snoc (x ∷ xs) y (suc i) g e = elim (at_snoc xs y i g e) [ inl r ↦ inl (omega (arith, r.0), r.1) | inr r ↦ inr (ap suc r.0, r.1) ]

length-generations : (cs : List Change) → length (generations cs) ≡ length cs
length-generations [] = refl
length-generations (c ∷ cs) = simp (length-append, length-generations cs) (omega arith)

-- the change that began an epoch, and those before it, of which holds what holds of each end of the list
pub begun : (P : List Change → Type 0) (end : (c : Change) (cs : List Change) → P (c ∷ cs) → P cs) (cs : List Change) → P cs
    → (e g : ℕ) → slice_get (generations cs) e ≡ Some g
    → (c : Change) × (before : List Change) × (changes_at (suc e) cs ≡ c ∷ before) × (c.generation ≡ g) × P (c ∷ before)
begun P end [] holds e g h = absurd (cc)
begun P end (c ∷ cs) holds e g h =
    let n = length-generations cs in
    elim (at_snoc (generations cs) c.generation e g h) [
      | inl r ↦ (let b = begun P end cs (end c cs holds) e g r.1 in
          let d : suc (length cs) - suc e ≡ suc (length cs - suc e) = (let l = r.0 in omega arith) in
          (b.0, b.1, (rw d b.2), b.3, b.4))
      | inr r ↦ (let d : suc (length cs) - suc e ≡ 0 = (let l = r.0 in omega arith) in
          (c, cs, (rw d refl), r.1, holds))
    ]

-- ---- who reaches the root keys

pub none_held : (t u : ℕ) → IsMember t [] u → ⊥
none_held t u m = false≢true m.1.held

pub start : (cs : List Change) → changes_at 0 cs ≡ []
start cs = let e : length cs - 0 ≡ length cs = omega arith in rw e (drop-length cs)

pub roots : (setting : Setting) (es : List Event) (e g u : ℕ) → IsRun setting es → 1 ≤ setting.depth → root_generation (generations (followed es)) e ≡ Some g
    → Reach setting (plans es) u (inner 1 g) ↔ IsMember setting.depth (changes_at e (followed es)) u
roots setting es zero g u run deep h =
    let f = facts setting es run in
    let z : 0 ≡ g = cc in (
      λ r. (let p : 0 < g = positive_names setting (plans es) u f.positive r in absurd (omega arith)),
      λ m. absurd (none_held setting.depth u (subst (λ (cs : List Change). IsMember setting.depth cs u) (start (followed es)) m)),
    )
roots setting es (suc e) g u run deep h =
    let t = setting.depth in
    let f = facts setting es run in
    let b = begun (Closed t (plans es)) (λ d cs closed. closed.2) (followed es) f.closed e g h in
    let p : Plan = record { change = b.0; before = b.1 } in
    let top : (s : ℕ) → s < 2 ^ t → Above t (slot_node t s) 1 = λ s w. nodes.root t (slot_node t s) deep (omega arith) (omega arith) in
    let law = reach setting es p 1 u run b.4.0 (top b.0.slot b.4.1) in (
      λ r. (let s = law.0 (subst (λ n. Reach setting (plans es) u (inner 1 n)) (sym b.3) r) in
          subst (λ (cs : List Change). IsMember t cs u) (sym b.2) (s.0, s.1)),
      λ m. (let n = subst (λ (cs : List Change). IsMember t cs u) b.2 m in
          subst (λ n. Reach setting (plans es) u (inner 1 n)) b.3 (law.1 (n.0, n.1, nodes.above_below t 1 n.0 (top n.0 n.1.within)))),
    )

-- ---- the followed changes have distinct generations

abbrev pub IsUnused : ℕ → List Change → Type 0
IsUnused g [] = Unit {0}
IsUnused g (c ∷ cs) = (c.generation ≡ g → ⊥) × IsUnused g cs

abbrev pub AreDistinct : List Change → Type 0
AreDistinct [] = Unit {0}
AreDistinct (c ∷ cs) = IsUnused c.generation cs × AreDistinct cs

unused : (t : ℕ) (ps : List Plan) → Apart ps → (p : Plan) → Among p ps → (cs : List Change) → Closed t ps cs → length cs ≤ length p.before → IsUnused p.change.generation cs
unused t ps apart p among [] closed short = tt
unused t ps apart p among (c ∷ cs) closed short = (
  λ e. (let same = apart (record { change = c; before = cs }) p closed.0 among e in
      let long : length cs ≡ length p.before = ap (λ (q : Plan). length q.before) same in
      absurd (omega arith)),
  unused t ps apart p among cs closed.2 (omega arith),
)

pub distinct : (t : ℕ) (ps : List Plan) → Apart ps → (cs : List Change) → Closed t ps cs → AreDistinct cs
distinct t ps apart [] closed = tt
distinct t ps apart (c ∷ cs) closed =
    (unused t ps apart (record { change = c; before = cs }) closed.0 cs closed.2 (omega arith), distinct t ps apart cs closed.2)

-- A plain wall stays honest.
use Rattle.std.proofs.Common.{◌≡◌, ◌∙◌, ℕ, ◌+◌, ◌≤◌, Bool, true, false, ◌&&◌, ◌⊎◌, suc, zero, List, [], ◌∷◌, ◌++◌, length, take, Option, Some, None, refl, sym, ap, subst, inl, inr, arith, rules, length-append}
use Rattle.std.specs.Prelude.{slice_get}
use Rattle.std.specs.List.{AllByRecursion}
use Rattle.std.specs.Str.{bytes_eq}
use Rattle.std.proofs.lemmas.Bool.{lt-ltb}
use Rattle.std.proofs.lemmas.Option.{slice_get_within}
use Rattle.std.proofs.lemmas.Slice.Eq.{bytes_eq-Decides}
use Rattle.std.proofs.lemmas.List.{take-append-le}
use Rattle.std.proofs.Math.Seq.{take-append_seam}
use Rattle.fr_bytes.proofs.Lists.{each-append}
use Rattle.fr_digest.specs.Digest.{Digest}
use Rattle.lms_tree.proofs.Decided.{valid_decides}
use Rattle.op_types.specs.declared.op.Op.{Op}
use Rattle.op_types.specs.declared.op.Leaf.{Leaf}
use Rattle.op_types.specs.declared.view.View.{View}
use Rattle.op_types.specs.declared.limits.TheConstants.{VIEW_SIZE_MAX}
use Rattle.op_types.specs.Spelling.{IsLeaf, view_signed}
use Rattle.tree_model.specs.History.{root}
use Rattle.wall_law.specs.Lawful.{Lawful}
use Rattle.wall_law.specs.State.{state_of}
use Rattle.wall_law.proofs.Extensions.{lawful-nil, lawful-snoc}
use Rattle.wall_law.proofs.Histories.{law-stands}
use Rattle.signed_ops.specs.Signed.{is_author_signed, is_view_signed}
use Rattle.hall_core.specs.declared.ask.Ask.{Ask}
use Rattle.hall_core.specs.declared.ask.Ask.TheVariants.{Look, Append}
use Rattle.hall_core.specs.declared.ask.Answer.{Answer}
use Rattle.hall_core.specs.declared.ask.Answer.TheVariants.{Refused}
use Rattle.hall_core.specs.declared.ask.Called.{Called}
use Rattle.hall_core.specs.declared.ask.Cause.{Cause}
use Rattle.hall_core.specs.declared.ask.Cause.TheVariants.{NoMemory}
use Rattle.hall_core.specs.declared.facts.WallFacts.{WallFacts}
use Rattle.hall_core.specs.PlainWall.{Gives, answer_to, leaf_of, left_behind, placed_or, refusal_of, sees, texts_of, where_placed, with_leaf}
use Rattle.hall_core.specs.Calls.{LegalFrom, left_by, play_from}
use Rattle.hall_core.specs.Honest.{IsHonest, SeenIn}
use Rattle.hall_core.specs.Standing.{IsKept}
use Rattle.hall_core.proofs.Refusals.{IsFree, free}

-- ---- embedded views

both-true : (a b : Bool) → (a && b) ≡ true → (a ≡ true) × (b ≡ true)
both-true true b e = (refl, e)
both-true false b e = absurd cc

same-bytes : (xs ys : List ℕ) → bytes_eq xs ys ≡ true → xs ≡ ys
same-bytes xs ys e = search (rules, bytes_eq-Decides)

-- a view that the wall doesn't refuse is one of its leaves
seen-in : (d : Digest) (facts : WallFacts) (leaves : List Leaf) (view : View) → view.size ≤ length leaves
    → sees d facts leaves view ≡ true → SeenIn d facts leaves view
unfolding is_view_signed
seen-in d facts leaves view within seen some =
    let both = both-true (bytes_eq (root d (texts_of leaves) view.size) view.root) (is_view_signed facts.server view)
    (rw (lt-ltb 0 view.size some) at seen) in
    record {
      within = within;
      same = sym (same-bytes (root d (texts_of leaves) view.size) view.root both.0);
      signed = (valid_decides facts.server (view_signed view.wall view.size view.root) view.sig).0 both.1;
    }

-- ---- one leaf more

-- a place in the longer list is one of the shorter, or the last
last-or-front : (leaves : List Leaf) (leaf l : Leaf) (k : ℕ) → slice_get (leaves ++ leaf ∷ []) k ≡ Some l
    → (slice_get leaves k ≡ Some l) ⊎ ((k ≡ length leaves) × (l ≡ leaf))
last-or-front [] leaf l zero at = inr (refl, let same : l ≡ leaf = cc in same)
last-or-front [] leaf l (suc k) at = absurd cc
last-or-front (x ∷ leaves) leaf l zero at = inl at
last-or-front (x ∷ leaves) leaf l (suc k) at = elim (last-or-front leaves leaf l k at) [
  | inl front ↦ inl front
  | inr last ↦ inr ((let same = last.0 in omega arith), last.1)
]

-- an honest wall but for the spellings
record IsSound (d : Digest) (facts : WallFacts) (leaves : List Leaf) : Type 0 where
  pub lawful : Lawful d facts.owner facts.wall leaves
  pub signed : AllByRecursion (λ (leaf : Leaf). is_author_signed facts.users leaf.op ≡ true) leaves
  pub seen : (k : ℕ) (leaf : Leaf) → slice_get leaves k ≡ Some leaf → SeenIn d facts (take k leaves) leaf.op.view
  pub few : length leaves ≤ VIEW_SIZE_MAX

no-place : (k : ℕ) (l : Leaf) → slice_get {X = Leaf} [] k ≡ Some l → ⊥
no-place k l at = let within = slice_get_within [] k l at in omega arith

sound-nil : (d : Digest) (facts : WallFacts) → IsSound d facts []
sound-nil d facts = record {
  lawful = lawful-nil d facts.owner facts.wall;
  signed = tt;
  seen = λ k l at. absurd (no-place k l at);
  few = omega arith;
}

module _ (d : Digest) (facts : WallFacts) where
  sound-snoc : (leaves : List Leaf) (op : Op) → IsFree d facts leaves op → IsSound d facts leaves
      → IsSound d facts (with_leaf d facts leaves op)
  sound-snoc leaves op is_free sound =
      let s = state_of facts.owner leaves in
      let leaf = leaf_of d s op in
      let all : List Leaf = leaves ++ leaf ∷ [] in
      let room = is_free.room in
      let count : length all ≡ length leaves + 1 = length-append leaves (leaf ∷ []) in
      let next = (lawful-snoc d facts.owner facts.wall leaves leaf).1 in
      let early = (law-stands s facts.wall (length leaves) op is_free.lawful).early_view in
      let here = seen-in d facts leaves op.view early is_free.seen in
      record {
        lawful = next (sound.lawful, (is_free.lawful, refl));
        signed = each-append (λ (l : Leaf). is_author_signed facts.users l.op
            ≡ true) leaves (leaf ∷ []) sound.signed (is_free.signed, tt);
        seen = λ k l at. elim (last-or-front leaves leaf l k at) [
          | inl front ↦
              let within = slice_get_within leaves k l front in
              subst (λ (ls : List Leaf). SeenIn d facts ls l.op.view) (sym (take-append-le k leaves (leaf
              ∷ []) (omega arith)))
              (sound.seen k l front)
          | inr last ↦
              let whole : take k all ≡ leaves = ap (λ (n : ℕ). take n all) last.0
              ∙ take-append_seam leaves (leaf ∷ []) in
              subst (λ (ls : List Leaf). SeenIn d facts ls l.op.view) (sym whole)
              (subst (λ (x : Leaf). SeenIn d facts leaves x.op.view) (sym last.1) here)
        ];
        few = omega arith;
      }

  -- ---- calls

  sound-or : (leaves : List Leaf) (op : Op) (cause : Option Cause) → refusal_of d facts leaves op ≡ cause
      → IsSound d facts leaves
      → IsSound d facts (where_placed d facts leaves op (placed_or (length leaves) cause))
  sound-or leaves op (Some cause) e sound = sound
  sound-or leaves op None e sound = sound-snoc leaves op (free d facts leaves op e) sound

  sound-answer : (leaves : List Leaf) (ask : Ask) → IsSound d facts leaves
      → IsSound d facts (left_behind d facts leaves ask (answer_to d facts leaves ask))
  unfolding answer_to
  sound-answer leaves Look sound = sound
  sound-answer leaves (Append op) sound = sound-or leaves op (refusal_of d facts leaves op) refl sound

  sound-refused : (leaves : List Leaf) (ask : Ask) (cause : Cause) → IsSound d facts leaves
      → IsSound d facts (left_behind d facts leaves ask (Refused cause))
  sound-refused leaves Look cause sound = sound
  sound-refused leaves (Append op) cause sound = sound

  sound-call : (leaves : List Leaf) (ask : Ask) (answer : Answer) → Gives d facts leaves ask answer
      → IsSound d facts leaves
      → IsSound d facts (left_behind d facts leaves ask answer)
  sound-call leaves ask answer gives sound = elim gives [
    | inl is ↦ subst (λ (a : Answer). IsSound d facts (left_behind d facts leaves ask a)) (sym is)
        (sound-answer leaves ask sound)
    | inr is ↦ subst (λ (a : Answer). IsSound d facts (left_behind d facts leaves ask a)) (sym is)
        (sound-refused leaves ask NoMemory sound)
  ]

  sound-play : (leaves : List Leaf) (calls : List Called) → LegalFrom d facts leaves calls → IsSound d facts leaves
      → IsSound d facts (play_from d facts leaves calls)
  sound-play leaves [] legal sound = sound
  sound-play leaves (call ∷ calls) legal sound =
      sound-play (left_by d facts leaves call) calls legal.1 (sound-call leaves call.ask call.answer legal.0.gives
      sound)

  -- ---- the same with the spellings

  honest : (leaves : List Leaf) → IsSound d facts leaves → AllByRecursion IsLeaf leaves → IsHonest d facts leaves
  honest leaves sound spelled = record {
    lawful = sound.lawful;
    signed = sound.signed;
    seen = sound.seen;
    spelled = spelled;
    few = sound.few;
  }

  sound : (leaves : List Leaf) → IsHonest d facts leaves → IsSound d facts leaves
  sound leaves honest = record { lawful = honest.lawful; signed = honest.signed; seen = honest.seen; few = honest.few }

  pub honest-nil : IsHonest d facts []
  honest-nil = honest [] (sound-nil d facts) tt

  pub honest-call : (leaves : List Leaf) (ask : Ask) (answer : Answer) → Gives d facts leaves ask answer
      → IsHonest d facts leaves
      → AllByRecursion IsLeaf (left_behind d facts leaves ask answer)
      → IsHonest d facts (left_behind d facts leaves ask answer)
  honest-call leaves ask answer gives before spelled =
      honest (left_behind d facts leaves ask answer) (sound-call leaves ask answer gives (sound leaves before)) spelled

  pub honest-kept : (leaves : List Leaf) (calls : List Called) → IsKept d facts leaves calls → IsHonest d facts leaves
  honest-kept leaves calls kept =
      honest leaves (subst (IsSound d facts) (sym kept.played) (sound-play [] calls kept.legal (sound-nil d facts)))
      kept.spelled

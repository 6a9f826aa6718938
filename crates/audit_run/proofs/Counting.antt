-- The counts of an audit, and what its search for unsigned operations tells.
use Rattle.std.proofs.Common.{◌≡◌, ◌∙◌, inl, inr, ℕ, zero, suc, Bool, List, [], ◌∷◌, ◌++◌, length, Option, Some, None, refl, sym, ap, subst, arith}
use Rattle.std.specs.Prelude.{filter, is_some, slice_get}
use Rattle.std.specs.List.{AllByRecursion}
use Rattle.std.proofs.lemmas.Bool.{cases_Bool, cond-true, cond-false}
use Rattle.fr_digest.specs.Collision.{Strings}
use Rattle.fr_digest.specs.Digest.{Digest}
use Rattle.op_types.specs.declared.op.Leaf.{Leaf}
use Rattle.op_types.specs.declared.op.Op.{Op}
use Rattle.world_book.specs.declared.took.Took.{Took}
use Rattle.world_book.specs.declared.world.World.{World}
use Rattle.signed_ops.specs.Signed.{IsAuthorSigned}
use Rattle.signed_ops.proofs.Signatures.{is_signed}
use Rattle.world_book.specs.Kept.{Kept}
use Rattle.world_book.proofs.Leaves.{leaf-passes}
use Rattle.world_book.proofs.Places.{flat-place}
use Rattle.world_book.specs.Records.{keys_of, records_of}
use Rattle.world_audit.specs.Comparisons.{all_compared}
use Rattle.world_audit.specs.Sound.{NothingUnsigned}
use Rattle.world_audit.specs.Story.{story}
use Rattle.world_audit.proofs.Agreements.{all-flat}
use Rattle.world_audit.proofs.Audits.{all-agree, sound}
use Rattle.world_audit.proofs.Firsts.{difference-collides}
use Rattle.audit_run.specs.Answer.{count_grounded, count_records, has_story}
use Rattle.audit_run.specs.Compared.{Compared}
use Rattle.audit_run.specs.Ends.{FindsClash, FindsForged, FindsNothing}
use Rattle.audit_run.specs.Table.{ArePlaces}
use Rattle.audit_run.specs.Unsigned.{IsFirstUnsigned, IsOwned, IsSearched, shown_leaves}
use Rattle.audit_run.specs.declared.answer.Sound.{Sound}
use Rattle.audit_run.proofs.Ordering.{story-there}
use Rattle.audit_run.specs.Line.{History}

-- lists whose elements pass alike
same-count : {A B : Type 0} (p : A → Bool) (q : B → Bool) (xs : List A) (ys : List B) → length xs ≡ length ys
    → ((k : ℕ) (x : A) (y : B) → slice_get xs k ≡ Some x → slice_get ys k ≡ Some y → p x ≡ q y)
    → length (filter p xs) ≡ length (filter q ys)
same-count p q [] [] long same = refl
same-count p q [] (y ∷ ys) long same = absurd (omega (arith, long))
same-count p q (x ∷ xs) [] long same = absurd (omega (arith, long))
same-count p q (x ∷ xs) (y ∷ ys) long same =
    let rest = same-count p q xs ys (let n : length xs ≡ length ys = omega (arith, long) in n)
    (λ k a b at there. same (suc k) a b at there) in
    let here = same 0 x y refl refl in
    elim (cases_Bool (p x)) [
      | inl is ↦
          ap length (cond-true (p x) (x ∷ filter p xs) (filter p xs) is) ∙ ap suc rest
          ∙ sym (ap length (cond-true (q y) (y ∷ filter q ys) (filter q ys) (sym here ∙ is)))
      | inr not ↦
          ap length (cond-false (p x) (x ∷ filter p xs) (filter p xs) not) ∙ rest
          ∙ sym (ap length (cond-false (q y) (y ∷ filter q ys) (filter q ys) (sym here ∙ not)))
    ]

pub grounded-count : (w : World) (lines : List History) (places : List (Option ℕ)) → ArePlaces w lines places
    → length (filter (λ (p : Option ℕ). is_some p) places) ≡ count_grounded w
grounded-count w lines places table =
    same-count (λ (p : Option ℕ). is_some p) (has_story w) places (records_of w) table.count
    (λ k p r at there. sym (story-there lines r.wall (story w r) p (table.each k r p there at)))

-- ---- nothing unsigned

owned-at : {A : Type 0} (P : A → Type 0) (xs : List A) (k : ℕ) (x : A) → AllByRecursion P xs → slice_get xs k ≡ Some x → P x
owned-at P [] k x all at = absurd cc
owned-at P (y ∷ ys) zero x all at = let same : y ≡ x = cc in subst P same all.0
owned-at P (y ∷ ys) (suc k) x all at = owned-at P ys k x all.1 at

all-owned : (w : World) → IsSearched w (shown_leaves w) None → AllByRecursion (IsOwned w) (shown_leaves w)
unfolding IsSearched
all-owned w found = found

pub none-unsigned : (w : World) (o : Option Leaf) → IsSearched w (shown_leaves w) o → o ≡ None → NothingUnsigned w
none-unsigned w o found none r leaf at here =
    owned-at (IsOwned w) r.leaves here.place leaf
    (all-flat (IsOwned w) (λ (t : Took). t.leaves) (records_of w) at.place r (all-owned w (subst (IsSearched w (shown_leaves w)) none found)) at.there)
    here.there

-- ---- the answers

pub finds-nothing : (d : Digest) (w : World) (found : Sound) → Kept d w → NothingUnsigned w → Compared d (all_compared w) None
    → found.records ≡ count_records w → found.grounded ≡ count_grounded w → FindsNothing d w found
finds-nothing d w found kept unsigned compared records grounded = record {
  records = records;
  grounded = grounded;
  unsigned = unsigned;
  compared = sym compared.first;
  sound = sound d w kept unsigned (all-agree d w kept (compared.agree refl));
}

pub finds-clash : (d : Digest) (w : World) (s : Strings) (o : Option Strings) → NothingUnsigned w → Compared d (all_compared w) o → o ≡ Some s
    → FindsClash d w s
finds-clash d w s o unsigned compared is =
    let first = sym compared.first ∙ is in
    record { unsigned = unsigned; first = first; collides = difference-collides d (all_compared w) s first }

first-is : (w : World) (leaf : Leaf) → IsSearched w (shown_leaves w) (Some leaf) → IsFirstUnsigned w (shown_leaves w) leaf
unfolding IsSearched
first-is w leaf found = found

behind-front : (xs : List Leaf) (l : Leaf) (ys : List Leaf) → slice_get (xs ++ l ∷ ys) (length xs) ≡ Some l
behind-front [] l ys = refl
behind-front (x ∷ xs) l ys = behind-front xs l ys

-- A shown operation is validly signed.
shown-signed : (d : Digest) (w : World) → Kept d w → (leaf : Leaf) → IsFirstUnsigned w (shown_leaves w) leaf
    → IsAuthorSigned (keys_of w.users) leaf.op
shown-signed d w kept leaf first =
    let at : slice_get (shown_leaves w) (length first.before) ≡ Some leaf =
    ap (λ (ls : List Leaf). slice_get ls (length first.before)) first.shown ∙ behind-front first.before leaf first.behind in
    let it = flat-place (λ (r : Took). r.leaves) (records_of w) (length first.before) leaf at in
    is_signed (keys_of w.users) leaf.op (leaf-passes d w kept it.0 it.1 it.2.place leaf it.2.there).2.signed

pub finds-forged : (d : Digest) (w : World) → Kept d w → (leaf : Leaf) (user wall : ℕ) (op : Op)
    → IsSearched w (shown_leaves w) (Some leaf)
    → (user ≡ leaf.op.author) × (wall ≡ leaf.op.wall) × (op ≡ leaf.op) → FindsForged w user wall op
finds-forged d w kept leaf user wall op found is = record {
  leaf = leaf;
  first = first-is w leaf found;
  user_is = is.0;
  wall_is = is.1;
  op_is = is.2;
  signed = subst (IsAuthorSigned (keys_of w.users)) (sym is.2) (shown-signed d w kept leaf (first-is w leaf found));
}

-- The laws of whole pruned trees, from those of their parts.
use Rattle.std.proofs.Common.{◌≡◌, ◌⊎◌, ℕ, ◌<◌, ◌≤◌, Bool, true, false, not, ◌&&◌, List, length, take, [], Option, Some, None, IsSome, ◌↔◌, cond, refl, ap, sym, ◌∙◌, inl, inr, arith}
use Rattle.std.specs.List.{slice_get}
use Rattle.std.specs.Prelude.{nat_lt}
use Rattle.std.proofs.lemmas.Bool.{and_parts, cases_Bool, lt-ltb, le-ltb, ltb-true, ltb-false}
use Rattle.std.proofs.lemmas.List.{length-take-le}
use Rattle.std.proofs.lemmas.Option.{slice_get-get_or}
use Rattle.fr_digest.specs.Digest.{Digest, IsDigest}
use Rattle.tree_model.proofs.HistoryLaws.{depth-fits, depth-least, root-all, root_of_all-part}
use Rattle.tree_model.specs.History.{depth, root, root_of_all}
use Rattle.hist_proof.specs.Pruned.{Tree, Prunes, PrunesAt, at, cut, cut_in, digest_of, fits, fits_at, is_version}
use Rattle.hist_proof.specs.Shown.{HasCollision, HasDigests, ShowsFrom, shown, shown_at, straddled}
use Rattle.hist_proof.proofs.Agreement.{Shows, agrees_at, full_at, glue_in}
use Rattle.hist_proof.proofs.Straddles.{Tells, cut_in-tells}
use Rattle.hist_proof.proofs.Fronts.{cut_in-all, cut_in-again, cut_in-fits, cut_in-shown}
use Rattle.hist_proof.proofs.Prunings.{prunes_at-cut_in, prunes_at-digest, prunes_at-fits, prunes_at-shown}

-- ---- what is defined under a test

under : {A : Type 0} (b : Bool) (o : Option A) (x : A) → cond b o None ≡ Some x → (b ≡ true) × (o ≡ Some x)
under true o x e = (refl, e)
under false o x e = absurd cc

not-lt : (a b : ℕ) → not (nat_lt a b) ≡ true → b ≤ a
not-lt a b e = elim (cases_Bool (nat_lt a b)) [
  | inl less ↦ let wrong : not true ≡ true = rw less at e in absurd cc
  | inr other ↦ ltb-false a b other
]

-- what there is a cut of
pub record IsCut (p : Tree) (n v : ℕ) (c : Tree) : Type 0 where
  pub fitting : fits p n ≡ true
  pub some : 0 < v
  pub within : v ≤ n
  pub here : cut_in (depth n) p n v ≡ Some c

pub cut-is : (p : Tree) (n v : ℕ) (c : Tree) → cut p n v ≡ Some c → IsCut p n v c
unfolding cut
cut-is p n v c e =
    let parts = under (fits p n && is_version n v) (cut_in (depth n) p n v) c e in
    let tests = and_parts (fits p n) (is_version n v) parts.0 in
    let bounds = and_parts (nat_lt 0 v) (not (nat_lt n v)) tests.1 in
    record { fitting = tests.0; some = ltb-true 0 v bounds.0; within = not-lt n v bounds.1; here = parts.1 }

pub cut-made : (p : Tree) (n v : ℕ) → fits p n ≡ true → 0 < v → v ≤ n → cut p n v ≡ cut_in (depth n) p n v
unfolding cut
cut-made p n v fitting some within = rw (fitting, lt-ltb 0 v some, le-ltb n v within) refl

-- what has a size
pub record IsSized (p : Tree) (n : ℕ) : Type 0 where
  pub some : 0 < n
  pub parts : fits_at (depth n) p n ≡ true

pub fits-is : (p : Tree) (n : ℕ) → fits p n ≡ true → IsSized p n
unfolding fits
fits-is p n e =
    let tests = and_parts (nat_lt 0 n) (fits_at (depth n) p n) e in record { some = ltb-true 0 n tests.0; parts = tests.1 }

pub fits-made : (p : Tree) (n : ℕ) → 0 < n → fits_at (depth n) p n ≡ true → fits p n ≡ true
unfolding fits
fits-made p n some parts = rw (lt-ltb 0 n some, parts) refl

pub shown-is : (p : Tree) (n k : ℕ) (t : List ℕ) → shown p n k ≡ Some t
    → (fits p n ≡ true) × (k < n) × (shown_at (depth n) p k ≡ Some t)
unfolding shown
shown-is p n k t e =
    let parts = under (fits p n && nat_lt k n) (shown_at (depth n) p k) t e in
    let tests = and_parts (fits p n) (nat_lt k n) parts.0 in
    (tests.0, ltb-true k n tests.1, parts.1)

pub shown-made : (p : Tree) (n k : ℕ) → fits p n ≡ true → k < n → shown p n k ≡ shown_at (depth n) p k
unfolding shown
shown-made p n k fitting within = rw (fitting, lt-ltb k n within) refl

-- ---- prunings

pub prunes-fits : (d : Digest) (p : Tree) (M : List (List ℕ)) → Prunes d p M → fits p (length M) ≡ true
prunes-fits d p M h = fits-made p (length M) h.some (prunes_at-fits d (depth (length M)) p M h.parts)

pub prunes-digest : (d : Digest) (p : Tree) (M : List (List ℕ)) → Prunes d p M → digest_of d p ≡ root_of_all d M
prunes-digest d p M h = prunes_at-digest d (depth (length M)) p M h.parts ∙ sym (root_of_all-part d M)

pub prunes-texts : (d : Digest) (p : Tree) (M : List (List ℕ)) (k : ℕ) (t : List ℕ) → Prunes d p M
    → shown p (length M) k ≡ Some t → slice_get M k ≡ Some t
prunes-texts d p M k t h e =
    let it = shown-is p (length M) k t e in
    slice_get-get_or M k [] it.1 ∙ ap (λ (u : List ℕ). Some u) (sym (prunes_at-shown d (depth (length M)) p M k t h.parts it.1 it.2))

-- what is cut of a pruning prunes the front of the list
pub prunes-cut : (d : Digest) (p : Tree) (M : List (List ℕ)) (v : ℕ) (c : Tree) → Prunes d p M
    → cut p (length M) v ≡ Some c → Prunes d c (take v M)
prunes-cut d p M v c h e =
    let it = cut-is p (length M) v c e in
    let within = it.within in
    let some = it.some in
    let len = length-take-le v M within in
    let parts = prunes_at-cut_in d (depth (length M)) p M v c some within (depth-fits (length M)) h.parts it.here in
    record { some = omega arith; parts = rw len parts }

-- ---- cuts

pub cut-fits : (p : Tree) (n v : ℕ) (c : Tree) → cut p n v ≡ Some c → fits c v ≡ true
cut-fits p n v c e =
    let it = cut-is p n v c e in
    fits-made c v it.some (cut_in-fits (depth n) p n v c it.some it.within (depth-fits n) (fits-is p n it.fitting).parts it.here)

-- a cut shows what the tree shows
pub cut-shown : (p : Tree) (n v : ℕ) (c : Tree) (k : ℕ) → cut p n v ≡ Some c → k < v → shown c v k ≡ shown p n k
cut-shown p n v c k e here =
    let it = cut-is p n v c e in
    let within = it.within in
    shown-made c v k (cut-fits p n v c e) here
    ∙ cut_in-shown (depth n) p n v c k it.some it.within (depth-fits n) here it.here
    ∙ sym (shown-made p n k it.fitting (omega arith))

-- a cut of a cut
pub cut-again : (p : Tree) (n v w : ℕ) (c : Tree) → cut p n v ≡ Some c → 0 < w → w ≤ v → cut c v w ≡ cut p n w
cut-again p n v w c e some le =
    let it = cut-is p n v c e in
    let within = it.within in
    cut-made c v w (cut-fits p n v c e) some le
    ∙ cut_in-again (depth n) p n v c w some le it.within (depth-fits n) it.here
    ∙ sym (cut-made p n w it.fitting some (omega arith))

-- there is a cut exactly where the version ends within no hidden part
pub cut-tells : (p : Tree) (n v : ℕ) → fits p n ≡ true → 0 < v → v ≤ n → Tells (straddled p n v) (cut p n v)
unfolding straddled
cut-tells p n v fitting some within =
    rw (cut-made p n v fitting some within)
    (cut_in-tells (depth n) p n v some within (depth-fits n) (record { below = depth-least n }) (fits-is p n fitting).parts)

pub cut-some : (p : Tree) (n v : ℕ) → fits p n ≡ true → 0 < v → v ≤ n → straddled p n v ≡ false → IsSome (cut p n v)
cut-some p n v fitting some within free =
    elim (cut-tells p n v fitting some within) [
      | inl none ↦ let same = none.0 in absurd cc
      | inr there ↦ rw (there.1.1) refl
    ]

cut-free : (p : Tree) (n v : ℕ) → fits p n ≡ true → 0 < v → v ≤ n → (c : Tree) → cut p n v ≡ Some c
    → straddled p n v ≡ false
cut-free p n v fitting some within c e =
    elim (cut-tells p n v fitting some within) [
      | inl none ↦ let other = none.1 in absurd cc
      | inr there ↦ there.0
    ]

-- what is cut at the end is the whole tree
pub cut-all : (p : Tree) (n : ℕ) → fits p n ≡ true → cut p n n ≡ Some p
cut-all p n fitting =
    let size = fits-is p n fitting in
    cut-made p n n fitting size.some (omega arith) ∙ cut_in-all (depth n) p n size.some (depth-fits n) (depth-least n)

some-is : {A : Type 0} (o : Option A) → IsSome o → (x : A) × (o ≡ Some x)
some-is None h = absurd cc
some-is (Some x) h = (x, refl)

pub cut-exactly : (p : Tree) (n v : ℕ)
    → IsSome (cut p n v) ↔ ((fits p n ≡ true) × (0 < v) × (v ≤ n) × (straddled p n v ≡ false))
cut-exactly p n v = (
  λ h.
      let it = some-is (cut p n v) h in
      let is = cut-is p n v it.0 it.1 in
      (is.fitting, is.some, is.within, cut-free p n v is.fitting is.some is.within it.0 it.1),
  λ h. cut-some p n v h.0 h.1 h.2 h.3,
)

-- ---- roots of versions

-- a pruning of a list gives the roots of the list's versions
pub at-root : (d : Digest) (p : Tree) (M : List (List ℕ)) (v : ℕ) → Prunes d p M → 0 < v → v ≤ length M
    → straddled p (length M) v ≡ false → at d p (length M) v ≡ Some (root d M v)
unfolding at
at-root d p M v h some within free =
    let it = some-is (cut p (length M) v) (cut-some p (length M) v (prunes-fits d p M h) some within free) in
    let front = prunes-cut d p M v it.0 h it.1 in
    rw it.1 (ap (λ (x : List ℕ). Some x) (prunes-digest d it.0 (take v M) front ∙ sym (root-all d M v)))

pub at-none : (d : Digest) (p : Tree) (n v : ℕ) → fits p n ≡ true → 0 < v → v ≤ n → straddled p n v ≡ true
    → at d p n v ≡ None
unfolding at
at-none d p n v fitting some within inside =
    elim (cut-tells p n v fitting some within) [
      | inl none ↦ rw none.1 refl
      | inr there ↦ let other = there.0 in absurd cc
    ]

-- the root of the last version is the tree's
pub at-all : (d : Digest) (p : Tree) (n : ℕ) → fits p n ≡ true → at d p n n ≡ Some (digest_of d p)
unfolding at
at-all d p n fitting = rw (cut-all p n fitting) refl

-- ---- when a tree prunes a list

-- equal digests: it prunes the list, or two strings collide
pub agrees : (d : Digest) → ((m : List ℕ) → IsDigest (d m)) → (p : Tree) (M : List (List ℕ)) → HasDigests p
    → fits p (length M) ≡ true → digest_of d p ≡ root_of_all d M → Prunes d p M ⊎ HasCollision d
agrees d sized p M held fitting agree =
    let size = fits-is p (length M) fitting in
    elim (agrees_at d sized (depth (length M)) p M held size.some (depth-fits (length M)) size.parts (agree ∙ root_of_all-part d M)) [
      | inl parts ↦ inl (record { some = size.some; parts = parts })
      | inr collision ↦ inr collision
    ]

shows-from : (p : Tree) (v : ℕ) (M : List (List ℕ)) → fits p (length M) ≡ true → ShowsFrom p v M
    → Shows (depth (length M)) p v M
shows-from p v M fitting h = record {
  each = λ k le within. sym (shown-made p (length M) k fitting within) ∙ h k le within ∙ slice_get-get_or M k [] within;
}

-- it shows the whole list
pub full : (d : Digest) (p : Tree) (M : List (List ℕ)) → fits p (length M) ≡ true → ShowsFrom p 0 M → Prunes d p M
full d p M fitting shows =
    let size = fits-is p (length M) fitting in
    record {
      some =
          size.some;
      parts = full_at d (depth (length M)) p M size.some (depth-fits (length M)) size.parts (shows-from p 0 M fitting shows);
    }

-- what is cut of it prunes the front, and it shows the rest
pub glue : (d : Digest) (p : Tree) (M : List (List ℕ)) (v : ℕ) (c : Tree) → cut p (length M) v ≡ Some c
    → Prunes d c (take v M) → ShowsFrom p v M → Prunes d p M
glue d p M v c e h shows =
    let it = cut-is p (length M) v c e in
    let size = fits-is p (length M) it.fitting in
    let len = length-take-le v M it.within in
    let front : PrunesAt d (depth v) c (take v M) = rw len at h.parts in
    record {
      some =
          size.some;
      parts = glue_in d (depth (length M)) p M v c it.some it.within (depth-fits (length M)) size.parts it.here front (shows-from p v M it.fitting shows);
    }

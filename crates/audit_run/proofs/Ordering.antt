-- The order of records, as places.
use Rattle.std.proofs.Common.{◌≡◌, ◌∙◌, inl, inr, ℕ, zero, suc, ◌+◌, ◌-◌, ◌<◌, ◌≤◌, Bool, true, false, List, [], ◌∷◌, ◌++◌, length, map, take, get_or, fold, Option, Some, None, refl, sym, ap, subst, arith}
use Rattle.std.specs.Prelude.{IfSome, filter, is_some, option_and_then, reverse, slice_get}
use Rattle.std.specs.List.{flat_map}
use Rattle.std.specs.Option.{option_map}
use Rattle.std.proofs.lemmas.Bool.{both_ways, cases_Bool, cond-true, cond-false}
use Rattle.std.proofs.lemmas.List.{append-nil, append_assoc, length-map, map-append, reverse-append, take_all}
use Rattle.std.proofs.lemmas.List.Sums.{fold-append}
use Rattle.std.proofs.lemmas.Option.{get_or_from_slice_get, slice_get-get_or, slice_get-map, slice_get_within}
use Rattle.op_types.specs.declared.op.Leaf.{Leaf}
use Rattle.world_book.specs.declared.took.Took.{Took}
use Rattle.world_book.specs.declared.world.World.{World}
use Rattle.world_book.specs.Records.{records_of}
use Rattle.world_audit.specs.Comparisons.{all_compared, is_done, is_same_record, needed, order, record_compared, seen_by, some_in, visit}
use Rattle.world_audit.specs.Story.{story}
use Rattle.world_audit.proofs.Members.{any-some, place-reverse, reverse-place, some-any}
use Rattle.audit_run.specs.Answer.{has_story}
use Rattle.audit_run.specs.Line.{History}
use Rattle.audit_run.specs.Table.{AreDone, ArePicked, ArePlaces, Holds, IsIndex}
use Rattle.audit_run.proofs.Owned.{at-place, lower-or-level}
use Rattle.audit_run.proofs.Places.{take-next}
use Rattle.audit_run.proofs.Reaching.{there-at}
use Rattle.audit_run.proofs.Records.{item-at}

module _ (R : List Took) where
  -- what stands at a place
  pub picked-at : (xs : List ℕ) (rs : List Took) (k i : ℕ) → ArePicked R xs rs → slice_get xs k ≡ Some i
      → (s : Took) × (slice_get R i ≡ Some s) × (slice_get rs k ≡ Some s)
  picked-at xs rs k i picked at =
      let one = sym (slice_get-map (slice_get R) xs k ∙ ap (option_map (slice_get R)) at) in
      let two = ap (λ ys. slice_get ys k) picked ∙ slice_get-map (λ (r : Took). Some r) rs k in
      by (slice_get rs k) (slice_get R i) (one ∙ two) refl refl
    where
      by : (o : Option Took) (p : Option Took) → Some p ≡ option_map (λ (r : Took). Some r) o → slice_get rs k ≡ o
          → slice_get R i ≡ p → (s : Took) × (slice_get R i ≡ Some s) × (slice_get rs k ≡ Some s)
      by None p e here there = absurd cc
      by (Some s) p e here there = let same : p ≡ Some s = cc in (s, there ∙ same, here)

  pub place-of : (xs : List ℕ) (rs : List Took) (k : ℕ) (s : Took) → ArePicked R xs rs → slice_get rs k ≡ Some s
      → (i : ℕ) × (slice_get xs k ≡ Some i) × (slice_get R i ≡ Some s)
  place-of xs rs k s picked at =
      let two = sym (slice_get-map (λ (r : Took). Some r) rs k ∙ ap (option_map (λ (r : Took). Some r)) at) in
      let one = ap (λ ys. slice_get ys k) (sym picked) ∙ slice_get-map (slice_get R) xs k in
      by (slice_get xs k) (two ∙ one) refl
    where
      by : (o : Option ℕ) → Some (Some s) ≡ option_map (slice_get R) o → slice_get xs k ≡ o
          → (i : ℕ) × (slice_get xs k ≡ Some i) × (slice_get R i ≡ Some s)
      by None e here = absurd cc
      by (Some i) e here = let same : slice_get R i ≡ Some s = cc in (i, here, same)

  pub picked-append : (xs ys : List ℕ) (rs ss : List Took) → ArePicked R xs rs → ArePicked R ys ss
      → ArePicked R (xs ++ ys) (rs ++ ss)
  picked-append xs ys rs ss first second =
      map-append (slice_get R) xs ys ∙ ap (λ zs. zs ++ map (slice_get R) ys) first
      ∙ ap (λ zs. map (λ (r : Took). Some r) rs ++ zs) second ∙ sym (map-append (λ (r : Took). Some r) rs ss)

  pub picked-push : (xs : List ℕ) (rs : List Took) (i : ℕ) (r : Took) → ArePicked R xs rs → slice_get R i ≡ Some r
      → ArePicked R (xs ++ i ∷ []) (rs ++ r ∷ [])
  picked-push xs rs i r first at = picked-append xs (i ∷ []) rs (r ∷ []) first (ap (λ o. o ∷ []) at)

  pub picked-some : (place : Option ℕ) (o : Option Took) → IfSome place (λ i. i < length R)
      → option_and_then (slice_get R) place ≡ o → ArePicked R (some_in place) (some_in o)
  picked-some None o within is = subst (λ p. ArePicked R [] (some_in p)) is refl
  picked-some (Some i) o within is = by o is
    where
      there : (xs : List Took) (n : ℕ) → n < length xs → slice_get xs n ≡ None → ⊥
      there [] n less e = omega (arith, less)
      there (x ∷ xs) zero less e = cc
      there (x ∷ xs) (suc n) less e = there xs n (omega (arith, less)) e

      by : (p : Option Took) → slice_get R i ≡ p → ArePicked R (i ∷ []) (some_in p)
      by None e = absurd (there R i within e)
      by (Some r) e = ap (λ q. q ∷ []) e

  -- ---- what is done

  reverse-cons : (r : Took) (done : List Took) → reverse (r ∷ done) ≡ reverse done ++ r ∷ []
  reverse-cons r done = reverse-append (r ∷ []) done

  pub done-push : (xs : List ℕ) (done : List Took) (i : ℕ) (r : Took) → AreDone R xs done → slice_get R i ≡ Some r
      → AreDone R (xs ++ i ∷ []) (r ∷ done)
  done-push xs done i r before at =
      subst (ArePicked R (xs ++ i ∷ [])) (sym (reverse-cons r done)) (picked-push xs (reverse done) i r before at)

  unfoldable pub NoneSame : List ℕ → Took → ℕ → Type 0
  NoneSame xs r n = (k i : ℕ) (s : Took) → k < n → slice_get xs k ≡ Some i → slice_get R i ≡ Some s
      → is_same_record r s ≡ false

  pub none-same : (xs : List ℕ) (r : Took) → NoneSame xs r 0
  unfolding NoneSame
  none-same xs r k i s less at there = absurd (omega (arith, less))

  pub same-more : (xs : List ℕ) (r : Took) (n i : ℕ) (s : Took) → slice_get xs n ≡ Some i → slice_get R i ≡ Some s
      → is_same_record r s ≡ false → NoneSame xs r n → NoneSame xs r (n + 1)
  unfolding NoneSame
  same-more xs r n i s at there other before k j t less here it = elim (lower-or-level k n less) [
    | inl lower ↦ before k j t lower here it
    | inr level ↦
        let at' : slice_get xs n ≡ Some j = ap (slice_get xs) (sym level) ∙ here in
        let e : i ≡ j = cc in
        let it' : slice_get R i ≡ Some t = ap (slice_get R) e ∙ it in
        let f : s ≡ t = cc in ap (is_same_record r) (sym f) ∙ other
  ]

  pub done-found : (xs : List ℕ) (done : List Took) (r : Took) (k i : ℕ) (s : Took) → AreDone R xs done → slice_get xs k ≡ Some i
      → slice_get R i ≡ Some s → is_same_record r s ≡ true → true ≡ is_done done r
  done-found xs done r k i s picked at there same =
      let it = picked-at xs (reverse done) k i picked at in
      let e : it.0 ≡ s = (let one = it.1 in cc) in
      let place = reverse-place done k it.0 it.2 in
      sym (some-any (is_same_record r) done (length done - 1 - k) it.0 place.1 (ap (is_same_record r) e ∙ same))

  pub done-not-found : (xs : List ℕ) (done : List Took) (r : Took) (n : ℕ) → AreDone R xs done → length xs ≤ n → NoneSame xs r n
      → false ≡ is_done done r
  unfolding NoneSame
  done-not-found xs done r n picked past none = elim (cases_Bool (is_done done r)) [
    | inl is ↦
        let it = any-some (is_same_record r) done is in
        let place = place-reverse done it.1.place it.0 it.1.there in
        let one = place-of xs (reverse done) (length done - 1 - it.1.place) it.0 picked place in
        let within = slice_get_within xs (length done - 1 - it.1.place) one.0 one.1 in
        absurd (both_ways (is_same_record r it.0)
        (none (length done - 1 - it.1.place) one.0 it.0 (omega arith) one.1 one.2) it.2)
    | inr not ↦ sym not
  ]

-- ---- one visit

pub no-fuel : (fuel : ℕ) (w : World) (done : List Took) (r : Took) → fuel ≡ 0 → visit fuel w done r ≡ done
unfolding visit
no-fuel zero w done r e = refl
no-fuel (suc m) w done r e = absurd cc

pub visit-done : (fuel : ℕ) (w : World) (done : List Took) (r : Took) → is_done done r ≡ true → visit fuel w done r ≡ done
unfolding visit
visit-done zero w done r e = refl
visit-done (suc m) w done r e = cond-true (is_done done r) done (r ∷ fold (visit m w) done (needed w r)) e

visit-step : (m : ℕ) (w : World) (done : List Took) (r : Took) → is_done done r ≡ false
    → visit (suc m) w done r ≡ r ∷ fold (visit m w) done (needed w r)
unfolding visit
visit-step m w done r e = cond-false (is_done done r) done (r ∷ fold (visit m w) done (needed w r)) e

pub visit-more : (fuel : ℕ) (w : World) (done : List Took) (r : Took) → (fuel ≡ 0 → ⊥) → is_done done r ≡ false
    → visit fuel w done r ≡ r ∷ fold (visit (fuel - 1) w) done (needed w r)
visit-more fuel w done r some e = by fuel some
  where
    by : (n : ℕ) → (n ≡ 0 → ⊥) → visit n w done r ≡ r ∷ fold (visit (n - 1) w) done (needed w r)
    by zero some = absurd (some refl)
    by (suc m) some =
        let same : m ≡ suc m - 1 = omega arith in
        visit-step m w done r e ∙ ap (λ k. r ∷ fold (visit k w) done (needed w r)) same

fold-push : {A B : Type 0} (f : B → A → B) (b : B) (xs : List A) (x : A) → fold f b (xs ++ x ∷ []) ≡ f (fold f b xs) x
fold-push f b [] x = refl
fold-push f b (y ∷ ys) x = fold-push f (f b y) ys x

pub fold-next : {A B : Type 0} (f : B → A → B) (b : B) (xs : List A) (k : ℕ) (x : A) → slice_get xs k ≡ Some x
    → f (fold f b (take k xs)) x ≡ fold f b (take (k + 1) xs)
fold-next f b xs k x at = sym (fold-push f b (take k xs) x) ∙ ap (fold f b) (take-next xs k x at)

-- ---- what a record needs

filter-append : {A : Type 0} (p : A → Bool) (xs ys : List A) → filter p (xs ++ ys) ≡ filter p xs ++ filter p ys
filter-append p [] ys = refl
filter-append p (x ∷ xs) ys = elim (cases_Bool (p x)) [
  | inl is ↦
      cond-true (p x) (x ∷ filter p (xs ++ ys)) (filter p (xs ++ ys)) is ∙ ap (λ zs. x ∷ zs) (filter-append p xs ys)
      ∙ ap (λ zs. zs ++ filter p ys) (sym (cond-true (p x) (x ∷ filter p xs) (filter p xs) is))
  | inr not ↦
      cond-false (p x) (x ∷ filter p (xs ++ ys)) (filter p (xs ++ ys)) not ∙ filter-append p xs ys
      ∙ ap (λ zs. zs ++ filter p ys) (sym (cond-false (p x) (x ∷ filter p xs) (filter p xs) not))
]

pub filter-next : {A B : Type 0} (p : B → Bool) (f : A → List B) (xs : List A) (k : ℕ) (x : A) → slice_get xs k ≡ Some x
    → filter p (flat_map f (take k xs)) ++ filter p (f x) ≡ filter p (flat_map f (take (k + 1) xs))
filter-next p f xs k x at =
    sym (filter-append p (flat_map f (take k xs)) (f x))
    ∙ ap (filter p) (flat-push f (take k xs) x ∙ ap (flat_map f) (take-next xs k x at))
  where
    flat-push : {A B : Type 0} (f : A → List B) (xs : List A) (x : A) → flat_map f xs ++ f x ≡ flat_map f (xs ++ x ∷ [])
    flat-push f [] x = ap (λ ys. ys) (sym (append-nil (f x)))
    flat-push f (y ∷ ys) x = append_assoc (f y) (flat_map f ys) (f x) ∙ ap (λ zs. f y ++ zs) (flat-push f ys x)

-- the place says whether there is a history
pub story-there : (lines : List History) (wall : ℕ) (o : Option (List Leaf)) (place : Option ℕ) → Holds lines wall o place
    → is_some o ≡ is_some place
unfolding Holds
story-there lines wall None None it = refl
story-there lines wall None (Some i) it = absurd it
story-there lines wall (Some M) None it = absurd it
story-there lines wall (Some M) (Some i) it = refl

pub none-seen : (R : List Took) (p : Took → Bool) (place : Option ℕ) (o : Option Took) → place ≡ None
    → option_and_then (slice_get R) place ≡ o → ArePicked R (some_in None) (filter p (some_in o))
none-seen R p place o none is =
    subst (λ q. ArePicked R [] (filter p (some_in q))) (sym (ap (option_and_then (slice_get R)) none) ∙ is) refl

-- the place of a record that is found
pub found-within : (w : World) (R : List Took) (index : IsIndex w R) (lines : List History) (places : List (Option ℕ))
    (place : Option ℕ) (i : ℕ) → ArePlaces w lines places → place ≡ Some i → IfSome place (λ k. k < length R) → i < length places
found-within w R index lines places place i table is within =
    let less : i < length R = subst (λ (p : Option ℕ). IfSome p (λ k. k < length R)) is within in
    let all = ap length index.all in let count = table.count in omega arith

pub seen-at : (w : World) (R : List Took) (index : IsIndex w R) (lines : List History) (places : List (Option ℕ)) (i : ℕ) (r : Took)
    (b : Bool) → ArePlaces w lines places → slice_get R i ≡ Some r
    → ((x : Option ℕ) → slice_get places i ≡ Some x → b ≡ is_some x) → has_story w r ≡ b
seen-at w R index lines places i r b table at is =
    let there = ap (λ (rs : List Took). slice_get rs i) (sym index.all) ∙ at in
    let within = slice_get_within (records_of w) i r there in
    let count = table.count in
    let x = there-at places i (omega arith) in
    story-there lines r.wall (story w r) x.0 (table.each i r x.0 there x.1) ∙ sym (is x.0 x.1)

pub chosen : (w : World) (R : List Took) (index : IsIndex w R) (lines : List History) (places : List (Option ℕ)) (place : Option ℕ)
    (i : ℕ) (b : Bool) (o : Option Took) → ArePlaces w lines places → place ≡ Some i → IfSome place (λ k. k < length R)
    → option_and_then (slice_get R) place ≡ o → ((x : Option ℕ) → slice_get places i ≡ Some x → b ≡ is_some x)
    → ((b ≡ false) → ArePicked R [] (filter (has_story w) (some_in o)))
    × ((b ≡ true) → ArePicked R (i ∷ []) (filter (has_story w) (some_in o)))
chosen w R index lines places place i b o table is within found tells =
    let less : i < length R = subst (λ (p : Option ℕ). IfSome p (λ k. k < length R)) is within in
    let r = there-at R i less in
    let same : Some r.0 ≡ o = sym r.1 ∙ sym (ap (option_and_then (slice_get R)) is) ∙ found in
    let has = seen-at w R index lines places i r.0 b table r.1 tells in (
      λ no. subst (λ q. ArePicked R [] (filter (has_story w) (some_in q))) same
          (ap (map (λ (t : Took). Some t)) (sym (cond-false (has_story w r.0) (r.0 ∷ []) [] (has ∙ no)))),
      λ yes. subst (λ q. ArePicked R (i ∷ []) (filter (has_story w) (some_in q))) same
          (ap (λ q. q ∷ []) r.1 ∙ ap (map (λ (t : Took). Some t)) (sym (cond-true (has_story w r.0) (r.0 ∷ []) [] (has ∙ yes)))),
    )

-- what is picked is found
pub order-at : {B : Type 0} (f : B → Took) (items : List B) (xs : List ℕ) (rs : List Took) (k : ℕ) → ArePicked (map f items) xs rs → k < length xs
    → (d : ℕ) → get_or xs k d < length items
order-at f items xs rs k picked less d =
    let at = slice_get-get_or xs k d less in
    let it = picked-at (map f items) xs rs k (get_or xs k d) picked at in
    let within = slice_get_within (map f items) (get_or xs k d) it.0 it.1 in
    let many = length-map items f in omega arith

-- the record that is read there
pub read-at : {B : Type 0} (f : B → Took) (items : List B) (xs : List ℕ) (rs : List Took) (k d : ℕ) (b : B) → ArePicked (map f items) xs rs → k < length xs
    → b ≡ get_or items (get_or xs k d) b
    → (slice_get xs k ≡ Some (get_or xs k d)) × (slice_get (map f items) (get_or xs k d) ≡ Some (f b))
read-at f items xs rs k d b picked less is = (
  slice_get-get_or xs k d less,
  item-at f items items refl (get_or xs k d) b (order-at f items xs rs k picked less d) is,
)

pub seen-more : (w : World) (R : List Took) (wall : ℕ) (leaves : List Leaf) (k : ℕ) (l : Leaf) (old out new : List ℕ) (rs : List Took) (place : Option ℕ)
    → k < length leaves → l ≡ get_or leaves k l → new ≡ out ++ some_in place
    → ArePicked R out (rs ++ filter (has_story w) (flat_map (λ (x : Leaf). some_in (seen_by w wall x)) (take k leaves)))
    → ArePicked R (some_in place) (filter (has_story w) (some_in (seen_by w wall l)))
    → ArePicked R new (rs ++ filter (has_story w) (flat_map (λ (x : Leaf). some_in (seen_by w wall x)) (take (k + 1) leaves)))
seen-more w R wall leaves k l old out new rs place less is more before here =
    let f : Leaf → List Took = λ (x : Leaf). some_in (seen_by w wall x) in
    let p = has_story w in
    let both = picked-append R out (some_in place) (rs ++ filter p (flat_map f (take k leaves))) (filter p (f l)) before here in
    subst (λ ns. ArePicked R ns (rs ++ filter p (flat_map f (take (k + 1) leaves)))) (sym more)
    (subst (ArePicked R (out ++ some_in place))
    (append_assoc rs (filter p (flat_map f (take k leaves))) (filter p (f l))
    ∙ ap (λ zs. rs ++ zs) (filter-next p f leaves k l (at-place leaves k l less is))) both)

pub same-record : {B : Type 0} (f : B → Took) (items : List B) (i : ℕ) (b : B) (r : Took) → i < length items → b ≡ get_or items i b
    → slice_get (map f items) i ≡ Some r → f b ≡ r
same-record f items i b r less is at =
    let it = item-at f items items refl i b less is in let same : f b ≡ r = cc in same

pub visit-next : (w : World) (R : List Took) (m k j : ℕ) (order new : List ℕ) (done N : List Took) (s : Took) → slice_get N k ≡ Some s
    → slice_get R j ≡ Some s → AreDone R order (fold (visit m w) done (take k N))
    → ((t : Took) (before : List Took) → slice_get R j ≡ Some t → AreDone R order before → AreDone R new (visit m w before t))
    → AreDone R new (fold (visit m w) done (take (k + 1) N))
visit-next w R m k j order new done N s at there before next =
    subst (AreDone R new) (fold-next (visit m w) done N k s at) (next s (fold (visit m w) done (take k N)) there before)

pub visit-last : (w : World) (R : List Took) (fuel i n : ℕ) (order new needs : List ℕ) (done : List Took) (r : Took) → slice_get R i ≡ Some r
    → (fuel ≡ 0 → ⊥) → is_done done r ≡ false → ArePicked R needs (needed w r) → length needs ≤ n
    → AreDone R order (fold (visit (fuel - 1) w) done (take n (needed w r))) → new ≡ order ++ i ∷ []
    → AreDone R new (visit fuel w done r)
visit-last w R fuel i n order new needs done r at some not picked past before more =
    let count = sym (length-map needs (slice_get R)) ∙ ap length picked ∙ length-map (needed w r) (λ (t : Took). Some t) in
    let all = ap (fold (visit (fuel - 1) w) done) (take_all n (needed w r) (omega (arith, count, past))) in
    subst (λ xs. AreDone R xs (visit fuel w done r)) (sym more)
    (subst (AreDone R (order ++ i ∷ [])) (sym (visit-more fuel w done r some not))
    (done-push R order (fold (visit (fuel - 1) w) done (needed w r)) i r (subst (AreDone R order) all before) at))

-- what was true of no record stays so of the order
pub place-at : (R : List Took) (xs : List ℕ) (rs : List Took) (k d : ℕ) → ArePicked R xs rs → k < length xs
    → (s : Took) × (slice_get R (get_or xs k d) ≡ Some s) × (slice_get rs k ≡ Some s)
place-at R xs rs k d picked less = picked-at R xs rs k (get_or xs k d) picked (slice_get-get_or xs k d less)

-- ---- all records

abbrev pub visits : World → List Took → Took → List Took
visits w done r = visit r.size w done r

pub passed-by : (w : World) (R : List Took) (places : List ℕ) (done : List Took) (r : Took) → has_story w r ≡ false → AreDone R places done
    → AreDone R places (fold (visits w) done (filter (has_story w) (r ∷ [])))
passed-by w R places done r none before =
    subst (λ xs. AreDone R places (fold (visits w) done xs)) (sym (cond-false (has_story w r) (r ∷ []) [] none)) before

pub visited : (w : World) (R : List Took) (places : List ℕ) (done : List Took) (r : Took) → has_story w r ≡ true
    → AreDone R places (visit r.size w done r) → AreDone R places (fold (visits w) done (filter (has_story w) (r ∷ [])))
visited w R places done r there after =
    subst (λ xs. AreDone R places (fold (visits w) done xs)) (sym (cond-true (has_story w r) (r ∷ []) [] there)) after

pub all-next : (w : World) (R : List Took) (k : ℕ) (r : Took) → slice_get R k ≡ Some r
    → fold (visits w) (fold (visits w) [] (filter (has_story w) (take k R))) (filter (has_story w) (r ∷ []))
    ≡ fold (visits w) [] (filter (has_story w) (take (k + 1) R))
all-next w R k r at =
    sym (fold-append (visits w) [] (filter (has_story w) (take k R)) (filter (has_story w) (r ∷ [])))
    ∙ ap (fold (visits w) []) (sym (filter-append (has_story w) (take k R) (r ∷ [])) ∙ ap (filter (has_story w)) (take-next R k r at))

pub order-is : (w : World) (R : List Took) (n : ℕ) → R ≡ records_of w → length R ≤ n
    → reverse (fold (visits w) [] (filter (has_story w) (take n R))) ≡ order w
unfolding order
order-is w R n all past =
    ap (λ xs. reverse (fold (visits w) [] (filter (has_story w) xs))) (take_all n R past ∙ all)

-- ---- the comparisons in this order

pub all-is : (w : World) → all_compared w ≡ flat_map (record_compared w) (order w)
unfolding all_compared
all-is w = refl

pub order-record : (R : List Took) (xs : List ℕ) (rs : List Took) (k d : ℕ) (r : Took) → ArePicked R xs rs → k < length xs
    → slice_get R (get_or xs k d) ≡ Some r → (k < length rs) × (r ≡ get_or rs k r)
order-record R xs rs k d r picked less at =
    let it = place-at R xs rs k d picked less in
    let one = it.1 in
    let same : it.0 ≡ r = cc in
    let here : slice_get rs k ≡ Some r = it.2 ∙ ap (λ (t : Took). Some t) same in
    (slice_get_within rs k r here, sym (get_or_from_slice_get rs k r r here))

pub order-long : (R : List Took) (xs : List ℕ) (rs : List Took) (n : ℕ) → ArePicked R xs rs → length xs ≤ n → length rs ≤ n
order-long R xs rs n picked past =
    let count = sym (length-map xs (slice_get R)) ∙ ap length picked ∙ length-map rs (λ (t : Took). Some t) in omega arith

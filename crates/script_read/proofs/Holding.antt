-- What holds of a step's value, where the step gives one.
use Rattle.std.proofs.Common.{◌≡◌, ℕ, ◌+◌, leb, ltb, cond, Bool, true, false, List, [], ◌∷◌, ◌++◌, length, length-append, Option, Some, None, Ok, Err, refl, subst, arith}
use Rattle.std.specs.Prelude.{⊤, IfSome, ◌&&◌, option_and_then}
use Rattle.std.specs.List.{AllByRecursion}
use Rattle.std.specs.Cmp.{first_so, second_so}
use Rattle.std.proofs.lemmas.Bool.{leb-true, ltb-false}
use Rattle.serde_json.specs.Data.{Data, Items, no_items, item}
use Rattle.serde_json.specs.Events.{items_len}
use Rattle.serde_json.specs.Find.{get, as_array}
use Rattle.fr_bytes.specs.Parts.{IsWithin}
use Rattle.script_read.specs.declared.refusal.ScriptRefusal.{ScriptRefusal}
use Rattle.script_read.specs.declared.refusal.ScriptRefusal.TheVariants.{Field, Limit}
use Rattle.script_read.specs.Refusal.{Checked, ◌>>=◌, found, refused}
use Rattle.script_read.specs.Fields.{Kind, inside, as_natural, natural_within, key, limited, sized_list, list_within}
use Rattle.script_read.specs.Elements.{each, every}

pub record Holds {A : Type 0} (P : A → Type 0) (step : Checked A) : Type 0 where
  pub at : (x : A) → step ≡ Ok x → P x

-- ---- a value, and a refusal

pub gives : {A : Type 0} (P : A → Type 0) (y : A) → P y → Holds P (Ok y)
gives P y h = record { at = λ x e. let same : y ≡ x = cc in subst P same h }

pub refuses : {A : Type 0} (P : A → Type 0) (e : ScriptRefusal) → Holds P (Err e)
refuses P e = record { at = λ x h. absurd (cc) }

pub weaker : {A : Type 0} {P Q : A → Type 0} (step : Checked A) → Holds P step → ((x : A) → P x → Q x)
    → Holds Q step
weaker step h q = record { at = λ x e. q x (h.at x e) }

pub both : {A : Type 0} {P Q : A → Type 0} (step : Checked A) → Holds P step → Holds Q step
    → Holds (λ x. P x × Q x) step
both step h k = record { at = λ x e. (h.at x e, k.at x e) }

-- ---- steps one after the other

pub after : {A B : Type 0} {P : A → Type 0} {Q : B → Type 0} {next : A → Checked B} (step : Checked A)
    → Holds P step → ((x : A) → P x → Holds Q (next x)) → Holds Q (step >>= next)
after {Q = Q} (Ok x) h q = q x (h.at x refl)
after {Q = Q} (Err e) h q = refuses Q e

pub skip : {A B : Type 0} {Q : B → Type 0} {next : A → Checked B} (step : Checked A)
    → ((x : A) → Holds Q (next x)) → Holds Q (step >>= next)
skip (Ok x) q = q x
skip {Q = Q} (Err e) q = refuses Q e

-- ---- values of a kind

pub found_holds : {A : Type 0} (P : A → Type 0) (name : List ℕ) (o : Option A) → IfSome o P
    → Holds P (found name o)
found_holds P name None h = refuses P (Field name)
found_holds P name (Some x) h = gives P x h

pub refused_holds : (e : ScriptRefusal) (b : Bool) → Holds (λ (u : ⊤). b ≡ false) (refused e b)
refused_holds e true = refuses _ e
refused_holds e false = gives _ tt refl

pub passing : {B : Type 0} {Q : B → Type 0} {next : ⊤ → Checked B} (e : ScriptRefusal) (b : Bool)
    → ((u : ⊤) → b ≡ false → Holds Q (next u)) → Holds Q (refused e b >>= next)
passing e b q = after (refused e b) (refused_holds e b) q

inside_by : (low high n : ℕ) (b : Bool) → (leb low n && leb n high) ≡ b
    → IfSome (cond b (Some n) None) (IsWithin low high)
inside_by low high n true e = (leb-true low n (first_so _ _ e), leb-true n high (second_so _ _ e))
inside_by low high n false e = tt

inside_of : (low high : ℕ) (o : Option ℕ) → IfSome (option_and_then (inside low high) o) (IsWithin low high)
inside_of low high None = tt
inside_of low high (Some n) = inside_by low high n (leb low n && leb n high) refl

pub within : (low high : ℕ) (d : Data) → IfSome (natural_within low high d) (IsWithin low high)
within low high d = inside_of low high (as_natural d)

chosen : {A : Type 0} (P : A → Type 0) (kind : Kind A) → ((d : Data) → IfSome (kind d) P) → (o : Option Data)
    → IfSome (option_and_then kind o) P
chosen P kind h None = tt
chosen P kind h (Some d) = h d

pub key_holds : {A : Type 0} (P : A → Type 0) (name : List ℕ) (kind : Kind A) (o : Data)
    → ((d : Data) → IfSome (kind d) P) → Holds P (key name kind o)
unfolding key
key_holds P name kind o h = found_holds P name (option_and_then kind (get name o)) (chosen P kind h (get name o))

-- a number of a range, at a key
number_at : (name : List ℕ) (low high : ℕ) (o : Data)
    → Holds (IsWithin low high) (key name (natural_within low high) o)
number_at name low high o = key_holds (IsWithin low high) name (natural_within low high) o (within low high)

pub ranged : {B : Type 0} {Q : B → Type 0} {next : ℕ → Checked B} (name : List ℕ) (low high : ℕ) (o : Data)
    → ((n : ℕ) → IsWithin low high n → Holds Q (next n)) → Holds Q (key name (natural_within low high) o >>= next)
ranged name low high o q = after (key name (natural_within low high) o) (number_at name low high o) q

pub limited_at : (name : List ℕ) (low high : ℕ) (o : Data) → Holds (IsWithin low high) (limited name low high o)
unfolding limited
limited_at name low high o =
    skip (key name as_natural o) (λ n.
    passing (Field name) (ltb n low) (λ u least.
    passing (Limit name) (ltb high n) (λ v most.
    gives (IsWithin low high) n (ltb-false n low least, ltb-false high n most))))

-- ---- lists

abbrev pub HasLength : ℕ → ℕ → Items → Type 0
HasLength low high ds = IsWithin low high (items_len ds)

pub sized_holds : (name : List ℕ) (low high : ℕ) (ds : Items)
    → Holds (HasLength low high) (sized_list name low high ds)
unfolding sized_list
sized_holds name low high ds =
    let n = items_len ds in
    passing (Field name) (ltb n low) (λ u least.
    passing (Limit name) (ltb high n) (λ v most.
    gives (HasLength low high) ds (ltb-false n low least, ltb-false high n most)))

pub list_holds : (name : List ℕ) (low high : ℕ) (o : Data)
    → Holds (HasLength low high) (list_within name low high o)
unfolding list_within
list_holds name low high o = skip (key name as_array o) (λ ds. sized_holds name low high ds)

-- what the elements so far keep to, all do
pub each_holds : {A : Type 0} (one : List A → Data → Checked A) (Keeps : List A → Type 0)
    → ((before : List A) (d : Data) → Keeps before → Holds (λ x. Keeps (before ++ x ∷ [])) (one before d))
    → (ds : Items) (done : List A) → Keeps done → Holds Keeps (each one done ds)
each_holds one Keeps h no_items done k = gives Keeps done k
each_holds one Keeps h (item d ds) done k =
    after (one done d) (h done d k) (λ x kept. each_holds one Keeps h ds (done ++ x ∷ []) kept)

-- as many are read as there are
pub each_length : {A : Type 0} (one : List A → Data → Checked A) (ds : Items) (done : List A)
    → Holds (λ xs. length xs ≡ length done + items_len ds) (each one done ds)
each_length one no_items done = gives _ done (omega arith)
each_length {A} one (item d ds) done =
    skip (one done d) (λ x. weaker (each one (done ++ x ∷ []) ds) (each_length one ds (done ++ x ∷ []))
    (λ xs e. omega (arith, e, length-append done (x ∷ []))))

-- each element passes
pub every_holds : {A : Type 0} (one : A → Checked ⊤) (P : A → Type 0) → ((x : A) → Holds (λ u. P x) (one x))
    → (xs : List A) → Holds (λ (u : ⊤). AllByRecursion P xs) (every one xs)
every_holds one P h [] = gives _ tt tt
every_holds one P h (x ∷ xs) =
    after (one x) (h x) (λ u here. weaker (every one xs) (every_holds one P h xs) (λ v more. (here, more)))

-- Steps of a reading that stops at the first refusal.
use Rattle.std.specs.Prelude.{◌≡◌, List, ℕ, Bool, true, false, ⊤, Option, Some, None, Result, Ok, Err}
use Rattle.script_read.specs.declared.refusal.ScriptRefusal.{ScriptRefusal}
use Rattle.script_read.specs.declared.refusal.ScriptRefusal.TheVariants as refusals

-- a value, or the first refusal
abbrev pub Checked : Type 0 → Type 0
Checked A = Result A ScriptRefusal

infixl 10 ◌>>=◌
-- the next step, where the one before gave a value
abbrev pub ◌>>=◌ : {A B : Type 0} → Checked A → (A → Checked B) → Checked B
Ok x >>= next = next x
Err e >>= next = Err e

-- the value that is there, and else a refusal that names the field
abbrev pub found : {A : Type 0} → List ℕ → Option A → Checked A
found name None = Err (refusals.Field name)
found name (Some x) = Ok x

-- the refusal, where the test is passed
abbrev pub refused : ScriptRefusal → Bool → Checked ⊤
refused e true = Err e
refused e false = Ok tt

-- A call's result is what its step gives, seen by view, unless an allocation was refused.
abbrev pub Gives : {X Y : Type 0} → (X → Y) → Checked X → Checked Y → Type 0
Gives view (Ok x) step = step ≡ Ok (view x)
Gives view (Err refusals.NotJson) step = step ≡ Err refusals.NotJson
Gives view (Err (refusals.Field name)) step = step ≡ Err (refusals.Field name)
Gives view (Err (refusals.Limit name)) step = step ≡ Err (refusals.Limit name)
Gives view (Err (refusals.Unknown what number)) step = step ≡ Err (refusals.Unknown what number)
Gives view (Err (refusals.TooManyWrites user)) step = step ≡ Err (refusals.TooManyWrites user)
Gives view (Err refusals.NoMemory) step = Unit {0}

-- the refusal that is told is this one, unless an allocation was refused
abbrev pub Tells : ScriptRefusal → ScriptRefusal → Type 0
Tells e told = Gives {X = ⊤} (λ x. x) (Err e) (Err told)

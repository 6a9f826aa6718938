-- Steps that refuse: what was refused stays refused.
use Rattle.std.proofs.Common.{◌≡◌, Err, refl}
use Rattle.script_read.specs.declared.refusal.ScriptRefusal.{ScriptRefusal}
use Rattle.script_read.specs.declared.refusal.ScriptRefusal.TheVariants as refusals
use Rattle.script_read.specs.Refusal.{Checked, ◌>>=◌, Gives, Tells}

-- a step that is refused, and the steps behind it
pub passed : {X Y A B : Type 0} (view : X → Y) (view' : A → B) (e : ScriptRefusal) (step : Checked Y)
    (next : Y → Checked B) → Gives view (Err e) step → Gives view' (Err e) (step >>= next)
passed view view' refusals.NotJson step next h = rw h refl
passed view view' (refusals.Field name) step next h = rw h refl
passed view view' (refusals.Limit name) step next h = rw h refl
passed view view' (refusals.Unknown what number) step next h = rw h refl
passed view view' (refusals.TooManyWrites user) step next h = rw h refl
passed view view' refusals.NoMemory step next h = tt

-- a refusal that is told as it should be
pub told : {X Y : Type 0} (view : X → Y) (e should : ScriptRefusal) (step : Checked Y) → Tells e should
    → step ≡ Err should → Gives view (Err e) step
told view refusals.NotJson should step t h = cc
told view (refusals.Field name) should step t h = cc
told view (refusals.Limit name) should step t h = cc
told view (refusals.Unknown what number) should step t h = cc
told view (refusals.TooManyWrites user) should step t h = cc
told view refusals.NoMemory should step t h = tt

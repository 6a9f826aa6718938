-- The causes of a refusal: which have a detail.
use Rattle.std.specs.Prelude.{ℕ, ◌-◌, ◌^◌, ◌||◌, ◌==◌, if◌then◌else◌}
use Rattle.msg_form.specs.declared.causes.TheConstants.{STALE_EPOCH, REPLAYED}

-- the greatest detail that a cause may have
abbrev pub greatest_detail : ℕ → ℕ
greatest_detail cause = if (cause == STALE_EPOCH) || (cause == REPLAYED) then 2 ^ 64 - 1 else 0

-- The law of a position: the first refusal, or none.
use Rattle.std.specs.Prelude.{ℕ, Bool, true, false, not, ◌&&◌, ◌||◌, Option, Some, None, Result, Ok, Err, nat_lt, nat_eq, if◌then◌else◌, option_and_then}
use Rattle.op_types.specs.declared.kind.Kind.{Kind}
use Rattle.op_types.specs.declared.kind.Kind.TheVariants.{Post, Admit, Remove}
use Rattle.op_types.specs.declared.op.Op.{Op}
use Rattle.op_types.specs.declared.roles.TheConstants.{OWNER}
use Rattle.op_types.specs.Roles.{may_write}
use Rattle.op_types.specs.Kinds.{is_change, changed_user}
use Rattle.tree_model.specs.declared.entry.Entry.{Entry}
use Rattle.tree_model.specs.AccessList.{entry_of}
use Rattle.wall_law.specs.declared.refusal.LawRefusal.{LawRefusal}
use Rattle.wall_law.specs.declared.refusal.LawRefusal.TheVariants.{WrongWall, NotAllowed, StaleEpoch, Replayed, BadChange, LateView}
use Rattle.wall_law.specs.declared.state.State.{State}

-- ---- what the entries that were found allow

-- in the list as a writer or as the owner
abbrev pub may_add : Option Entry → Bool
may_add None = false
may_add (Some e) = may_write e.role

-- in the list as the owner
abbrev pub is_owner : Option Entry → Bool
is_owner None = false
is_owner (Some e) = nat_eq e.role OWNER

-- the least number of the author's next operation
abbrev pub next_of : Option Entry → ℕ
next_of None = 0
next_of (Some e) = e.next

-- The changed user isn't there to be admitted, or is there and isn't the owner to be removed.
abbrev pub fits_change : Kind → Option Entry → Bool
fits_change (Post body) changed = true
fits_change (Admit user role slot wraps) None = true
fits_change (Admit user role slot wraps) (Some e) = false
fits_change (Remove user slot wraps) None = false
fits_change (Remove user slot wraps) (Some e) = not (nat_eq e.role OWNER)

abbrev pub is_bad_change : Option Entry → Option Entry → Kind → Bool
is_bad_change author changed kind = is_change kind && (not (is_owner author) || not (fits_change kind changed))

-- ---- the law

-- Over the author's and the changed user's entries, as look-ups found them: the first refusal.
unfoldable pub law_of : Option Entry → Option Entry → ℕ → ℕ → ℕ → Op → Option LawRefusal
law_of author changed epoch wall k op =
    if not (nat_eq op.wall wall) then Some WrongWall else (
    if not (may_add author) then Some NotAllowed else (
    if not (nat_eq op.epoch epoch) then Some (StaleEpoch epoch) else (
    if nat_lt op.seq (next_of author) then Some (Replayed (next_of author)) else (
    if is_bad_change author changed op.kind then Some BadChange else (
    if nat_lt k op.view.size then Some LateView else None)))))

-- The law in a state is that law over the state's own look-ups.
unfoldable pub law : State → ℕ → ℕ → Op → Option LawRefusal
law s wall k op = law_of (entry_of s.entries op.author) (option_and_then (λ user. entry_of s.entries user) (changed_user op.kind)) s.epoch wall k op

-- what a judgement answers, as a refusal or none
abbrev pub refusal_of : Result (Unit {0}) LawRefusal → Option LawRefusal
refusal_of (Ok done) = None
refusal_of (Err refusal) = Some refusal

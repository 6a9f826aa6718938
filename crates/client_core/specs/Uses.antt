-- Which streams of which keys the operations of clients use.
use Rattle.std.specs.Prelude.{◌≡◌, ℕ, ◌+◌, ◌≤◌, true, List}
use Rattle.op_types.specs.declared.kind.Kind.{Kind}
use Rattle.op_types.specs.declared.kind.Kind.TheVariants.{Post, Admit, Remove}
use Rattle.op_types.specs.declared.kind.Wrap.{Wrap}
use Rattle.op_types.specs.declared.limits.TheConstants.{SEQ_MAX}
use Rattle.op_types.specs.declared.op.Op.{Op}
use Rattle.op_types.specs.Kinds.{is_change}
use Rattle.key_graph.specs.declared.change.Setting.{Setting}
use Rattle.key_graph.specs.KeyTree.{Plan}
use Rattle.key_graph.specs.Reach.{inner}
use Rattle.key_graph.specs.Streams.{AreFit, IsPlan, Use, WrapUses}
use Rattle.client_core.specs.Asking.{post_stream}
use Rattle.client_core.specs.Keys.{KeysView, member, owner}

-- ---- operations

-- a change of this number has the slot and the wraps of a plan for the generation behind it
abbrev pub HasPlan : Setting → ℕ → Kind → Type 0
HasPlan setting seq (Post body) = Unit {0}
HasPlan setting seq (Admit user role slot wraps) = (p : Plan) × IsPlan setting (seq + 1) slot wraps p
HasPlan setting seq (Remove user slot wraps) = (p : Plan) × IsPlan setting (seq + 1) slot wraps p

-- What an author does with an operation of this number is made by the rules: its generation fits 32 bits, and only the
-- owner makes changes, which its key tree plans.
pub record IsMade (setting : Setting) (of author seq : ℕ) (kind : Kind) : Type 0 where
  pub number : seq ≤ SEQ_MAX
  pub author_is : is_change kind ≡ true → author ≡ of
  pub plan : HasPlan setting seq kind

abbrev pub PlanUses : Setting → ℕ → ℕ → List Wrap → Use → Type 0
PlanUses setting seq slot wraps u = (p : Plan) × IsPlan setting (seq + 1) slot wraps p × (i : ℕ)
    × WrapUses setting p i u

-- A post uses the stream of its author and number of a root's key, and a change those that its plan's wraps use.
abbrev pub KindUses : Setting → ℕ → ℕ → Kind → Use → Type 0
KindUses setting author seq (Post body) u = (g : ℕ) × (u.key ≡ inner 1 g) × (u.stream ≡ post_stream author seq)
KindUses setting author seq (Admit user role slot wraps) u = PlanUses setting seq slot wraps u
KindUses setting author seq (Remove user slot wraps) u = PlanUses setting seq slot wraps u

abbrev pub OpUses : Setting → Op → Use → Type 0
OpUses setting op u = KindUses setting op.author op.seq op.kind u

-- ---- keys

-- the owner's tree was made so
abbrev pub IsSetting : KeysView → Setting → Type 0
IsSetting (owner tree secrets) setting = tree.setting ≡ setting
IsSetting (member book) setting = Unit {0}

-- each change that the owner's tree followed fitted
abbrev pub IsFitting : KeysView → Type 0
IsFitting (owner tree secrets) = AreFit tree.setting.depth tree.followed
IsFitting (member book) = Unit {0}

-- only the owner has the owner's keys
abbrev pub IsOwners : ℕ → ℕ → KeysView → Type 0
IsOwners user of (owner tree secrets) = user ≡ of
IsOwners user of (member book) = Unit {0}

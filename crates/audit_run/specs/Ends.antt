-- What the answers of an audit say.
use Rattle.std.specs.Prelude.{◌≡◌, ℕ, None, Some}
use Rattle.fr_digest.specs.Collision.{Collides, Strings}
use Rattle.fr_digest.specs.Digest.{Digest}
use Rattle.op_types.specs.declared.op.Leaf.{Leaf}
use Rattle.op_types.specs.declared.op.Op.{Op}
use Rattle.signed_ops.specs.Signed.{IsAuthorSigned}
use Rattle.world_book.specs.declared.world.World.{World}
use Rattle.world_book.specs.Records.{keys_of}
use Rattle.world_audit.specs.Comparisons.{all_compared, first_difference}
use Rattle.world_audit.specs.Sound.{NothingUnsigned}
use Rattle.world_audit.specs.Sound as histories
use Rattle.audit_run.specs.Answer.{count_grounded, count_records}
use Rattle.audit_run.specs.Unsigned.{IsFirstUnsigned, shown_leaves}
use Rattle.audit_run.specs.declared.answer.Sound.{Sound}

-- Nothing is unsigned, no comparison differs, both counts are exact, and then every history with a ground is sound.
pub record FindsNothing (d : Digest) (w : World) (found : Sound) : Type 0 where
  pub records : found.records ≡ count_records w
  pub grounded : found.grounded ≡ count_grounded w
  pub unsigned : NothingUnsigned w
  pub compared : first_difference d (all_compared w) ≡ None
  pub sound : histories.Sound d w

-- Nothing is unsigned, and these are the strings of the first comparison that differs, two of one digest.
pub record FindsClash (d : Digest) (w : World) (strings : Strings) : Type 0 where
  pub unsigned : NothingUnsigned w
  pub first : first_difference d (all_compared w) ≡ Some strings
  pub collides : Collides d strings

-- It is the first operation that is shown in the name of an honest user who never signed it; and its signature is valid
-- under the key of that user.
pub record FindsForged (w : World) (user wall : ℕ) (op : Op) : Type 0 where
  pub leaf : Leaf
  pub first : IsFirstUnsigned w (shown_leaves w) leaf
  pub user_is : user ≡ leaf.op.author
  pub wall_is : wall ≡ leaf.op.wall
  pub op_is : op ≡ leaf.op
  pub signed : IsAuthorSigned (keys_of w.users) op

-- When a client takes a reply, and when it takes it as a refusal.
use Rattle.std.specs.Prelude.{◌≡◌, ℕ, Bool, List, Some, true}
use Rattle.fr_bytes.specs.Bytes.{Text}
use Rattle.fr_digest.specs.Digest.{Digest}
use Rattle.op_types.specs.declared.op.Leaf.{Leaf}
use Rattle.op_types.specs.declared.view.View.{View}
use Rattle.hist_proof.specs.Pruned.{Tree}
use Rattle.pruned_list.specs.PrunedList.{PrunedList}
use Rattle.signed_ops.specs.Signed.{is_view_signed}
use Rattle.check_rules.specs.declared.asked.Asked.{Asked}
use Rattle.check_rules.specs.declared.known.Known.{Known}
use Rattle.check_rules.specs.Accepted.{Accepted}
use Rattle.check_rules.specs.Heard.{heard_of, news}
use Rattle.check_rules.specs.Shown.{leaves_from}
use Rattle.check_rules.specs.Verdict.{is_answered, is_append}

-- The bytes say this view, with what is shown of it; the view is one of the wall and signed by its server; and what is
-- shown is accepted.
pub record Says (d : Digest) (known : Known) (appends : Bool) (bytes : Text) (view : View) (from : ℕ) (tree : Tree)
    (leaves : List Leaf) (lists : List PrunedList) : Type 0 where
  pub heard : heard_of appends bytes ≡ Some (news view from tree lists)
  pub wall : view.wall ≡ known.wall
  pub signed : is_view_signed known.server view ≡ true
  pub accepted : Accepted d known view from tree lists
  pub leaves_are : leaves ≡ leaves_from tree view.size from

-- And what was sent, if it was an operation, stands among the leaves.
pub record Takes (d : Digest) (known : Known) (asked : Asked) (bytes : Text) (view : View) (from : ℕ) (tree : Tree)
    (leaves : List Leaf) (lists : List PrunedList) : Type 0 where
  pub says : Says d known (is_append asked) bytes view from tree leaves lists
  pub answered : is_answered asked leaves ≡ true

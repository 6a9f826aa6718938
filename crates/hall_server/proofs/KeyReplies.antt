-- Replies with the changes of the access list, of a snapshot of an honest wall.
use Rattle.std.proofs.Common.{◌≡◌, ◌⊎◌, ◌∙◌, inl, inr, ℕ, ◌<◌, ◌≤◌, List, length, sym, ap, subst, arith}
use Rattle.fr_bytes.specs.Bytes.{Text}
use Rattle.fr_digest.specs.Digest.{Digest}
use Rattle.op_types.specs.declared.op.Leaf.{Leaf}
use Rattle.msg_form.specs.declared.causes.TheConstants.{BAD_REQUEST}
use Rattle.honest_replies.specs.HonestReply.{KeysReply}
use Rattle.hall_core.specs.declared.facts.WallFacts.{WallFacts}
use Rattle.hall_core.specs.declared.snapshot.Snapshot.{Snapshot}
use Rattle.hall_core.specs.Snapshots.{Stands}
use Rattle.hall_replies.proofs.Kept.{leaves-are, length-leaves}
use Rattle.hall_server.specs.HonestReplies.{Refuses, ShowsKeys}

module _ {D : Type 0} (d : Digest) (facts : WallFacts) (L : List Leaf) (snapshot : Snapshot D)
    (stands : Stands d facts L snapshot) (size : ℕ) (bytes : Text) where
  count : length snapshot.history ≡ length L
  count = sym (length-leaves snapshot) ∙ ap length (leaves-are d facts L snapshot stands)

  pub keys_refused : (size ≡ 0) ⊎ (length snapshot.history < size) → Refuses snapshot.view.wall BAD_REQUEST 0 bytes
      → ShowsKeys d facts.wall L size bytes
  keys_refused why refuses = record {
    shown = λ some within. absurd (elim why [
      | inl none ↦ omega arith
      | inr past ↦ (let same = count in omega arith)
    ]);
    refused = λ _. subst (λ wall. Refuses wall BAD_REQUEST 0 bytes) stands.viewed.wall refuses;
  }

  pub keys_shown : 0 < size → size ≤ length snapshot.history → KeysReply d facts.wall L size bytes
      → ShowsKeys d facts.wall L size bytes
  keys_shown some within keys = record {
    shown = λ _ _. keys;
    refused = λ why. absurd (elim why [
      | inl none ↦ omega arith
      | inr past ↦ (let same = count in omega arith)
    ]);
  }

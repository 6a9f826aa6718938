-- A client may go to another thread.
use denote.RattleType.{RattleType}
use denote.Param.Send.{IsSend, view_send, recorded_send, struct_send, sendable}
use denote.Struct.Declared.{shape}
use Rattle.std.proofs.Crossing as std
use Rattle.fr_digest.specs.declared.digests.Digester as digester
use Rattle.fr_bytes.proofs.sequence.Sequence.TheSendSync as Sequence
use Rattle.lms_tree.proofs.key.PublicKey.TheSendSync as PublicKey
use Rattle.lms_tree.proofs.signer.Signer.TheSendSync as Signer
use Rattle.op_types.proofs.op.Leaf.TheSendSync as Leaf
use Rattle.hist_proof.proofs.pruned.Pruned.TheLaws.TheKnot as trees
use Rattle.dict_proof.proofs.pruned_dict.PrunedDict.TheLaws.TheKnot as lists
use Rattle.world_book.proofs.log.Log.TheSendSync as Log
use Rattle.world_book.proofs.took.Signed.TheSendSync as Signed
use Rattle.world_book.specs.contracts.book.UserBook as UserBook
use Rattle.world_book.specs.contracts.took.Took as Took
use Rattle.client_core.proofs.side.Side.TheSendSync as Side
use Rattle.client_core.specs.contracts.client.Client as Client
use Rattle.client_core.specs.contracts.client.Client.TheInside as inside

Took-send : IsSend Took.the_row
Took-send = search (Sequence.the_send, Leaf.the_send, trees.crosses, lists.crosses, std.crosses, sendable) depth 60 fits 20000

Book-send : IsSend (UserBook.the_field).row
Book-send = struct_send (shape UserBook.the_type)
    (search sendable, (PublicKey.the_send, (search sendable, (Log.the_send _ Took-send, (Log.the_send _ Signed.the_send, tt)))))

module _ (D : RattleType) (g : digester.Ghosts D.Denot) where
  pub Client-send : IsSend (Client.the_row D g)
  Client-send = view_send (inside.the_row D g) _ _ _ _ (recorded_send (inside.the_field D g).row _ _ (inside.the_type D g).to_one (struct_send (shape (inside.the_type D g))
      (Signer.the_send, (std.Vec-send _ Side.the_send, (Book-send, (search sendable, tt))))))

-- What a hall owns may go to another thread.
use denote.RattleType.{RattleType}
use denote.Param.Send.{IsSend, IsSync, view_send, view_sync, recorded_send, recorded_sync, struct_send, struct_sync, sendable}
use denote.Struct.Declared.{shape}
use Rattle.std.proofs.Crossing as std
use Rattle.std.proofs.alloc.Global.TheSendSync as Global
use Rattle.fr_digest.specs.declared.digests.Digester as digester
use Rattle.lms_tree.proofs.signer.Signer.TheSendSync as Signer
use Rattle.op_types.proofs.view.View.TheSendSync as View
use Rattle.op_types.proofs.op.Leaf.TheSendSync as Leaf
use Rattle.hist_tree.proofs.hist.Hist.TheSendSync as Hist
use Rattle.hall_core.proofs.facts.WallFacts.TheSendSync as WallFacts
use Rattle.hall_core.proofs.ask.Called.TheSendSync as entry
use Rattle.hall_core.specs.contracts.ask.Called as Called
use Rattle.dict_treap.specs.contracts.dict.Dict as Dict
use Rattle.dict_treap.specs.contracts.node.Node as Node
use Rattle.dict_treap.proofs.node.Node.TheLaws.TheKnot as nodes
use Rattle.hall_gate.proofs.calls.Calls.TheLaws.TheKnot as calls
use Rattle.dict_treap.specs.contracts.dict.Dict.TheInside as inside_dict
use Rattle.hall_gate.specs.contracts.calls.Calls as Calls
use Rattle.hall_core.specs.contracts.item.Item as Item
use Rattle.hall_core.specs.contracts.wall.Wall as Wall
use Rattle.hall_core.specs.contracts.wall.Wall.TheInside as inside_wall
use Rattle.hall_core.specs.contracts.snapshot.Snapshot as Snapshot
use Rattle.hall_core.specs.contracts.hall.Hall as Hall
use Rattle.hall_core.specs.contracts.hall.Hall.TheInside as inside_hall

module _ (D : RattleType) (g : digester.Ghosts D.Denot) where
  Node-send : IsSend (Node.the_row D g)
  Node-send = search (nodes.crosses, std.crosses, sendable) depth 60 fits 20000

  Node-sync : IsSync (Node.the_row D g)
  Node-sync = search (nodes.crosses, std.crosses, sendable) depth 60 fits 20000

  pub Dict-send : IsSend (Dict.the_row D g)
  Dict-send = view_send (inside_dict.the_row D g) _ _ _ _ (recorded_send (inside_dict.the_field D g).row _ _ (inside_dict.the_type D g).to_one (struct_send (shape (inside_dict.the_type D g))
      (std.Arc-send _ Node-send Node-sync, (Global.the_field_send, tt))))

  pub Dict-sync : IsSync (Dict.the_row D g)
  Dict-sync = view_sync (inside_dict.the_row D g) _ _ _ _ (recorded_sync (inside_dict.the_field D g).row _ _ (inside_dict.the_type D g).to_one (struct_sync (shape (inside_dict.the_type D g))
      (std.Arc-sync _ Node-send Node-sync, (Global.the_field_sync, tt))))

  pub Item-send : IsSend (Item.the_row D g)
  Item-send = recorded_send (Item.the_field D g).row _ _ (Item.the_type D g).to_one (struct_send (shape (Item.the_type D g)) (Leaf.the_field_send, (search (std.crosses, sendable) depth 20, (Dict-send, tt))))

  pub Item-sync : IsSync (Item.the_row D g)
  Item-sync = recorded_sync (Item.the_field D g).row _ _ (Item.the_type D g).to_one (struct_sync (shape (Item.the_type D g)) (Leaf.the_field_sync, (search (std.crosses, sendable) depth 20, (Dict-sync, tt))))

  pub Wall-send : IsSend (Wall.the_row D g)
  Wall-send = view_send (inside_wall.the_row D g) _ _ _ _ (recorded_send (inside_wall.the_field D g).row _ _ (inside_wall.the_type D g).to_one (struct_send (shape (inside_wall.the_type D g))
      (WallFacts.the_field_send, (Signer.the_send, (Dict-send, (Dict-send, (search sendable, (Hist.the_send D (Item.the_row D g) g _ Item-send Item-sync, (View.the_field_send, (Global.the_field_send, tt))))))))))

  Entries-send : IsSend (Calls.the_row Called.the_row)
  Entries-send = search (entry.the_send, calls.crosses, std.crosses, sendable) depth 60 fits 20000

  pub Hall-send : IsSend (Hall.the_row D g)
  Hall-send = view_send (inside_hall.the_row D g) _ _ _ _ (recorded_send (inside_hall.the_field D g).row _ _ (inside_hall.the_type D g).to_one (struct_send (shape (inside_hall.the_type D g)) (Wall-send, (Entries-send, tt))))

  pub Snapshot-send : IsSend (Snapshot.the_row D g)
  Snapshot-send = recorded_send (Snapshot.the_field D g).row _ _ (Snapshot.the_type D g).to_one (struct_send (shape (Snapshot.the_type D g))
      (Hist.the_send D (Item.the_row D g) g _ Item-send Item-sync, (Dict-send, (View.the_field_send, (search sendable, tt)))))

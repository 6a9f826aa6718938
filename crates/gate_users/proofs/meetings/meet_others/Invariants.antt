use Rattle.std.proofs.Common.{◌≡◌, ◌<◌, vec_len, vec_capacity}
use Rattle.std.specs.List.{All, AllWithin}
use Rattle.gate_users.specs.Users.{SitsAt, HaveLegal}
use Rattle.gate_users.proofs.Rounds.{HasMetFirst}
use Rattle.gate_users.proofs.meetings.meet_others.Given as goal

abbrev pub invariant-loop-i : goal.invariant-loop-i
invariant-loop-i g l = let t = g.T.Turned in record {
  hub : SitsAt l.gates l.hub;
  others : All (SitsAt l.gates) l.others.items;
  many : vec_len l.others ≡ vec_len l.initial.others;
  room : vec_capacity l.others ≡ vec_capacity l.initial.others;
  met : HasMetFirst t.caller l.initial.hub l.hub l.initial.others.items l.others.items l.i;
  hub_legal : 0 < l.i → HaveLegal t.legal l.hub;
  legal : AllWithin (HaveLegal t.legal) l.others.items 0 l.i;
}

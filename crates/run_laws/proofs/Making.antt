-- What a client that follows a wall asks of it.
use Rattle.std.proofs.Common.{◌≡◌, ◌∙◌, ℕ, List, [], ◌∷◌, Option, Some, None, Ok, refl, sym, ap, subst}
use Rattle.std.specs.List.{AllByRecursion}
use Rattle.fr_digest.specs.Digest.{Digest}
use Rattle.op_types.specs.declared.op.Leaf.{Leaf}
use Rattle.op_types.specs.declared.op.Op.{Op}
use Rattle.lms_tree.specs.Signer.{Signing}
use Rattle.hall_core.specs.declared.facts.WallFacts.{WallFacts}
use Rattle.script_read.specs.declared.script.Command.{Command}
use Rattle.client_core.specs.declared.sent.Sent.{Sent}
use Rattle.client_core.specs.Asking.{ask}
use Rattle.client_core.specs.Keys.{KeysView, fresh}
use Rattle.client_core.specs.Sides.{SideView, side_of}
use Rattle.client_core.proofs.Places.{each-found, found-wall}
use Rattle.session_laws.specs.Doing.{Did, Exchange, Heard, PlainClient, after, ask_of, asked_by, dids, done, wall_of}
use Rattle.run_laws.specs.Following.{Follows, KeepsUp}
use Rattle.run_laws.specs.Listed.{AsksFor}
use Rattle.run_laws.specs.Untampered.{KeepsAlong}
use Rattle.run_laws.proofs.Asks.{done-asks}
use Rattle.run_laws.proofs.Bases.{AreBased, IsBased, done-based}
use Rattle.run_laws.proofs.Signed.{sent-next}
use Rattle.run_laws.proofs.Signing.{after-later}

-- A side that follows the leaves, whose keys began as these, was asked for this by a command, and signed the operation.
pub record IsMade (d : Digest) (facts : WallFacts) (L : List Leaf) (base : KeysView) (user : ℕ) (command : Command) (op : Op)
    : Type 0 where
  pub at : wall_of command ≡ facts.wall
  pub side : SideView
  pub follows : Follows d facts L side
  pub began : fresh side.keys ≡ base
  pub signer : Signing
  pub sent : Sent
  pub asked : ask signer user side (asked_by command) ≡ Ok sent
  pub signed : sent.signed ≡ Some op

-- on the wall, where it is on it
abbrev pub IsMadeThere : Digest → WallFacts → List Leaf → KeysView → ℕ → Command → Op → Type 0
IsMadeThere d facts L base user command op = op.wall ≡ facts.wall → IsMade d facts L base user command op

-- the operation that was sent
signed-some : (P : Op → Type 0) (signed : Option Op) → ((op : Op) → signed ≡ Some op → P op) → AsksFor P (ask_of signed)
signed-some P None holds = tt
signed-some P (Some op) holds = holds op refl

pub same-some : (a b : SideView) (o : Option SideView) → o ≡ Some a → o ≡ Some b → a ≡ b
same-some a b o x y = let e = sym x ∙ y in cc

module _ (d : Digest) (facts : WallFacts) (L : List Leaf) (base : ℕ → KeysView) where
  done-made : (c : PlainClient) (h : Heard) → KeepsUp d facts L c → AreBased base c
      → AllByRecursion (λ (x : Exchange). AsksFor (IsMadeThere d facts L (base facts.wall) c.user h.task.command) x.ask)
      (done d c h).exchanges
  done-made c h keeps based = done-asks d (IsMadeThere d facts L (base facts.wall) c.user h.task.command) c h
      (λ s sent found asked.
      signed-some (IsMadeThere d facts L (base facts.wall) c.user h.task.command) sent.signed
      (λ op is there.
      let of = (sent-next c.signer c.user s h.task.command sent op asked is).wall in
      let name = found-wall (wall_of h.task.command) c.sides s found in
      let at : wall_of h.task.command ≡ facts.wall = sym name ∙ sym of ∙ there in
      let here : side_of facts.wall c.sides ≡ Some s =
      subst (λ (v : ℕ). side_of v c.sides ≡ Some s) at found in
      let same : keeps.side ≡ s = same-some keeps.side s (side_of facts.wall c.sides) keeps.found here in
      record {
        at = at;
        side = s;
        follows = subst (Follows d facts L) same keeps.follows;
        began = each-found (IsBased base) facts.wall c.sides s based here ∙ ap base (name ∙ at);
        signer = c.signer;
        sent = sent;
        asked = asked;
        signed = is;
      }))

  -- what each command of a client has it ask of the wall, which it follows
  abbrev pub IsMadeBy : ℕ → Did → Type 0
  IsMadeBy user x =
      AllByRecursion (λ (e : Exchange). AsksFor (IsMadeThere d facts L (base facts.wall) user x.task.command) e.ask)
      x.exchanges

  pub all-made : (hs : List Heard) (c : PlainClient) → KeepsAlong d facts L c hs → AreBased base c
      → AllByRecursion (IsMadeBy c.user) (dids d c hs)
  all-made [] c along based = tt
  all-made (h ∷ hs) c along based = (
    done-made c h along.0 based,
    subst (λ (u : ℕ). AllByRecursion (IsMadeBy u) (dids d (after d c h) hs)) (after-later d c h).user
        (all-made hs (after d c h) along.1 (done-based base d c h based)),
  )

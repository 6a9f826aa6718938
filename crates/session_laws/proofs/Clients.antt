-- What a client's calls make of it, as the plain client has it.
use Rattle.std.proofs.Common.{◌≡◌, ◌∙◌, ℕ, Bool, true, false, cond, List, [], ◌∷◌, ◌++◌, map, Option, Some, None, Ok, Err, refl, ap}
use Rattle.std.proofs.lemmas.List.{map-append}
use Rattle.op_types.specs.declared.op.Op.{Op}
use Rattle.lms_tree.specs.Signer.{Signing}
use Rattle.check_rules.specs.Verdict.{Judged, same, taken, refusal}
use Rattle.check_core.specs.declared.checked.Checked.{Checked}
use Rattle.check_core.specs.declared.checked.Checked.TheVariants as checks
use Rattle.check_core.specs.View.{checked_view}
use Rattle.world_book.specs.declared.book.UserBook.{UserBook}
use Rattle.world_book.specs.declared.took.Took.{Took}
use Rattle.client_core.specs.Clients.{ClientView, having_sent, having_taken, with_signed, with_took}
use Rattle.client_core.specs.Clients as clients
use Rattle.client_core.specs.Sides.{SideView, side_of, with_side}
use Rattle.client_core.proofs.Places.{found-wall, put-found}
use Rattle.session_laws.specs.Doing.{Hearing, PlainClient, heard_by, plain, sent_from, sent_side, side_heard, took_view}

-- ---- sending

signed-book : (signer : Signing) (sides : List SideView) (book : UserBook) (op : Op) (b : Bool) → book.rogue ≡ b
    → plain (record { signer = signer; sides = sides; book = with_signed book op }) ≡ record {
      user = book.user;
      rogue = book.rogue;
      signer = signer;
      sides = sides;
      took = map took_view book.took;
      signed = cond b book.signed (book.signed ++ (record { user = book.user; op = op }) ∷ []);
    }
signed-book signer sides book op true is = rw is refl
signed-book signer sides book op false is = rw is refl

pub plain-sent : (c : ClientView) (s : SideView) (signed : Option Op)
    → plain (having_sent c s signed) ≡ sent_from (plain c) s signed
plain-sent c s None = refl
plain-sent c s (Some op) = signed-book _ _ c.book op c.book.rogue refl

-- ---- taking

took-book : (signer : Signing) (sides : List SideView) (book : UserBook) (t : Took) (b : Bool) → book.rogue ≡ b
    → plain (record { signer = signer; sides = sides; book = with_took book t }) ≡ record {
      user = book.user;
      rogue = book.rogue;
      signer = signer;
      sides = sides;
      took = cond b (map took_view book.took) (map took_view book.took ++ took_view t ∷ []);
      signed = book.signed;
    }
took-book signer sides book t true is = rw is refl
took-book signer sides book t false is = rw (is, map-append took_view book.took (t ∷ [])) refl

pub plain-taken : (c : ClientView) (s : SideView) (checked : Checked)
    → plain (having_taken c s checked) ≡ heard_by (plain c) s (Some (Ok (checked_view checked)))
plain-taken c s (checks.Same size) = refl
plain-taken c s (checks.Refused cause number) = refl
plain-taken c s (checks.Taken view from proof leaves dicts) =
    took-book _ _ c.book (clients.took_of c.book.user s view from proof leaves dicts) c.book.rogue refl

-- ---- the side after each call

-- The side that has sent is the wall's.
pub sent-found : (c : PlainClient) (wall : ℕ) (s : SideView) (signed : Option Op) → side_of wall c.sides ≡ Some s
    → side_of wall (sent_from c s signed).sides ≡ Some (sent_side s signed)
sent-found c wall s None found = found
sent-found c wall s (Some op) found =
    let at = found-wall wall c.sides s found in
    ap (λ (w : ℕ). side_of wall (with_side w (sent_side s (Some op)) c.sides)) at
    ∙ put-found wall (sent_side s (Some op)) c.sides s found at

judged-wall : (s : SideView) (j : Judged) → (side_heard s (Some (Ok j))).known.wall ≡ s.known.wall
judged-wall s (same size) = refl
judged-wall s (taken view from tree leaves lists) = refl
judged-wall s (refusal cause number) = refl

-- So is the one that has heard.
pub heard-found : (c : PlainClient) (wall : ℕ) (s : SideView) (j : Hearing) → side_of wall c.sides ≡ Some s
    → side_of wall (heard_by c s j).sides ≡ Some (side_heard s j)
heard-found c wall s None found = found
heard-found c wall s (Some (Err verdict)) found = found
heard-found c wall s (Some (Ok j)) found =
    let at = found-wall wall c.sides s found in
    ap (λ (w : ℕ). side_of wall (with_side w (side_heard s (Some (Ok j))) c.sides)) at
    ∙ put-found wall (side_heard s (Some (Ok j))) c.sides s found (judged-wall s j ∙ at)

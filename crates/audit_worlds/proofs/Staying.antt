-- Clients of which one asks or takes a reply stay together.
use Rattle.std.proofs.Common.{◌≡◌, ◌∙◌, ℕ, ◌<◌, List, [], ◌∷◌, length, map, get_or, set, Some, refl, sym, subst, arith}
use Rattle.std.specs.Prelude.{Result, Ok, Err, IfOk, OnErr, OnOk}
use Rattle.std.proofs.Math.Seq.{map-set_same}
use Rattle.fr_bytes.specs.Bytes.{Text}
use Rattle.fr_digest.specs.Digest.{Digest}
use Rattle.lms_tree.specs.Valid.{Key}
use Rattle.msg_form.specs.declared.decline.Decline.{Decline}
use Rattle.world_book.specs.declared.world.WallNote.{WallNote}
use Rattle.world_book.specs.Records.{Rise, note_of}
use Rattle.client_core.specs.declared.news.News.{News}
use Rattle.client_core.specs.declared.sent.Sent.{Sent}
use Rattle.client_core.specs.declared.side.Side.{Side}
use Rattle.client_core.specs.Asking.{Command}
use Rattle.client_core.specs.Clients.{Asks, ClientView, Hears, Standing, client_view}
use Rattle.client_core.specs.Keeping.{StaysAs, notes_of}
use Rattle.client_core.specs.Sides.{sides_view}
use Rattle.client_core.proofs.Lists.{all_at, all_set}
use Rattle.client_core.proofs.Walls.{asked-stays, heard-stays}
use Rattle.run_end.specs.Ends.{AreTogether, IsAmong, user_in}
use Rattle.audit_worlds.specs.Clients.{IsSame}

-- ---- one client

pub same-client : (before after : ClientView) → after ≡ before → IsSame before after
same-client before after e = subst (IsSame before) (sym e) (record { notes = refl; users = refl; user = refl })

stays-same : (before after : ClientView) (wall : ℕ) → StaysAs before wall after → IsSame before after
stays-same before after wall s = record { notes = s.notes; users = s.users; user = s.user }

pub asked-same : (before after : ClientView) (wall : ℕ) (command : Command) (r : Result Sent Decline)
    → IfOk r (λ (sent : Sent). Asks before wall command sent after) → OnErr r (after ≡ before) → IsSame before after
asked-same before after wall command (Ok sent) asks unchanged =
    stays-same before after wall (asked-stays before after wall command sent asks)
asked-same before after wall command (Err decline) asks unchanged = same-client before after unchanged

pub heard-same : (d : Digest) (before after : ClientView) (sent : Sent) (bytes : Text) (news : News)
    → Hears d before sent bytes news after → IsSame before after
heard-same d before after sent bytes news hears =
    stays-same before after sent.wall (heard-stays d before after sent bytes news hears)

-- ---- among others

some-kept : (xs ys : List Side) → notes_of (sides_view ys) ≡ notes_of (sides_view xs) → 0 < length xs → 0 < length ys
some-kept [] ys same some = absurd (omega (arith, some))
some-kept (x ∷ xs) [] same some = absurd cc
some-kept (x ∷ xs) (y ∷ ys) same some = omega arith

among-same : (notes : List WallNote) (keys : List (ℕ × Key)) (before after : Standing)
    → IsSame (client_view before) (client_view after) → IsAmong notes keys before → IsAmong notes keys after
among-same notes keys before after same is = record {
  some = some-kept before.sides after.sides same.notes is.some;
  users_are = same.users ∙ is.users_are;
  noted = subst (λ (ns : List WallNote). (wall : ℕ) (n : WallNote) → note_of ns wall ≡ Some n
      → note_of notes wall ≡ Some n) (sym same.notes) is.noted;
}

-- One client in the place of another that is the same.
pub together-set : (notes : List WallNote) (clients : List Standing) (i : ℕ) (new d : Standing) → i < length clients
    → IsSame (client_view (get_or clients i d)) (client_view new) → AreTogether notes clients
    → AreTogether notes (set clients i new)
together-set notes clients i new d within same together =
    let users : map user_in (set clients i new) ≡ map user_in clients =
    map-set_same user_in clients i new d same.user in record {
      users = subst Rise (sym users) together.users;
      walls = together.walls;
      keys = together.keys;
      listed = together.listed ∙ sym users;
      each = all_set (IsAmong notes together.keys) clients i new together.each
          (among-same notes together.keys (get_or clients i d) new same
          (all_at (IsAmong notes together.keys) clients i d together.each within));
    }

pub on-ok : {T E : Type 0} {A B : Type 0} (r : Result T E) → OnOk r A → (A → B) → OnOk r B
on-ok (Ok x) a f = f a
on-ok (Err e) a f = tt

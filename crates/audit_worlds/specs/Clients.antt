-- Clients of one wall.
use Rattle.std.specs.Prelude.{◌≡◌, ℕ, List, [], ◌∷◌}
use Rattle.lms_tree.specs.Valid.{Key}
use Rattle.world_book.specs.declared.world.WallNote.{WallNote}
use Rattle.client_core.specs.Clients.{ClientView, Standing}
use Rattle.client_core.specs.Keeping.{notes_of, users_of}
use Rattle.client_core.specs.Sides.{sides_view}

-- The client has a side for this wall alone, and knows these users' keys.
pub record Knows (note : WallNote) (keys : List (ℕ × Key)) (client : Standing) : Type 0 where
  pub notes : notes_of (sides_view client.sides) ≡ note ∷ []
  pub users : users_of (sides_view client.sides) ≡ keys

-- The client is the same user's, and knows the same walls and users.
pub record IsSame (before after : ClientView) : Type 0 where
  pub notes : notes_of after.sides ≡ notes_of before.sides
  pub users : users_of after.sides ≡ users_of before.sides
  pub user : after.book.user ≡ before.book.user

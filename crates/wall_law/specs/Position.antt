-- What stands in the way of the leaf at a position, over what is found there.
use Rattle.std.specs.Prelude.{◌≡◌, ℕ, Bool, true, false, not, ◌&&◌, ◌||◌, [], ◌∷◌, Option, Some, None, nat_lt, nat_eq, unwrap_or, is_none, option_and_then}
use Rattle.std.specs.Option.{option_map}
use Rattle.std.specs.Str.{bytes_eq}
use Rattle.fr_bytes.specs.Bytes.{Text}
use Rattle.fr_digest.specs.Digest.{Digest}
use Rattle.op_types.specs.declared.op.Leaf.{Leaf}
use Rattle.op_types.specs.declared.op.Op.{Op}
use Rattle.op_types.specs.declared.view.View.{View}
use Rattle.tree_model.specs.declared.entry.Entry.{Entry}
use Rattle.op_types.specs.Kinds.{changed_user}
use Rattle.tree_model.specs.AccessList.{dict, entry_of}
use Rattle.wall_law.specs.declared.refusal.LawRefusal.{LawRefusal}
use Rattle.wall_law.specs.declared.refusal.PositionRefusal.{PositionRefusal}
use Rattle.wall_law.specs.declared.refusal.PositionRefusal.TheVariants.{BadAuthorSignature, BadDictProof, Unlawful, BadView, WrongAfter}
use Rattle.wall_law.specs.declared.state.State.{State}
use Rattle.wall_law.specs.State.{after, epoch_after}
use Rattle.wall_law.specs.Law.{law_of}
use Rattle.wall_law.specs.Lawful.{Told}
use Rattle.wall_law.specs.Rows.{row, first_of}

-- What is found at a position: whether its author signed the operation; the digest of the access list that is
-- shown before it; what the look-ups of the author and of the changed user find in that list; the digest of the
-- list that the operation leaves; and whether the view that it embeds is one of this history. A look-up is None
-- where it meets a hidden part, and so is the list that is left where carrying out the operation must enter one.
pub record Finding : Type 0 where
  pub signed : Bool
  pub list : Text
  pub author : Option (Option Entry)
  pub changed : Option (Option Entry)
  pub after : Option Text
  pub seen : Bool

-- an entry that was found
abbrev pub entry_found : Option (Option Entry) → Option Entry
entry_found looked = unwrap_or looked None

-- the law over the entries that were found
abbrev pub law_found : Told → ℕ → ℕ → Op → Finding → Option LawRefusal
law_found before wall k op f = law_of (entry_found f.author) (entry_found f.changed) before.epoch wall k op

-- A look-up meets a hidden part, or carrying out an operation that the law lets stand does.
abbrev pub is_hid : Told → ℕ → ℕ → Op → Finding → Bool
is_hid before wall k op f =
    is_none f.author || (is_none f.changed || (is_none (law_found before wall k op f) && is_none f.after))

-- The leaf tells the list and the epoch that its operation leaves.
abbrev pub is_told : Told → Leaf → Option Text → Bool
is_told before leaf after =
    bytes_eq leaf.after (unwrap_or after []) && nat_eq leaf.epoch (epoch_after before.epoch leaf.op)

-- The first that stands in the way of the leaf at position k of a wall, where this was told before it: its author
-- didn't sign it; the list that is shown isn't the one before it, or hides what has to be looked up; the law
-- refuses it; the view that it embeds isn't one of this history; it tells another list or epoch than it leaves.
unfoldable pub position_refusal : Told → ℕ → ℕ → Leaf → Finding → Option PositionRefusal
position_refusal before wall k leaf f = first_of (
    row (not f.signed) BadAuthorSignature
    ∷ row (not (bytes_eq f.list before.list) || is_hid before wall k leaf.op f) BadDictProof
    ∷ option_map Unlawful (law_found before wall k leaf.op f)
    ∷ row (not f.seen) BadView
    ∷ row (not (is_told before leaf f.after)) WrongAfter
    ∷ [])

-- Nothing stands in the way.
pub record PositionPasses (before : Told) (wall k : ℕ) (leaf : Leaf) (f : Finding) : Type 0 where
  pub signed : f.signed ≡ true
  pub list : f.list ≡ before.list
  pub author : Option Entry
  pub finds_author : f.author ≡ Some author
  pub changed : Option Entry
  pub finds_changed : f.changed ≡ Some changed
  pub lawful : law_of author changed before.epoch wall k leaf.op ≡ None
  pub seen : f.seen ≡ true
  pub after : f.after ≡ Some leaf.after
  pub epoch : leaf.epoch ≡ epoch_after before.epoch leaf.op

-- The look-ups find what a state's own entries have, and the operation leaves the list of the state after it.
pub record IsOf (d : Digest) (s : State) (op : Op) (f : Finding) : Type 0 where
  pub author : f.author ≡ Some (entry_of s.entries op.author)
  pub changed : f.changed ≡ Some (option_and_then (λ user. entry_of s.entries user) (changed_user op.kind))
  pub after : f.after ≡ Some (dict d (after s op).entries)

-- ---- embedded views

abbrev pub is_root : Option Text → Text → Bool
is_root None root = false
is_root (Some x) root = bytes_eq x root

-- A view of nothing, or one whose root is that of the history's version of its size and which the server signed.
abbrev pub is_seen : (ℕ → Option Text) → (View → Bool) → View → Bool
is_seen root_at is_signed view = not (nat_lt 0 view.size) || (is_root (root_at view.size) view.root && is_signed view)

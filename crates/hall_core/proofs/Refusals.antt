-- What stands in the way of an operation, row by row.
use Rattle.std.proofs.Common.{◌≡◌, ◌<◌, ◌≤◌, Bool, true, false, not, List, [], ◌∷◌, length, Option, Some, None, refl, sym, ap, inl}
use Rattle.std.specs.Prelude.{nat_le}
use Rattle.std.specs.Option.{option_map}
use Rattle.std.proofs.lemmas.Bool.{le-leb, lt-leb, leb-false}
use Rattle.fr_digest.specs.Digest.{Digest}
use Rattle.op_types.specs.declared.op.Op.{Op}
use Rattle.op_types.specs.declared.op.Leaf.{Leaf}
use Rattle.op_types.specs.declared.limits.TheConstants.{VIEW_SIZE_MAX}
use Rattle.wall_law.specs.Law.{law}
use Rattle.wall_law.specs.Rows.{row, first_of}
use Rattle.wall_law.specs.State.{state_of}
use Rattle.wall_law.proofs.Rows.{all-none, map-none, row-off}
use Rattle.signed_ops.specs.Signed.{is_author_signed}
use Rattle.hall_core.specs.declared.ask.Ask.TheVariants.{Look, Append}
use Rattle.hall_core.specs.declared.ask.Answer.TheVariants.{Looked, Placed, Refused}
use Rattle.hall_core.specs.declared.ask.Cause.{Cause}
use Rattle.hall_core.specs.declared.ask.Cause.TheVariants.{Full, BadSignature, BadView}
use Rattle.hall_core.specs.declared.facts.WallFacts.{WallFacts}
use Rattle.hall_core.specs.PlainWall.{unlawful, sees, refusal_of, placed_or, answer_to, Gives}

not-off : (b : Bool) → not b ≡ false → b ≡ true
not-off true e = refl
not-off false e = absurd cc

module _ (d : Digest) (facts : WallFacts) (leaves : List Leaf) (op : Op) where
  -- ---- the rows, one by one

  -- the rows behind the signature
  abbrev pub later : Option Cause
  later = first_of (
      option_map unlawful (law (state_of facts.owner leaves) facts.wall (length leaves) op)
      ∷ row (not (sees d facts leaves op.view)) BadView
      ∷ [])

  pub full-refused : VIEW_SIZE_MAX ≤ length leaves → Some Full ≡ refusal_of d facts leaves op
  unfolding refusal_of
  full-refused full = rw (le-leb VIEW_SIZE_MAX (length leaves) full) refl

  pub unsigned-refused : length leaves < VIEW_SIZE_MAX → is_author_signed facts.users op ≡ false
      → Some BadSignature ≡ refusal_of d facts leaves op
  unfolding refusal_of
  unsigned-refused room unsigned = rw (lt-leb VIEW_SIZE_MAX (length leaves) room, unsigned) refl

  pub later-refused : length leaves < VIEW_SIZE_MAX → is_author_signed facts.users op ≡ true
      → later ≡ refusal_of d facts leaves op
  unfolding refusal_of
  later-refused room signed = rw (lt-leb VIEW_SIZE_MAX (length leaves) room, signed) refl

  -- ---- no row applies

  -- nothing stands in its way
  pub record IsFree : Type 0 where
    pub room : length leaves < VIEW_SIZE_MAX
    pub signed : is_author_signed facts.users op ≡ true
    pub lawful : law (state_of facts.owner leaves) facts.wall (length leaves) op ≡ None
    pub seen : sees d facts leaves op.view ≡ true

  abbrev Rows : List (Option Cause)
  Rows =
      row (nat_le VIEW_SIZE_MAX (length leaves)) Full
      ∷ row (not (is_author_signed facts.users op)) BadSignature
      ∷ option_map unlawful (law (state_of facts.owner leaves) facts.wall (length leaves) op)
      ∷ row (not (sees d facts leaves op.view)) BadView
      ∷ []

  pub free : refusal_of d facts leaves op ≡ None → IsFree
  unfolding refusal_of
  free none =
      let rows = all-none Rows none in
      record {
        room = leb-false VIEW_SIZE_MAX (length leaves) (row-off (nat_le VIEW_SIZE_MAX (length leaves)) Full rows.0);
        signed = not-off (is_author_signed facts.users op)
            (row-off (not (is_author_signed facts.users op)) BadSignature rows.1.0);
        lawful = map-none unlawful (law (state_of facts.owner leaves) facts.wall (length leaves) op) rows.1.1.0;
        seen = not-off (sees d facts leaves op.view) (row-off (not (sees d facts leaves op.view)) BadView rows.1.1.1.0);
      }

  -- ---- answers

  pub gives-refused : (cause : Cause) → Some cause ≡ refusal_of d facts leaves op
      → Gives d facts leaves (Append op) (Refused cause)
  unfolding answer_to
  gives-refused cause e = inl (ap (placed_or (length leaves)) e)

  pub gives-placed : refusal_of d facts leaves op ≡ None → Gives d facts leaves (Append op) (Placed (length leaves))
  unfolding answer_to
  gives-placed e = inl (sym (ap (placed_or (length leaves)) e))

pub gives-looked : (d : Digest) (facts : WallFacts) (leaves : List Leaf)
    → Gives d facts leaves Look (Looked (length leaves))
unfolding answer_to
gives-looked d facts leaves = inl refl

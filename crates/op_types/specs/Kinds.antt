-- What an operation's kind says of it, each matched in this one place.
use Rattle.std.specs.Prelude.{ℕ, Bool, true, false, List, Option, Some, None}
use Rattle.op_types.specs.declared.kind.Kind.{Kind}
use Rattle.op_types.specs.declared.kind.Kind.TheVariants.{Post, Admit, Remove}

-- whether it changes the access list
abbrev pub is_change : Kind → Bool
is_change (Post body) = false
is_change (Admit user role slot wraps) = true
is_change (Remove user slot wraps) = true

-- the user whom it adds or takes away
abbrev pub changed_user : Kind → Option ℕ
changed_user (Post body) = None
changed_user (Admit user role slot wraps) = Some user
changed_user (Remove user slot wraps) = Some user

-- the body of a post
abbrev pub posted_body : Kind → Option (List ℕ)
posted_body (Post body) = Some body
posted_body (Admit user role slot wraps) = None
posted_body (Remove user slot wraps) = None

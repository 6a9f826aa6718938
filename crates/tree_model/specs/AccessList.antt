-- Access lists: sets of entries, one for each user, kept as lists whose users rise; the digest of a set
-- by its entry of greatest priority, which is the digest of the one treap of the set (Aragon and Seidel,
-- "Randomized Search Trees"); and what a change leaves of a set. d is the digest of strings.
use Rattle.std.specs.Prelude.{◌≡◌, ◌≢◌, ℕ, zero, suc, ◌<◌, Bool, not, ◌^◌, false, List, [], ◌∷◌, ◌++◌, length, map, filter, find, Option, Some, None, nat_lt, nat_eq, if◌then◌else◌, unwrap_or}
use Rattle.std.specs.List.{AllByRecursion, Contains}
use Rattle.std.specs.Int.{w32, to_be_bytes}
use Rattle.std.specs.Ordering.{ordering_then, nat_cmp, is_gt}
use Rattle.std.specs.declared.cmp.Ordering.{Ordering}
use Rattle.std.specs.Cmp.Lexicographic.{slice_cmp}
use Rattle.fr_digest.specs.Digest.{Digest}
use Rattle.sha2.specs.Sha256.{sha256}
use Rattle.tree_model.specs.declared.entry.Entry.{Entry}

-- ---- sets

-- users rise
abbrev pub IsRising : List Entry → Type 0
IsRising [] = Unit {0}
IsRising (e ∷ es) = AllByRecursion (λ (x : Entry). e.user < x.user) es × IsRising es

-- the entry of a user
abbrev pub entry_of : List Entry → ℕ → Option Entry
entry_of es user = find (λ (e : Entry). nat_eq e.user user) es

-- the entries of smaller users, and of greater ones
abbrev pub smaller : ℕ → List Entry → List Entry
smaller user es = filter (λ (e : Entry). nat_lt e.user user) es

abbrev pub greater : ℕ → List Entry → List Entry
greater user es = filter (λ (e : Entry). nat_lt user e.user) es

-- ---- priorities

-- SHA-256 of the byte 3 and the user's number
unfoldable pub priority_hash : ℕ → List ℕ
priority_hash user = sha256 (3 ∷ to_be_bytes w32 user)

-- A user's priority is the pair of this hash and the number, compared as bytes and then as numbers.
abbrev pub priority_cmp : ℕ → ℕ → Ordering
priority_cmp a b = ordering_then (slice_cmp nat_cmp (priority_hash a) (priority_hash b)) (nat_cmp a b)

-- a's priority is greater than b's
unfoldable pub is_above : ℕ → ℕ → Bool
is_above a b = is_gt (priority_cmp a b)

-- the entry of greatest priority among best and the others
unfoldable pub greatest : Entry → List Entry → Entry
greatest best [] = best
greatest best (e ∷ es) = greatest (if is_above e.user best.user then e else best) es

-- the entry of greatest priority of a set, where it isn't empty
unfoldable pub top_of : List Entry → Option Entry
top_of [] = None
top_of (e ∷ es) = Some (greatest e es)

-- The entry is a member of the set, and nobody's priority is above its user's.
abbrev pub IsTop : List Entry → Entry → Type 0
IsTop es t = Contains es t × ((x : Entry) → Contains es x → is_above x.user t.user ≡ false)

-- ---- digests

-- a child's digest, where there is a child
abbrev pub child_text : Option (List ℕ) → List ℕ
child_text None = []
child_text (Some x) = x

-- 1 for a left child and 2 for a right one
abbrev pub flags : Option (List ℕ) → Option (List ℕ) → ℕ
flags None None = 0
flags (Some l) None = 1
flags None (Some r) = 2
flags (Some l) (Some r) = 3

-- the string of a node: the byte 2, the entry, the flags and the digests of the children, left first
abbrev pub node_text : Entry → Option (List ℕ) → Option (List ℕ) → List ℕ
node_text e l r =
    2 ∷ (to_be_bytes w32 e.user ++ (e.role ∷ (to_be_bytes w32 e.next
    ++ (flags l r ∷ (child_text l ++ child_text r)))))

-- The numbers of an entry fit their places in the string: 4 bytes, 1 and 4.
pub record IsInRange (e : Entry) : Type 0 where
  pub user : e.user < 2 ^ 32
  pub role : e.role < 2 ^ 8
  pub next : e.next < 2 ^ 32

module _ (d : Digest) where
  -- The digest of a set of at most n entries, where it isn't empty: the entry of greatest priority is
  -- taken out, and the smaller and the greater users are digested in the same way.
  unfoldable pub set_digest_in : ℕ → List Entry → Option (List ℕ)
  set_digest_in zero es = None
  set_digest_in (suc n) [] = None
  set_digest_in (suc n) (e ∷ es) =
      Some (d (node_text (greatest e es)
      (set_digest_in n (smaller (greatest e es).user (e ∷ es)))
      (set_digest_in n (greater (greatest e es).user (e ∷ es)))))

  -- The digest of a set, where it isn't empty.
  unfoldable pub set_digest : List Entry → Option (List ℕ)
  set_digest es = set_digest_in (length es) es

  -- The digest of an access list, which is never empty.
  unfoldable pub dict : List Entry → List ℕ
  dict es = unwrap_or (set_digest es) []

-- ---- changes

-- what an operation does to the set beside its author's entry
pub data ListChange : Type 0 where
  stays : ListChange
  adds : Entry → ListChange
  drops : ℕ → ListChange

-- the user has an entry
abbrev pub IsListed : List Entry → ℕ → Type 0
IsListed es user = (e : Entry) × (entry_of es user ≡ Some e)

-- What an author may make of a set: the author is in it, a user who is added isn't, and a user who is
-- dropped is in it and isn't the author.
abbrev pub FitsChange : List Entry → ℕ → ListChange → Type 0
FitsChange es author stays = IsListed es author
FitsChange es author (adds e) = IsListed es author × (entry_of es e.user ≡ None)
FitsChange es author (drops user) = IsListed es author × IsListed es user × (user ≢ author)

-- the entry, with this next number where it is this user's
abbrev pub numbered : ℕ → ℕ → Entry → Entry
numbered user next e = if nat_eq e.user user then (record e { next = next }) else e

-- the set in which this user's entry has this next number
abbrev pub with_next : ℕ → ℕ → List Entry → List Entry
with_next user next es = map (numbered user next) es

-- the set with this entry
abbrev pub with_entry : Entry → List Entry → List Entry
with_entry e es = smaller e.user es ++ e ∷ [] ++ greater e.user es

-- the set without this user's entry
abbrev pub without : ℕ → List Entry → List Entry
without user es = filter (λ (e : Entry). not (nat_eq e.user user)) es

abbrev pub change_by : ListChange → List Entry → List Entry
change_by stays es = es
change_by (adds e) es = with_entry e es
change_by (drops user) es = without user es

-- The set that an operation leaves: its author's next number is set, and then the change is made.
abbrev pub changed_set : List Entry → ℕ → ℕ → ListChange → List Entry
changed_set es author next change = change_by change (with_next author next es)

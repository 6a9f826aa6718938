-- Which nodes of a pruned list a change enters, and what is left where the others are hidden. d is the digest of
-- strings.
use Rattle.std.specs.Prelude.{◌≡◌, ℕ, Bool, true, List, [], ◌∷◌, ◌++◌, nat_lt, nat_eq, if◌then◌else◌}
use Rattle.std.specs.List.{AllByRecursion}
use Rattle.fr_digest.specs.Digest.{Digest}
use Rattle.tree_model.specs.AccessList.{is_above, node_text, ListChange, stays, adds, drops}
use Rattle.pruned_list.specs.PrunedList.{PrunedList, absent, hidden, node, part_digest}

-- ---- the users of the nodes that are entered

-- by the search for a user, and by splitting at the user
unfoldable pub path : ℕ → PrunedList → List ℕ
path u absent = []
path u (hidden x) = []
path u (node e l r) = e.user ∷ (if nat_eq u e.user then [] else (if nat_lt u e.user then path u l else path u r))

-- by joining a left part whose top has this user with a right one, where `onto` tells it of the left part's own
-- right part
unfoldable pub under_users : ℕ → (PrunedList → List ℕ) → PrunedList → List ℕ
under_users u onto absent = []
under_users u onto (hidden y) = []
under_users u onto (node f m q) =
    u ∷ (f.user ∷ (if is_above f.user u then under_users u onto m else onto (node f m q)))

-- by joining a left and a right part
unfoldable pub join_users : PrunedList → PrunedList → List ℕ
join_users absent b = []
join_users (hidden x) b = []
join_users (node e l r) b = under_users e.user (λ c. join_users r c) b

-- by the removal of a user
unfoldable pub removal : ℕ → PrunedList → List ℕ
removal u absent = []
removal u (hidden x) = []
removal u (node e l r) =
    e.user ∷ (if nat_eq u e.user then join_users l r else (if nat_lt u e.user then removal u l else removal u r))

-- By what an operation of this author makes of the list. An insertion follows the search path of the new user to
-- its end.
abbrev pub entered : ℕ → ListChange → PrunedList → List ℕ
entered author stays p = path author p
entered author (adds e) p = path author p ++ path e.user p
entered author (drops user) p = path author p ++ removal user p

-- ---- what is kept

-- each of the users is kept
abbrev pub Keeps : (ℕ → Bool) → List ℕ → Type 0
Keeps keep users = AllByRecursion (λ (u : ℕ). keep u ≡ true) users

-- The list with the nodes of these users kept, and each other one hidden with all below it.
unfoldable pub kept : Digest → (ℕ → Bool) → PrunedList → PrunedList
kept d keep absent = absent
kept d keep (hidden x) = hidden x
kept d keep (node e l r) =
    if keep e.user
    then node e (kept d keep l) (kept d keep r)
    else hidden (d (node_text e (part_digest d l) (part_digest d r)))

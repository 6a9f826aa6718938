-- What compared things have in common where those that are compared before them agree: so that a difference gives two
-- strings of one digest.
use Rattle.std.specs.Prelude.{◌≡◌, ◌<◌, true, List, [], ◌∷◌, length}
use Rattle.fr_digest.specs.Digest.{Digest}
use Rattle.tree_model.specs.AccessList.{IsRising}
use Rattle.tree_model.specs.AccessList.{dict as set_root}
use Rattle.tree_model.specs.History.{root_of_all}
use Rattle.hist_proof.specs.Pruned.{digest_of, fits}
use Rattle.pruned_list.specs.PrunedList as lists_digest
use Rattle.world_audit.specs.Comparisons.{Agrees, Comparison, dict, lists, tree}

-- The tree is one of the list's length and has its root; both lists are of one length and root; or the access list has
-- the digest of the entries, whose users rise.
unfoldable pub IsReady : Digest → Comparison → Type 0
IsReady d (tree p texts) = (fits p (length texts) ≡ true) × (digest_of d p ≡ root_of_all d texts)
IsReady d (lists a b) = (0 < length a) × (length a ≡ length b) × (root_of_all d a ≡ root_of_all d b)
IsReady d (dict p entries) = (0 < length entries) × IsRising entries × (lists_digest.digest_of d p ≡ set_root d entries)

-- Each of them is so where those before it agree.
unfoldable pub AreReady : Digest → List Comparison → Type 0
AreReady d [] = Unit {0}
AreReady d (c ∷ cs) = IsReady d c × (Agrees d c → AreReady d cs)

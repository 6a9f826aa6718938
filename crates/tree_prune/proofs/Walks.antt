-- The nodes that an operation enters and those that are kept, step by step.
use Rattle.std.proofs.Common.{◌≡◌, ℕ, ◌<◌, [], ◌∷◌, ◌++◌, List, Bool, true, false, Some, refl, sym, ap, append_assoc, ◌∙◌, ◌≤◌, arith}
use Rattle.std.proofs.lemmas.Bool.{eq-eqb, le-ltb, lt-ltb, ne_eqb}
use Rattle.std.proofs.lemmas.List.{append-nil}
use Rattle.fr_digest.specs.Digest.{Digest}
use Rattle.tree_model.specs.declared.entry.Entry.{Entry}
use Rattle.tree_model.specs.AccessList.{ListChange, adds, drops, stays, is_above, node_text}
use Rattle.pruned_list.specs.PrunedList.{PrunedList, absent, hidden, node, part_digest, levels}
use Rattle.pruned_list.specs.Kept.{entered, join_users, kept, path, removal, under_users}
use Rattle.dict_proof.proofs.Views.{list_views}
use Rattle.dict_treap.specs.Treap.{left_of, right_of}
use Rattle.tree_prune.specs.LeastList.{changed_users}

below-ne : (u v : ℕ) → u < v → u ≡ v → ⊥
below-ne u v less same = omega arith

above-ne : (u v : ℕ) → v < u → u ≡ v → ⊥
above-ne u v more same = omega arith

pub path-absent : (u : ℕ) → path u absent ≡ []
unfolding path
path-absent u = refl

pub path-here : (u : ℕ) (e : Entry) (l r : PrunedList) → u ≡ e.user → path u (node e l r) ≡ e.user ∷ []
unfolding path
path-here u e l r same = rw (eq-eqb u e.user same) refl

pub path-left : (u : ℕ) (e : Entry) (l r : PrunedList) → u < e.user → path u (node e l r) ≡ e.user ∷ path u l
unfolding path
path-left u e l r less = rw (ne_eqb u e.user (below-ne u e.user less), lt-ltb u e.user less) refl

pub path-right : (u : ℕ) (e : Entry) (l r : PrunedList) → e.user < u → path u (node e l r) ≡ e.user ∷ path u r
unfolding path
path-right u e l r more = rw (ne_eqb u e.user (above-ne u e.user more), le-ltb u e.user (omega arith)) refl

pub join_users-absent : (b : PrunedList) → join_users absent b ≡ []
unfolding join_users
join_users-absent b = refl

pub join_users-absent_right : (p : PrunedList) → join_users p absent ≡ []
unfolding join_users under_users
join_users-absent_right absent = refl
join_users-absent_right (hidden x) = refl
join_users-absent_right (node e l r) = refl

pub join_users-greater : (e : Entry) (l r : PrunedList) (f : Entry) (m q : PrunedList)
    → is_above f.user e.user ≡ true
    → join_users (node e l r) (node f m q) ≡ e.user ∷ (f.user ∷ join_users (node e l r) m)
unfolding join_users under_users
join_users-greater e l r f m q above = rw above refl

pub join_users-smaller : (e : Entry) (l r : PrunedList) (f : Entry) (m q : PrunedList)
    → is_above f.user e.user ≡ false
    → join_users (node e l r) (node f m q) ≡ e.user ∷ (f.user ∷ join_users r (node f m q))
unfolding join_users under_users
join_users-smaller e l r f m q below = rw below refl

pub removal-absent : (u : ℕ) → removal u absent ≡ []
unfolding removal
removal-absent u = refl

pub removal-here : (u : ℕ) (e : Entry) (l r : PrunedList) → u ≡ e.user
    → removal u (node e l r) ≡ e.user ∷ join_users l r
unfolding removal
removal-here u e l r same = rw (eq-eqb u e.user same) refl

pub removal-left : (u : ℕ) (e : Entry) (l r : PrunedList) → u < e.user
    → removal u (node e l r) ≡ e.user ∷ removal u l
unfolding removal
removal-left u e l r less = rw (ne_eqb u e.user (below-ne u e.user less), lt-ltb u e.user less) refl

pub removal-right : (u : ℕ) (e : Entry) (l r : PrunedList) → e.user < u
    → removal u (node e l r) ≡ e.user ∷ removal u r
unfolding removal
removal-right u e l r more = rw (ne_eqb u e.user (above-ne u e.user more), le-ltb u e.user (omega arith)) refl

pub kept-absent : (d : Digest) (keep : ℕ → Bool) → kept d keep absent ≡ absent
unfolding kept
kept-absent d keep = refl

pub kept-shown : (d : Digest) (keep : ℕ → Bool) (e : Entry) (l r : PrunedList) → keep e.user ≡ true
    → kept d keep (node e l r) ≡ node e (kept d keep l) (kept d keep r)
unfolding kept
kept-shown d keep e l r is = rw is refl

pub kept-hidden : (d : Digest) (keep : ℕ → Bool) (e : Entry) (l r : PrunedList) (x : List ℕ) → keep e.user ≡ false
    → part_digest d (node e l r) ≡ Some x → kept d keep (node e l r) ≡ hidden x
unfolding kept part_digest
kept-hidden d keep e l r x is digest = let same : d (node_text e (part_digest d l) (part_digest d r)) ≡ x = cc in rw (is, same) refl

pub levels-left : (e : Entry) (l r : PrunedList) → levels l < levels (node e l r)
unfolding levels
levels-left e l r = omega arith

pub levels-right : (e : Entry) (l r : PrunedList) → levels r < levels (node e l r)
unfolding levels
levels-right e l r = omega arith

-- the author's path, and behind it what the change enters
pub entered-is : (author : ℕ) (change : ListChange) (p : PrunedList)
    → entered author change p ≡ path author p ++ changed_users change p
entered-is author stays p = sym (append-nil (path author p))
entered-is author (adds e) p = refl
entered-is author (drops u) p = refl

-- ---- users that are appended

pub walk-none : (old whole : List ℕ) → whole ≡ [] → old ≡ old ++ whole
walk-none old whole is = rw is (sym (append-nil old))

pub walk : (old here new rest whole : List ℕ) (u : ℕ) → here ≡ old ++ (u ∷ []) → new ≡ here ++ rest → whole ≡ u ∷ rest
    → new ≡ old ++ whole
walk old here new rest whole u pushed walked is = rw (walked, pushed, is) (append_assoc old (u ∷ []) rest)

pub walk-two : (old here next new rest whole : List ℕ) (u v : ℕ) → here ≡ old ++ (u ∷ []) → next ≡ here ++ (v ∷ [])
    → new ≡ next ++ rest → whole ≡ u ∷ (v ∷ rest) → new ≡ old ++ whole
walk-two old here next new rest whole u v pushed pushed' walked is =
    rw (walked, pushed', pushed, is)
    (append_assoc (old ++ (u ∷ [])) (v ∷ []) rest ∙ append_assoc old (u ∷ []) (v ∷ rest))

above-lt : (u v : ℕ) → (u ≡ v → ⊥) → v ≤ u → v < u
above-lt u v apart le = omega arith

-- ---- the same of what a node's calls tell

module _ (u : ℕ) (e : Entry) (p : PrunedList) (is : p ≡ node e (left_of p) (right_of p)) where
  pub path-at_left : (l : PrunedList) → l ≡ left_of p → u < e.user → path u p ≡ e.user ∷ path u l
  path-at_left l left less =
      ap (path u) is ∙ path-left u e (left_of p) (right_of p) less
      ∙ ap (λ (x : PrunedList). e.user ∷ path u x) (sym left)

  pub path-at_right : (r : PrunedList) → r ≡ right_of p → (u ≡ e.user → ⊥) → e.user ≤ u → path u p ≡ e.user ∷ path u r
  path-at_right r right apart le =
      ap (path u) is ∙ path-right u e (left_of p) (right_of p) (above-lt u e.user apart le)
      ∙ ap (λ (x : PrunedList). e.user ∷ path u x) (sym right)

  pub removal-at : (l r : PrunedList) → l ≡ left_of p → r ≡ right_of p → u ≡ e.user
      → removal u p ≡ e.user ∷ join_users l r
  removal-at l r left right same =
      ap (removal u) is ∙ removal-here u e (left_of p) (right_of p) same
      ∙ ap (λ (x : PrunedList). e.user ∷ join_users x (right_of p)) (sym left)
      ∙ ap (λ (x : PrunedList). e.user ∷ join_users l x) (sym right)

  pub removal-at_left : (l : PrunedList) → l ≡ left_of p → u < e.user → removal u p ≡ e.user ∷ removal u l
  removal-at_left l left less =
      ap (removal u) is ∙ removal-left u e (left_of p) (right_of p) less
      ∙ ap (λ (x : PrunedList). e.user ∷ removal u x) (sym left)

  pub removal-at_right : (r : PrunedList) → r ≡ right_of p → (u ≡ e.user → ⊥) → e.user ≤ u
      → removal u p ≡ e.user ∷ removal u r
  removal-at_right r right apart le =
      ap (removal u) is ∙ removal-right u e (left_of p) (right_of p) (above-lt u e.user apart le)
      ∙ ap (λ (x : PrunedList). e.user ∷ removal u x) (sym right)

module _ (s g : PrunedList) (e f : Entry) (s-is : s ≡ node e (left_of s) (right_of s)) (g-is : g ≡ node f (left_of g) (right_of g)) where
  nodes : join_users s g ≡ join_users (node e (left_of s) (right_of s)) (node f (left_of g) (right_of g))
  nodes =
      ap (λ (x : PrunedList). join_users x g) s-is
      ∙ ap (λ (x : PrunedList). join_users (node e (left_of s) (right_of s)) x) g-is

  pub join-at_greater : (l : PrunedList) → l ≡ left_of g → is_above f.user e.user ≡ true
      → join_users s g ≡ e.user ∷ (f.user ∷ join_users s l)
  join-at_greater l left above =
      nodes ∙ join_users-greater e (left_of s) (right_of s) f (left_of g) (right_of g) above
      ∙ ap (λ (x : PrunedList). e.user ∷ (f.user ∷ join_users x (left_of g))) (sym s-is)
      ∙ ap (λ (x : PrunedList). e.user ∷ (f.user ∷ join_users s x)) (sym left)

  pub join-at_smaller : (r : PrunedList) → r ≡ right_of s → is_above f.user e.user ≡ false
      → join_users s g ≡ e.user ∷ (f.user ∷ join_users r g)
  join-at_smaller r right below =
      nodes ∙ join_users-smaller e (left_of s) (right_of s) f (left_of g) (right_of g) below
      ∙ ap (λ (x : PrunedList). e.user ∷ (f.user ∷ join_users (right_of s) x)) (sym g-is)
      ∙ ap (λ (x : PrunedList). e.user ∷ (f.user ∷ join_users x g)) (sym right)

pub ruleset path_steps = (path-absent, path-here, path-left, path-right)

pub ruleset join_steps = (join_users-absent, join_users-absent_right, join_users-greater, join_users-smaller, levels-left, levels-right)

pub ruleset removal_steps = (removal-absent, removal-here, removal-left, removal-right)

pub ruleset entered_steps = (entered-is)

pub ruleset kept_steps = (list_views, kept-absent, kept-shown, kept-hidden)

-- Nothing stands in the way of a leaf of an honest wall at its place.
use Rattle.std.proofs.Common.{◌≡◌, ◌⊎◌, inl, inr, ℕ, ◌+◌, ◌<◌, ◌≤◌, Bool, true, List, length, take, map, Option, Some, None, refl, ap, sym, ◌∙◌, arith}
use Rattle.std.specs.Prelude.{slice_get, IsSome, option_and_then}
use Rattle.std.specs.List.{take-map}
use Rattle.std.specs.Option.{option_map}
use Rattle.std.proofs.lemmas.Bool.{cases_lt, lt-ltb, le-ltb}
use Rattle.std.proofs.lemmas.List.{length-map, length-take-le, take-take}
use Rattle.fr_bytes.specs.Bytes.{Text}
use Rattle.fr_digest.specs.Digest.{Digest}
use Rattle.op_types.specs.declared.op.Leaf.{Leaf}
use Rattle.op_types.specs.declared.view.View.{View}
use Rattle.op_types.specs.Kinds.{changed_user}
use Rattle.op_types.specs.Spelling.{leaf_text}
use Rattle.tree_model.specs.declared.entry.Entry.{Entry}
use Rattle.tree_model.specs.AccessList.{IsRising, entry_of}
use Rattle.tree_model.specs.History.{root, root_of_all}
use Rattle.hist_proof.specs.Pruned.{Tree, Prunes, at, cut}
use Rattle.hist_proof.specs.Pruned as trees
use Rattle.hist_proof.proofs.Trees.{prunes-cut, prunes-digest}
use Rattle.pruned_list.specs.PrunedList.{PrunedList, PrunesDict, Sought, hid, found, changed, seek}
use Rattle.pruned_list.specs.PrunedList as lists
use Rattle.pruned_list.proofs.Changes.{changed-prunes}
use Rattle.pruned_list.proofs.Prunings.{digest-dict}
use Rattle.dict_proof.proofs.Prunings.{finds}
use Rattle.wall_law.specs.declared.state.State.{State}
use Rattle.wall_law.specs.State.{after, change_of, state_of}
use Rattle.wall_law.specs.Lawful.{ComesNext, told_of}
use Rattle.wall_law.specs.Position.{PositionPasses, is_root, is_seen}
use Rattle.wall_law.proofs.Extensions.{lawful_at-next}
use Rattle.wall_law.proofs.Histories.{state_of-rising}
use Rattle.wall_law.proofs.Owners.{law-fits}
use Rattle.wall_law.proofs.Positions.{next-passes}
use Rattle.signed_ops.specs.Signed.{is_author_signed, is_view_signed}
use Rattle.check_rules.specs.declared.known.Known.{Known}
use Rattle.check_rules.specs.Verdict.{finding, looked, looked_user}
use Rattle.check_rules.proofs.Tests.{is-root}
use Rattle.honest_replies.specs.HonestNews.{IsHonest, ProvesAt, texts_of}
use Rattle.honest_replies.proofs.Lists.{all-at, below-at, some-is}

-- ---- look-ups

looked-found : (s : Sought) (e : Option Entry) → (s ≡ hid) ⊎ (s ≡ found e) → IsSome (looked s) → looked s ≡ Some e
looked-found hid e (inl is) some = absurd cc
looked-found hid e (inr is) some = absurd cc
looked-found (found o) e (inl is) some = absurd cc
looked-found (found o) e (inr is) some = let same : o ≡ e = cc in ap (λ x. Some x) same

-- the look-up of a user finds what the entries have, and of nobody nothing
user-found : (d : Digest) (p : PrunedList) (E : List Entry) (user : Option ℕ) → IsRising E → PrunesDict d p E
    → IsSome (looked_user p user) → looked_user p user ≡ Some (option_and_then (λ u. entry_of E u) user)
user-found d p E None rising prunes some = refl
user-found d p E (Some u) rising prunes some = looked-found (seek p u) (entry_of E u) (finds d p E u rising prunes) some

-- ---- roots

-- a version of a front is that of the whole
pub root-front : (d : Digest) (L : List Leaf) (k v : ℕ) → v ≤ k → root d (texts_of (take k L)) v ≡ root d (texts_of L) v
unfolding root
root-front d L k v le =
    ap (root_of_all d) (take-map leaf_text v (take k L) ∙ ap (map leaf_text) (take-take v k L le) ∙ sym (take-map leaf_text v L))

-- where there is a cut, it has the version's root
pub at-cut : (d : Digest) (tree : Tree) (L : List Leaf) (v : ℕ) → Prunes d tree (texts_of L)
    → IsSome (cut tree (length L) v) → at d tree (length L) v ≡ Some (root d (texts_of L) v)
unfolding at root
at-cut d tree L v prunes some =
    let it = some-is (cut tree (length L) v) some in
    let size : length L ≡ length (texts_of L) = sym (length-map L leaf_text) in
    let front = prunes-cut d tree (texts_of L) v it.0 prunes (ap (λ n. cut tree n v) (sym size) ∙ it.1) in
    ap (option_map (trees.digest_of d)) it.1 ∙ ap (λ x. Some x) (prunes-digest d it.0 (take v (texts_of L)) front)

-- ---- one place

module _ (d : Digest) (known : Known) (L : List Leaf) (honest : IsHonest d known L) (tree : Tree) (prunes : Prunes d tree (texts_of L)) where
  abbrev before : ℕ → State
  before k = state_of known.owner (take k L)

  seen-on : (root_at : ℕ → Option Text) (signed : View → Bool) (view : View)
      → (0 < view.size → is_root (root_at view.size) view.root ≡ true) → (0 < view.size → signed view ≡ true)
      → is_seen root_at signed view ≡ true
  seen-on root_at signed view same is = elim (cases_lt 0 view.size) [
    | inl some ↦ rw (lt-ltb 0 view.size some, same some, is some) refl
    | inr none ↦ rw (le-ltb 0 view.size none) refl
  ]

  view-seen : (k : ℕ) (l : Leaf) → slice_get L k ≡ Some l
      → (0 < l.op.view.size → IsSome (cut tree (length L) l.op.view.size))
      → is_seen (at d tree (length L)) (is_view_signed known.server) l.op.view ≡ true
  view-seen k l here embeds =
      let below = below-at L k l here in
      let size : length (take k L) ≡ k = length-take-le k L (omega arith) in
      seen-on (at d tree (length L)) (is_view_signed known.server) l.op.view
      (λ some.
      let seen = honest.seen k l here some in
      let within : l.op.view.size ≤ k = (let it = seen.within in omega arith) in
      is-root (at d tree (length L) l.op.view.size) l.op.view.root
      (at-cut d tree L l.op.view.size prunes (embeds some)
      ∙ ap (λ x. Some x) (sym (seen.same ∙ root-front d L k l.op.view.size within))))
      (λ some. (honest.seen k l here some).signed)

  pub comes-next : (k : ℕ) (l : Leaf) → slice_get L k ≡ Some l → ComesNext d (before k) known.wall k l
  comes-next k l here = (lawful_at-next d known.owner known.wall L k l here).0 (honest.lawful k l here)

  pub passes-at : (k : ℕ) (l : Leaf) (p : PrunedList) → slice_get L k ≡ Some l
      → (0 < l.op.view.size → IsSome (cut tree (length L) l.op.view.size))
      → ProvesAt d known.owner L k l p
      → PositionPasses (told_of d (before k)) known.wall k l (finding d known tree (length L) p l)
  passes-at k l p here embeds proves =
      let rising = state_of-rising known.owner (take k L) in
      let next = comes-next k l here in
      let made = some-is (changed p l.op.author (l.op.seq + 1) (change_of l.op.kind)) proves.carried in
      let leaves = changed-prunes d p (before k).entries l.op.author (l.op.seq + 1) (change_of l.op.kind) made.0 rising
      (law-fits (before k) known.wall k l.op next.0) proves.prunes made.1 in
      next-passes d (before k) known.wall k l (finding d known tree (length L) p l)
      (record {
        author = user-found d p (before k).entries (Some l.op.author) rising proves.prunes proves.author;
        changed = user-found d p (before k).entries (changed_user l.op.kind) rising proves.prunes proves.changed_user;
        after = ap (option_map (lists.digest_of d)) made.1
            ∙ ap (λ x. Some x) (digest-dict d made.0 (after (before k) l.op).entries leaves);
      })
      (all-at (λ (x : Leaf). is_author_signed known.users x.op ≡ true) L k l honest.signed here)
      (digest-dict d p (before k).entries proves.prunes)
      (view-seen k l here embeds) next

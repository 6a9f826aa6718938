-- Replies that show a wall, or its changes, aren't too long.
use Rattle.std.proofs.Common.{◌≡◌, ℕ, zero, suc, ◌+◌, ◌-◌, ◌*◌, ◌^◌, ◌<◌, ◌≤◌, Bool, true, false, List, [], ◌∷◌, ◌++◌, length, get_or, map, Some, refl, ap, sym, subst, ◌∙◌, arith}
use Rattle.std.specs.Prelude.{nat_lt, slice_get}
use Rattle.std.specs.Int.{w32, w64, to_be_bytes}
use Rattle.std.specs.List.{AllByRecursion, flat_map}
use Rattle.std.proofs.lemmas.Bool.{lt-ltb}
use Rattle.fr_bytes.specs.Bytes.{Text, counted}
use Rattle.fr_bytes.specs.Parts.{IsLimited, counted_bytes, spelled_optional, fit_optional}
use Rattle.fr_bytes.proofs.Limits.{limited_counted, limited_joined, limited_none, limited_number32, limited_number64, limited_one, limited_optional, limited_wider}
use Rattle.fr_digest.specs.Digest.{Digest}
use Rattle.op_types.specs.declared.op.Leaf.{Leaf}
use Rattle.op_types.specs.declared.view.View.{View}
use Rattle.op_types.specs.Spelling.{IsSigned, IsView, is_signed, no_root, signed_text, view_text}
use Rattle.pruned_list.specs.PrunedList.{PrunedList}
use Rattle.dict_proof.specs.Spelling.{IsSpelled, list_text}
use Rattle.msg_form.specs.declared.message.Reply.TheVariants.{KeyOps, Show}
use Rattle.msg_form.specs.declared.message.TheConstants.{REPLY_BYTES_MAX}
use Rattle.msg_form.specs.declared.tags.TheConstants.{KEY_OPS_TAG, SHOW_TAG}
use Rattle.msg_form.specs.Formats.{shown}
use Rattle.msg_form.specs.Messages.{IsReply, reply_text}
use Rattle.honest_replies.specs.HonestNews.{ProvesAt}
use Rattle.honest_replies.specs.HonestReply.{FewEntries}
use Rattle.hall_replies.specs.Shown.{IsShow, SpellProofs}
use Rattle.hall_replies.proofs.ListTexts.{list-limited}

-- ---- parts

signed-limited : (p : Text × Text) → IsSigned p → IsLimited 9360 (signed_text p)
signed-limited p h = limited_joined 32 9328 p.0 (counted p.1) (omega (arith, h.0.0), h.0.1) (limited_counted 9324 p.1 h.1)

view-limited : (v : View) → IsView v.wall v → IsLimited 9368 (view_text v)
view-limited v h = limited_joined 8 9360 (to_be_bytes w64 v.size)
    (spelled_optional (is_signed v.size) signed_text (v.root, v.sig)) (limited_number64 v.size)
    (limited_optional 9360 (is_signed v.size) (no_root, []) IsSigned signed_text signed-limited (v.root, v.sig) h.signed)

texts-limited : (texts : List Text) → AllByRecursion (IsLimited 1056) texts → IsLimited (1060 * length texts) (flat_map counted texts)
texts-limited [] each = limited_none 0
texts-limited (t ∷ texts) each =
    limited_wider (1060 + 1060 * length texts) (1060 * length (t ∷ texts)) (flat_map counted (t ∷ texts)) (omega arith)
    (limited_joined 1060 (1060 * length texts) (counted t) (flat_map counted texts) (limited_counted 1056 t each.0) (texts-limited texts each.1))

both-limited : (tree : Text) (texts : List Text) → IsLimited 20265983 tree → AllByRecursion (IsLimited 1056) texts → length texts ≤ 1024
    → IsLimited 21351427 (counted tree ++ flat_map counted texts)
both-limited tree texts small each few =
    limited_joined 20265987 1085440 (counted tree) (flat_map counted texts) (limited_counted 20265983 tree small)
    (limited_wider (1060 * length texts) 1085440 (flat_map counted texts) (omega arith) (texts-limited texts each))

shown-limited : (count : ℕ) (tree : Text) (texts : List Text) → IsLimited 21351427 (counted tree ++ flat_map counted texts)
    → IsLimited 21351427 ((shown count).text (tree, texts))
shown-limited count tree texts h = chosen (nat_lt 0 count) where
  chosen : (b : Bool) → IsLimited 21351427 (spelled_optional b (λ (x : Text × List Text). counted x.0 ++ flat_map counted x.1) (tree, texts))
  chosen true = h
  chosen false = limited_none 21351427

-- ---- a reply that shows a wall

show-limited : (view : View) (from : ℕ) (tree : Text) (texts : List Text) → IsView view.wall view
    → IsLimited 21351427 (counted tree ++ flat_map counted texts)
    → length (reply_text (Show view from tree texts)) ≤ REPLY_BYTES_MAX
show-limited view from tree texts h small =
    let last = (shown (view.size - from)).text (tree, texts) in
    let all = limited_one 21360807 SHOW_TAG (to_be_bytes w32 view.wall ++ (view_text view ++ (to_be_bytes w64 from ++ last))) (omega arith)
    (limited_joined 4 21360803 (to_be_bytes w32 view.wall) (view_text view ++ (to_be_bytes w64 from ++ last)) (limited_number32 view.wall)
    (limited_joined 9368 21351435 (view_text view) (to_be_bytes w64 from ++ last) (view-limited view h)
    (limited_joined 8 21351427 (to_be_bytes w64 from) last (limited_number64 from) (shown-limited (view.size - from) tree texts small)))) in
    omega (arith, all.0)

counted-fits : (texts : List Text) → AllByRecursion (IsLimited 1056) texts → AllByRecursion counted_bytes.fits texts
counted-fits [] each = tt
counted-fits (t ∷ texts) each = ((omega (arith, each.0.0), each.0.1), counted-fits texts each.1)

fits-some : (count : ℕ) (tree : Text) (texts : List Text) → 0 < count → length texts ≡ count → IsLimited 20265983 tree
    → AllByRecursion (IsLimited 1056) texts → (shown count).fits (tree, texts)
fits-some count tree texts some size small each =
    let there : true ≡ nat_lt 0 count = sym (lt-ltb 0 count some) in
    subst (λ (b : Bool). fit_optional b ([], []) (λ (x : Text × List Text). counted_bytes.fits x.0 × ((length x.1 ≡ count) × AllByRecursion counted_bytes.fits x.1)) (tree, texts)) there
    ((omega (arith, small.0), small.1), (size, counted-fits texts each))

pub is-show : (view : View) (from : ℕ) (tree : Text) (texts : List Text) → IsView view.wall view → from < view.size
    → view.size ≤ 1024 → from + length texts ≡ view.size → IsLimited 20265983 tree → AllByRecursion (IsLimited 1056) texts
    → IsShow view from tree texts
is-show view from tree texts is less few count small each = record {
  is_view = is;
  within = omega arith;
  parts = fits-some (view.size - from) tree texts (omega arith) (omega arith) small each;
  short = show-limited view from tree texts is (both-limited tree texts small each (omega arith));
}

pub is-bare : (view : View) → IsView view.wall view → IsShow view view.size [] []
is-bare view is = record {
  is_view = is;
  within = omega arith;
  parts = fits-none (view.size - view.size) (omega arith);
  short = show-limited view view.size [] [] is (limited_wider 4 21351427 (counted [] ++ []) (omega arith)
      (limited_joined 4 0 (counted []) [] (limited_counted 0 [] (limited_none 0)) (limited_none 0)));
} where
  fits-none : (count : ℕ) → count ≡ 0 → (shown count).fits ([], [])
  fits-none count none = let there : 0 ≡ count = sym none in subst (λ (n : ℕ). (shown n).fits ([], [])) there refl

-- ---- a reply with the changes

pub key-ops-short : (wall size : ℕ) (tree : Text) → IsLimited 20265983 tree
    → length (reply_text (KeyOps wall size tree)) ≤ REPLY_BYTES_MAX
key-ops-short wall size tree small =
    let all = limited_one 20265999 KEY_OPS_TAG (to_be_bytes w32 wall ++ (to_be_bytes w64 size ++ counted tree)) (omega arith)
    (limited_joined 4 20265995 (to_be_bytes w32 wall) (to_be_bytes w64 size ++ counted tree) (limited_number32 wall)
    (limited_joined 8 20265987 (to_be_bytes w64 size) (counted tree) (limited_number64 size) (limited_counted 20265983 tree small))) in
    omega (arith, all.0)

-- ---- the lists that are spelled

module _ (d : Digest) (owner : ℕ) (L : List Leaf) where
  pub proofs-limited : (k : ℕ) (texts : List Text) → SpellProofs d owner L k texts → AllByRecursion (IsLimited 1056) texts
  proofs-limited k [] each = tt
  proofs-limited k (t ∷ texts) each =
      let it = each.0 in
      let bytes = (list-limited it.list it.spells.is_spelled.ranges).1 in
      ((omega (arith, it.short), subst (λ (x : Text). (i : ℕ) → get_or x i 0 < 256) (sym it.spells.text) bytes), proofs-limited (k + 1) texts each.1)

  pub lists_in : (k : ℕ) (texts : List Text) → SpellProofs d owner L k texts → List PrunedList
  lists_in k [] each = []
  lists_in k (t ∷ texts) each = each.0.list ∷ lists_in (k + 1) texts each.1

  pub lists-length : (k : ℕ) (texts : List Text) (each : SpellProofs d owner L k texts) → length (lists_in k texts each) ≡ length texts
  unfolding lists_in
  lists-length k [] each = refl
  lists-length k (t ∷ texts) each = ap suc (lists-length (k + 1) texts each.1)

  pub lists-texts : (k : ℕ) (texts : List Text) (each : SpellProofs d owner L k texts) → map list_text (lists_in k texts each) ≡ texts
  unfolding lists_in
  lists-texts k [] each = refl
  lists-texts k (t ∷ texts) each =
      ap (λ x. x ∷ map list_text (lists_in (k + 1) texts each.1)) (sym each.0.spells.text)
      ∙ ap (λ xs. t ∷ xs) (lists-texts (k + 1) texts each.1)

  pub lists-spelled : (k : ℕ) (texts : List Text) (each : SpellProofs d owner L k texts)
      → AllByRecursion IsSpelled (lists_in k texts each)
  unfolding lists_in
  lists-spelled k [] each = tt
  lists-spelled k (t ∷ texts) each = (each.0.spells.is_spelled, lists-spelled (k + 1) texts each.1)

  pub lists-prove : FewEntries owner L → (k : ℕ) (texts : List Text) (each : SpellProofs d owner L k texts) (i : ℕ) (l : Leaf) (p : PrunedList)
      → slice_get L (k + i) ≡ Some l → slice_get (lists_in k texts each) i ≡ Some p → ProvesAt d owner L (k + i) l p
  unfolding lists_in
  lists-prove few k [] each i l p at here = absurd cc
  lists-prove few k (t ∷ texts) each zero l p at here =
      let e : k + 0 ≡ k = omega arith in
      let own = each.0 in
      let first = ap (slice_get L) (sym e) ∙ at in
      let leaf : own.leaf ≡ l = (let own_at = own.at in cc) in
      let list : own.list ≡ p = cc in
      subst (λ n. ProvesAt d owner L n l p) (sym e)
      (subst (λ x. ProvesAt d owner L k x p) leaf (subst (ProvesAt d owner L k own.leaf) list (own.proves few)))
  lists-prove few k (t ∷ texts) each (suc i) l p at here =
      let e : k + 1 + i ≡ k + suc i = omega arith in
      subst (λ n. ProvesAt d owner L n l p) e
      (lists-prove few (k + 1) texts each.1 i l p (ap (slice_get L) e ∙ at) here)

-- ---- replies

pub is-reply : (view : View) (from : ℕ) (tree : Text) (texts : List Text) → view.wall < 2 ^ 32 → IsShow view from tree texts
    → IsReply (Show view from tree texts)
is-reply view from tree texts wall h = record {
  parts = (wall, (h.is_view, ((omega arith, h.within), h.parts)));
  short = h.short;
}

pub is-key-ops : (wall size : ℕ) (tree : Text) → wall < 2 ^ 32 → 0 < size → size ≤ 1024 → IsLimited 20265983 tree
    → IsReply (KeyOps wall size tree)
is-key-ops wall size tree fits some few small = record {
  parts = (fits, ((omega arith, omega arith), (omega (arith, small.0), small.1)));
  short = key-ops-short wall size tree small;
}

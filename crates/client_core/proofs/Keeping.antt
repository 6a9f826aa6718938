-- What a client keeps of itself stays so, whatever is asked and heard.
use Rattle.std.proofs.Common.{◌≡◌, ◌∙◌, inl, inr, ℕ, suc, ◌+◌, ◌<◌, ◌≤◌, List, [], ◌∷◌, ◌++◌, map, Option, Some, None, Bool, true, false, refl, ap, sym, subst, arith, eq-eqb}
use Rattle.std.specs.Prelude.{if◌then◌else◌, is_some, nat_eq, slice_get, slice_set}
use Rattle.std.specs.List.{AllByRecursion}
use Rattle.std.proofs.lemmas.Bool.{cases_Bool, cond-true, cond-false, ne_eqb, eqb-true}
use Rattle.std.proofs.lemmas.Bool.Decides.{eqb_tells}
use Rattle.fr_bytes.proofs.Lists.{each-append}
use Rattle.fr_digest.specs.Digest.{Digest}
use Rattle.op_types.specs.declared.op.Leaf.{Leaf}
use Rattle.op_types.specs.declared.op.Op.{Op}
use Rattle.op_types.specs.declared.view.View.{View}
use Rattle.lms_tree.specs.Signer.{Signing, public_of}
use Rattle.lms_tree.specs.Valid.{Key}
use Rattle.hist_proof.specs.declared.pruned.Pruned.{Pruned}
use Rattle.hist_proof.specs.Pruned.{Tree}
use Rattle.hist_proof.specs.View.{tree_view}
use Rattle.pruned_list.specs.PrunedList.{PrunedList}
use Rattle.signed_ops.specs.Signed.{key_of, once_more}
use Rattle.fr_bytes.specs.Bytes.{Text}
use Rattle.dict_proof.specs.declared.pruned_dict.PrunedDict.{PrunedDict}
use Rattle.dict_proof.specs.View.{list_view}
use Rattle.check_rules.specs.declared.known.Known.{Known}
use Rattle.check_rules.specs.Accepted.{Accepted}
use Rattle.check_core.specs.declared.checked.Checked.{Checked}
use Rattle.check_core.specs.declared.checked.Checked.TheVariants as answers
use Rattle.world_book.specs.declared.book.UserBook.{UserBook}
use Rattle.world_book.specs.declared.took.Signed.{Signed}
use Rattle.world_book.specs.declared.took.Took.{Took}
use Rattle.world_book.specs.declared.world.WallNote.{WallNote}
use Rattle.world_book.specs.Kept.{IsRecord, IsSigned, KeptBook, known_by, root_of, size_of, view_of}
use Rattle.world_book.specs.Records.{IsIn, last_on, note_of}
use Rattle.world_book.proofs.Books.{took-kept, signed-kept}
use Rattle.world_book.proofs.Chains.{last-in}
use Rattle.world_book.proofs.Places.{fold-last}
use Rattle.client_core.specs.declared.start.SideStart.{SideStart}
use Rattle.client_core.specs.Clients.{AreStarts, ClientView, IsStart, having_sent, having_taken, opening_side, took_of, with_took, opening_keys}
use Rattle.client_core.specs.Keeping.{AreMade, HasKeys, IsMadeOn, IsSound, IsTaken, IsTold, Keeps, note_of_side, notes_of, users_of}
use Rattle.client_core.specs.Keys.{KeysView}
use Rattle.client_core.specs.Sides.{IsSide, SideView, place_of, side_of, with_side}
use Rattle.client_core.specs.Taking.{accepting_all}
use Rattle.client_core.specs.Uses.{IsFitting, IsMade, IsOwners, IsSetting}
use Rattle.client_core.specs.declared.start.Owned.{Owned}
use Rattle.key_graph.specs.declared.change.Setting.{Setting}
use Rattle.client_core.proofs.KeysHeld.{AreKeysOf, accepted-keys, keys-held, keys-setting}
use Rattle.client_core.proofs.Places.{each-found, each-put, found-wall, put-found, put-map, put-other, put-same}

-- ---- the last record of a wall

last-more : (wall : ℕ) (xs : List Took) (t : Took) → last_on wall (xs ++ t ∷ [])
    ≡ (if nat_eq t.wall wall then Some t else last_on wall xs)
last-more wall xs t = fold-last (λ (last : Option Took) (x : Took). if nat_eq x.wall wall then Some x else last)
    None xs t

last-here : (wall : ℕ) (xs : List Took) (t : Took) → t.wall ≡ wall → last_on wall (xs ++ t ∷ []) ≡ Some t
last-here wall xs t e = last-more wall xs t ∙ cond-true (nat_eq t.wall wall) (Some t) (last_on wall xs)
    (eq-eqb t.wall wall e)

last-else : (wall : ℕ) (xs : List Took) (t : Took) → (t.wall ≡ wall → ⊥) → last_on wall (xs ++ t ∷ [])
    ≡ last_on wall xs
last-else wall xs t ne = last-more wall xs t ∙ cond-false (nat_eq t.wall wall) (Some t) (last_on wall xs)
    (ne_eqb t.wall wall ne)

-- ---- the walls' notes and the users

pub noted : (wall : ℕ) (sides : List SideView) (s : SideView) → side_of wall sides ≡ Some s
    → note_of (notes_of sides) wall ≡ Some (note_of_side s)
noted wall [] s e = absurd cc
noted wall (x ∷ sides) s e = by (nat_eq x.known.wall wall) (noted wall sides s) e
  where
    by : (b : Bool) → (side_of wall sides ≡ Some s → note_of (notes_of sides) wall ≡ Some (note_of_side s))
        → slice_get (x ∷ sides) (if b then 0 else suc (place_of wall sides)) ≡ Some s
        → (if b then Some (note_of_side x) else note_of (notes_of sides) wall) ≡ Some (note_of_side s)
    by true rest e' = let same : x ≡ s = cc in ap (λ (y : SideView). Some (note_of_side y)) same
    by false rest e' = rest e'

pub put-users : (wall : ℕ) (t : SideView) (sides : List SideView) (s : SideView) → side_of wall sides ≡ Some s
    → t.known.users ≡ s.known.users
    → users_of (with_side wall t sides) ≡ users_of sides
put-users wall t [] s e h = refl
put-users wall t (x ∷ sides) s e h = by (nat_eq x.known.wall wall) e
  where
    by : (b : Bool) → slice_get (x ∷ sides) (if b then 0 else suc (place_of wall sides)) ≡ Some s
        → users_of (slice_set (x ∷ sides) (if b then 0 else suc (place_of wall sides)) t) ≡ x.known.users
    by true e' = let same : s ≡ x = cc in h ∙ ap (λ (y : SideView). y.known.users) same
    by false e' = refl

all-more : {A : Type 0} (P Q : A → Type 0) (xs : List A) → AllByRecursion P xs → ((x : A) → P x → Q x)
    → AllByRecursion Q xs
all-more P Q [] all f = tt
all-more P Q (x ∷ xs) all f = (f x all.0, all-more P Q xs all.1 f)

-- ---- a side in the place of another

module _ (d : Digest) (c : ClientView) (s t : SideView) (kept : Keeps d c) (found : side_of s.known.wall c.sides
    ≡ Some s)
    (note : note_of_side t ≡ note_of_side s) (users : t.known.users
    ≡ s.known.users) (is_side : IsSide t) (has : HasKeys c.book.user t) where
  abbrev after : List SideView
  after = with_side s.known.wall t c.sides

  wall : t.known.wall ≡ s.known.wall
  wall = ap (λ (n : WallNote). n.wall) note

  same-notes : notes_of after ≡ notes_of c.sides
  same-notes = put-map note_of_side s.known.wall t c.sides s found note

  same-users : users_of after ≡ users_of c.sides
  same-users = put-users s.known.wall t c.sides s found users

  found-in : (P : SideView → Type 0) → P t → ((v : ℕ) (o : SideView) → (v ≡ s.known.wall → ⊥) → side_of v c.sides
      ≡ Some o → P o)
      → (v : ℕ) (o : SideView) → side_of v after ≡ Some o → P o
  found-in P this others v o e = elim (eqb_tells v s.known.wall) [
    | inl is ↦
        let same : t ≡ o =
        let f = sym (put-found s.known.wall t c.sides s found wall) ∙ (ap (λ (w : ℕ). side_of w after) (sym is.1)
        ∙ e) in cc in
        subst P same this
    | inr other ↦ others v o other.1 (sym (put-other s.known.wall v t c.sides wall other.1) ∙ e)
  ]

  listed : (book : UserBook) → book.user ≡ c.book.user → book.key ≡ c.book.key
      → (v : ℕ) (o : SideView) → side_of v c.sides ≡ Some o → key_of o.known.users book.user ≡ Some book.key
  listed book user key v o e = ap (key_of o.known.users) user ∙ (kept.own v o e ∙ ap Some (sym key))

  pub put-keeps : (signer : Signing) (book : UserBook) → book.user ≡ c.book.user → book.key ≡ c.book.key
      → public_of signer.private signer.id signer.pair ≡ public_of c.signer.private c.signer.id c.signer.pair
      → KeptBook d (notes_of c.sides) (users_of c.sides) book
      → (book.rogue ≡ false → IsTold book t)
      → (book.rogue ≡ false → (v : ℕ) (o : SideView) → (v ≡ s.known.wall → ⊥) → side_of v c.sides ≡ Some o
      → IsTold book o)
      → Keeps d (record { signer = signer; sides = after; book = book })
  put-keeps signer book user key public b this others = record {
    each = each-put IsSide s.known.wall t c.sides kept.each is_side;
    users = found-in (λ (o : SideView). o.known.users ≡ users_of after) (users ∙ (kept.users s.known.wall s found
        ∙ sym same-users))
        (λ v o ne e. kept.users v o e ∙ sym same-users);
    book = subst (λ (us : List (ℕ × Key)). KeptBook d (notes_of after) us book) (sym same-users)
        (subst (λ (ns : List WallNote). KeptBook d ns (users_of c.sides) book) (sym same-notes) b);
    key = key ∙ (kept.key ∙ sym public);
    own = found-in (λ (o : SideView). key_of o.known.users book.user ≡ Some book.key)
        (ap (λ (us : List (ℕ × Key)). key_of us book.user) users ∙ listed book user key s.known.wall s found)
        (λ v o ne e. listed book user key v o e);
    keys = found-in (HasKeys book.user) (subst (λ (u : ℕ). HasKeys u t) (sym user) has)
        (λ v o ne e. subst (λ (u : ℕ). HasKeys u o) (sym user) (kept.keys v o e));
    told = λ honest. found-in (IsTold book) (this honest) (others honest);
  }

not-both : {P : Type 0} {b : Bool} → b ≡ true → b ≡ false → P
not-both is isnt = absurd (let f = sym is ∙ isnt in cc)

-- ---- changes that are learnt

same-made : (book : UserBook) (s t : SideView) → AreKeysOf s.keys t.keys → t.known.owner ≡ s.known.owner
    → t.known.wall ≡ s.known.wall
    → AreMade book s → AreMade book t
same-made book s t later owners walls made setting is =
    subst (λ (w : ℕ). AllByRecursion (λ (o : Signed). o.op.wall ≡ w
    → IsMade setting t.known.owner o.op.author o.op.seq o.op.kind) book.signed) (sym walls)
    (subst (λ (of : ℕ). AllByRecursion (λ (o : Signed). o.op.wall ≡ s.known.wall
    → IsMade setting of o.op.author o.op.seq o.op.kind) book.signed) (sym owners)
    (made setting (keys-setting s.keys t.keys setting later is)))

pub keys-keep : (d : Digest) (c : ClientView) (s : SideView) (keys : KeysView) → Keeps d c
    → side_of s.known.wall c.sides ≡ Some s → AreKeysOf s.keys keys
    → Keeps d (record c { sides = with_side s.known.wall (record s { keys = keys }) c.sides })
keys-keep d c s keys kept found later =
    let t : SideView = record s { keys = keys } in
    let side = each-found IsSide s.known.wall c.sides s kept.each found in
    put-keeps d c s t kept found refl refl (record {
      few = side.few;
      view = side.view;
      size = side.size;
      root =
          side.root;
    })
    (keys-held c.book.user s t later refl (kept.keys s.known.wall s found))
    c.signer c.book refl refl refl kept.book
    (λ honest. let told = kept.told honest s.known.wall s found in
    record {
      size = told.size;
      root = told.root;
      made = same-made c.book s t later refl refl told.made;
      later =
          told.later;
    })
    (λ honest v o ne e. kept.told honest v o e)

-- ---- an operation that is sent

-- the operation is the next of a side
pub record IsNext (c : ClientView) (s : SideView) (op : Op) : Type 0 where
  pub author : op.author ≡ c.book.user
  pub wall : op.wall ≡ s.known.wall
  pub seq : op.seq ≡ s.next
  pub view : op.view ≡ s.view
  pub made : IsMadeOn c.book.user s op.kind

module _ (d : Digest) (c : ClientView) (s : SideView) (kept : Keeps d c) (found : side_of s.known.wall c.sides
    ≡ Some s)
    (op : Op) (next : IsNext c s op) where
  side : IsSide s
  side = each-found IsSide s.known.wall c.sides s kept.each found

  abbrev t : SideView
  t = record s { next = s.next + 1 }

  abbrev entry : Signed
  entry = record { user = c.book.user; op = op }

  last-seen : (o : Option Took) → last_on s.known.wall c.book.took ≡ o → IsTold c.book s → 0 < s.known.size
      → (r : Took) × IsIn c.book.took r × (r.wall ≡ s.known.wall) × (r.size ≡ s.known.size) × (r.root ≡ s.known.root)
  last-seen None e told some = let size = told.size ∙ ap size_of e in absurd (omega arith)
  last-seen (Some r) e told some =
      let last = last-in s.known.wall c.book.took r e in
      (r, last.0, last.1, sym (told.size ∙ ap size_of e), sym (told.root some ∙ ap root_of e))

  seen : IsTold c.book s → 0 < op.view.size
      → (r : Took) × IsIn c.book.took r × (r.wall ≡ op.wall) × (r.size ≡ op.view.size) × (r.root ≡ op.view.root)
  seen told some =
      let size : op.view.size ≡ s.known.size = ap (λ (v : View). v.size) next.view ∙ side.size in
      let more : 0 < s.known.size = omega arith in
      let it = last-seen (last_on s.known.wall c.book.took) refl told more in (
        it.0,
        it.1,
        it.2 ∙ sym next.wall,
        it.3 ∙ sym size,
        it.4 ∙ sym (ap (λ (v : View). v.root) next.view
            ∙ side.root more),
      )

  is-signed : IsTold c.book s → IsSigned c.book c.book.signed entry
  is-signed told = record {
    by = refl;
    author = next.author;
    seen = seen told;
    later = all-more (λ (o : Signed). o.op.wall ≡ s.known.wall → o.op.seq < s.next) (λ (o : Signed). o.op.wall
        ≡ op.wall → o.op.seq < op.seq)
        c.book.signed told.later (λ o h e. subst (λ (n : ℕ). o.op.seq < n) (sym next.seq) (h (e ∙ next.wall)));
  }

  abbrev longer : UserBook
  longer = record c.book { signed = c.book.signed ++ entry ∷ [] }

  this-made : (setting : Setting) → IsSetting s.keys setting → IsMade setting s.known.owner op.author op.seq op.kind
  this-made setting is = subst (λ (n : ℕ). IsMade setting s.known.owner op.author n op.kind) (sym next.seq)
      (subst (λ (u : ℕ). IsMade setting s.known.owner u s.next op.kind) (sym next.author) (next.made setting is))

  still-told : (o : SideView) (n : ℕ) → IsTold c.book o → o.next ≤ n → (op.wall ≡ o.known.wall → op.seq < n)
      → (op.wall ≡ o.known.wall → (setting : Setting) → IsSetting o.keys setting
      → IsMade setting o.known.owner op.author op.seq op.kind)
      → IsTold longer (record o { next = n })
  still-told o n told le last new = record {
    size = told.size;
    root = told.root;
    made = λ setting is. each-append (λ (x : Signed). x.op.wall ≡ o.known.wall
        → IsMade setting o.known.owner x.op.author x.op.seq x.op.kind)
        c.book.signed (entry ∷ []) (told.made setting is) ((λ e. new e setting is), tt);
    later = each-append (λ (x : Signed). x.op.wall ≡ o.known.wall → x.op.seq < n) c.book.signed (entry ∷ [])
        (all-more (λ (x : Signed). x.op.wall ≡ o.known.wall → x.op.seq < o.next) (λ (x : Signed). x.op.wall
        ≡ o.known.wall → x.op.seq < n)
        c.book.signed told.later (λ x h e. let less = h e in omega arith))
        (last, tt);
  }

  put : (book : UserBook) → book.user ≡ c.book.user → book.key ≡ c.book.key
      → KeptBook d (notes_of c.sides) (users_of c.sides) book → (book.rogue ≡ false → IsTold book t)
      → (book.rogue ≡ false → (v : ℕ) (o : SideView) → (v ≡ s.known.wall → ⊥) → side_of v c.sides ≡ Some o
      → IsTold book o)
      → Keeps d (record { signer = once_more c.signer; sides = with_side s.known.wall t c.sides; book = book })
  put book user key = put-keeps d c s t kept found refl refl (record {
    few = side.few;
    view = side.view;
    size =
        side.size;
    root = side.root;
  })
      (let has = kept.keys s.known.wall s found in record { owners = has.owners; fit = has.fit })
      (once_more c.signer) book user key refl

  pub sent-keeps : Keeps d (having_sent c s (Some op))
  sent-keeps = elim (cases_Bool c.book.rogue) [
    | inl rogue ↦
        subst (λ (b : UserBook). Keeps d (record {
          signer = once_more c.signer;
          sides = with_side s.known.wall t
              c.sides;
          book = b;
        }))
        (sym (cond-true c.book.rogue c.book longer rogue))
        (put c.book refl refl kept.book (λ honest. not-both rogue honest) (λ honest v o ne e. not-both rogue honest))
    | inr honest ↦
        let told = kept.told honest s.known.wall s found in
        subst (λ (b : UserBook). Keeps d (record {
          signer = once_more c.signer;
          sides = with_side s.known.wall t
              c.sides;
          book = b;
        }))
        (sym (cond-false c.book.rogue c.book longer honest))
        (put longer refl refl (signed-kept d (notes_of c.sides) (users_of c.sides) c.book entry kept.book honest
        (is-signed told))
        (λ h. still-told s (s.next + 1) told (omega arith) (λ e. let same = next.seq in omega arith) (λ e. this-made))
        (λ h v o ne e. still-told o o.next (kept.told honest v o e) (omega arith)
        (λ here. absurd (ne (sym (found-wall v c.sides o e) ∙ (sym here ∙ next.wall))))
        (λ here. absurd (ne (sym (found-wall v c.sides o e) ∙ (sym here ∙ next.wall))))))
  ]

-- ---- a reply that is taken

-- A reply is accepted also by one who knows the epoch not, and a root only of some positions.
moved : (d : Digest) (known : Known) (view : View) (from w : ℕ) (tree : Tree) (lists : List PrunedList)
    (root : Text) → Accepted d known view from tree lists
    → (0 < known.size → known.root ≡ root)
    → Accepted d (record known { root = root; epoch = 0 }) (record {
      wall = w;
      size = view.size;
      root = view.root;
      sig = [];
    }) from tree lists
moved d known view from w tree lists root a same = record {
  later = a.later;
  old = a.old;
  some = a.some;
  fitting = a.fitting;
  shows = a.shows;
  root = a.root;
  extends = λ some. a.extends some ∙ ap Some (same some);
  vouched = a.vouched;
  wall = a.wall;
  positions = a.positions;
}

module _ (d : Digest) (c : ClientView) (s : SideView) (kept : Keeps d c) (found : side_of s.known.wall c.sides
    ≡ Some s)
    (view : View) (from : ℕ) (proof : Pruned) (leaves : List Leaf) (dicts : List PrunedDict)
    (is : IsTaken d s.known view from proof leaves dicts) where
  abbrev u : SideView
  u = accepting_all s view leaves

  later : AreKeysOf s.keys u.keys
  later = accepted-keys s.keys u.known.epoch leaves

  abbrev took : Took
  took = took_of c.book.user s view from proof leaves dicts

  abbrev last : Option Took
  last = last_on s.known.wall c.book.took

  accepted : IsTold c.book s
      → Accepted d (known_by (note_of_side s) (users_of c.sides) last) (view_of took) from (tree_view proof)
      (map list_view dicts)
  accepted told =
      subst (λ (us : List (ℕ × Key)). Accepted d (record s.known {
        users = us;
        size = size_of last;
        root = root_of
            last;
        epoch = 0;
      }) (view_of took) from
      (tree_view proof) (map list_view dicts)) (kept.users s.known.wall s found)
      (subst (λ (n : ℕ). Accepted d (record s.known { size = n; root = root_of last; epoch = 0 }) (view_of took) from
      (tree_view proof) (map list_view dicts)) told.size
      (moved d s.known view from s.known.wall (tree_view proof) (map list_view dicts)
      (root_of last) is.accepted told.root))

  is-record : IsTold c.book s → IsRecord d (notes_of c.sides) (users_of c.sides) c.book.user c.book.took took
  is-record told = record {
    by = refl;
    note = note_of_side s;
    noted = noted s.known.wall c.sides s found;
    have = told.size;
    accepted = accepted told;
    spelled = is.spelled;
    leaves = is.leaves_are;
    lists = is.lists;
  }

  abbrev grown : UserBook
  grown = record c.book { took = c.book.took ++ took ∷ [] }

  this-told : IsTold c.book s → IsTold grown u
  this-told told =
      let here = last-here s.known.wall c.book.took took refl in
      record {
        size = ap size_of (sym here);
        root = λ some. ap root_of (sym here);
        made = same-made c.book s u later refl refl told.made;
        later = told.later;
      }

  other-told : (o : SideView) → (s.known.wall ≡ o.known.wall → ⊥) → IsTold c.book o → IsTold grown o
  other-told o ne told =
      let same = last-else o.known.wall c.book.took took ne in
      record {
        size = told.size ∙ ap size_of (sym same);
        root = λ some. told.root some ∙ ap root_of (sym same);
        made = told.made;
        later = told.later;
      }

  put-u : (book : UserBook) → book.user ≡ c.book.user → book.key ≡ c.book.key
      → KeptBook d (notes_of c.sides) (users_of c.sides) book → (book.rogue ≡ false → IsTold book u)
      → (book.rogue ≡ false → (v : ℕ) (o : SideView) → (v ≡ s.known.wall → ⊥) → side_of v c.sides ≡ Some o
      → IsTold book o)
      → Keeps d (record { signer = c.signer; sides = with_side s.known.wall u c.sides; book = book })
  put-u book user key = put-keeps d c s u kept found refl refl
      (record {
        few = (each-found IsSide s.known.wall c.sides s kept.each found).few;
        view = is.view_is;
        size = refl;
        root = λ some. refl;
      })
      (keys-held c.book.user s u later refl (kept.keys s.known.wall s found)) c.signer book user key refl

  record-keeps : Keeps d (record {
    signer = c.signer;
    sides = with_side s.known.wall u c.sides;
    book = with_took
        c.book took;
  })
  record-keeps = elim (cases_Bool c.book.rogue) [
    | inl rogue ↦
        subst (λ (b : UserBook). Keeps d (record {
          signer = c.signer;
          sides = with_side s.known.wall u c.sides;
          book = b;
        }))
        (sym (cond-true c.book.rogue c.book grown rogue))
        (put-u c.book refl refl kept.book (λ honest. not-both rogue honest) (λ honest v o ne e. not-both rogue honest))
    | inr honest ↦
        let told = kept.told honest s.known.wall s found in
        subst (λ (b : UserBook). Keeps d (record {
          signer = c.signer;
          sides = with_side s.known.wall u c.sides;
          book = b;
        }))
        (sym (cond-false c.book.rogue c.book grown honest))
        (put-u grown refl refl (took-kept d (notes_of c.sides) (users_of c.sides) c.book took kept.book honest
        (is-record told))
        (λ h. this-told told)
        (λ h v o ne e. other-told o (λ here. ne (sym (here ∙ found-wall v c.sides o e))) (kept.told honest v o e)))
  ]

pub taken-keeps : (d : Digest) (c : ClientView) (s : SideView) (checked : Checked) → Keeps d c
    → side_of s.known.wall c.sides ≡ Some s
    → IsSound d s.known checked → Keeps d (having_taken c s checked)
taken-keeps d c s (answers.Same size) kept found is =
    subst (λ (sides : List SideView). Keeps d (record c { sides = sides })) (sym
    (put-same s.known.wall c.sides s found)) kept
taken-keeps d c s (answers.Taken view from proof leaves dicts) kept found is = record-keeps d c s kept found view
    from proof leaves dicts is
taken-keeps d c s (answers.Refused cause number) kept found is =
    subst (λ (sides : List SideView). Keeps d (record c { sides = sides })) (sym
    (put-same s.known.wall c.sides s found)) kept

-- ---- the beginning

all-mapped : {A B : Type 0} (f : A → B) (P : A → Type 0) (Q : B → Type 0) (xs : List A) → AllByRecursion P xs
    → ((x : A) → P x → Q (f x))
    → AllByRecursion Q (map f xs)
all-mapped f P Q [] all h = tt
all-mapped f P Q (x ∷ xs) all h = (h x all.0, all-mapped f P Q xs all.1 h)

users-are : (keys : List (ℕ × Key)) (wall : ℕ) (sides : List SideView) (s : SideView)
    → AllByRecursion (λ (x : SideView). x.known.users ≡ keys) sides
    → side_of wall sides ≡ Some s → s.known.users ≡ users_of sides
users-are keys wall [] s all e = absurd cc
users-are keys wall (x ∷ sides) s all e = each-found (λ (y : SideView). y.known.users
    ≡ keys) wall (x ∷ sides) s all e ∙ sym all.0

none-told : (book : UserBook) (s : SideView) → book.took ≡ [] → book.signed ≡ [] → s.known.size ≡ 0 → IsTold book s
none-told book s t o z = record {
  size = z ∙ ap (λ (ts : List Took). size_of (last_on s.known.wall ts)) (sym t);
  root = λ some. absurd (omega arith);
  made = λ setting is. subst (AllByRecursion (λ (x : Signed). x.op.wall ≡ s.known.wall
      → IsMade setting s.known.owner x.op.author x.op.seq x.op.kind)) (sym o) tt;
  later = subst (AllByRecursion (λ (x : Signed). x.op.wall ≡ s.known.wall → x.op.seq < s.next)) (sym o) tt;
}

none-kept : (d : Digest) (notes : List WallNote) (keys : List (ℕ × Key)) (user : ℕ) (key : Key) (rogue : Bool)
    → KeptBook d notes keys (record { user = user; key = key; rogue = rogue; took = []; signed = [] })
none-kept d notes keys user key rogue = record {
  records = λ i t e. absurd cc;
  signed = λ i x e. absurd cc;
  rogue = λ is. (refl, refl);
}

opening-has : (user wall depth : ℕ) (secret : Text) (of : ℕ) (owned : Option Owned) → is_some owned ≡ nat_eq user of
    → IsOwners user of (opening_keys user wall depth secret owned)
    × IsFitting (opening_keys user wall depth secret owned)
opening-has user w depth secret of None e = (tt, tt)
opening-has user w depth secret of (Some owned) e = (eqb-true user of (sym e), tt)

start-has : (user : ℕ) (start : SideStart) → IsStart user start → HasKeys user (opening_side user start)
start-has user start is =
    let both = opening-has user start.known.wall start.depth start.secret start.known.owner start.owned is.owned in
    record { owners = both.0; fit = both.1 }

pub opening-keeps : (d : Digest) (signer : Signing) (user : ℕ) (key : Key) (rogue : Bool)
    (starts : List SideStart) → AreStarts user key starts
    → key ≡ public_of signer.private signer.id signer.pair
    → AllByRecursion IsSide (map (opening_side user) starts)
    → Keeps d (record {
      signer = signer;
      sides = map (opening_side user) starts;
      book = record { user = user; key = key; rogue = rogue; took = []; signed = [] };
    })
opening-keeps d signer user key rogue starts are public sides = record {
  each = sides;
  users = λ wall s. users-are are.keys wall (map (opening_side user) starts) s
      (all-mapped (opening_side user) (λ (x : SideStart). x.known.users
      ≡ are.keys) (λ (x : SideView). x.known.users ≡ are.keys) starts are.same (λ x e. e));
  book = none-kept d (notes_of (map (opening_side user) starts)) (users_of (map
      (opening_side user) starts)) user key rogue;
  key = public;
  own = λ wall s found. ap (λ (us : List (ℕ × Key)). key_of us user)
      (each-found (λ (x : SideView). x.known.users ≡ are.keys) wall (map (opening_side user) starts) s
      (all-mapped (opening_side user) (λ (x : SideStart). x.known.users
      ≡ are.keys) (λ (x : SideView). x.known.users ≡ are.keys) starts are.same (λ x e. e)) found)
      ∙ are.own;
  keys = λ wall s found. each-found (HasKeys user) wall (map (opening_side user) starts) s
      (all-mapped (opening_side user) (IsStart user) (HasKeys user) starts are.each (start-has user)) found;
  told = λ honest wall s found. none-told (record {
    user = user;
    key = key;
    rogue = rogue;
    took = [];
    signed = [];
  }) s refl refl
      (each-found (λ (x : SideView). x.known.size ≡ 0) wall (map (opening_side user) starts) s
      (all-mapped (opening_side user) (IsStart user) (λ (x : SideView). x.known.size
      ≡ 0) starts are.each (λ x h. h.size)) found);
}

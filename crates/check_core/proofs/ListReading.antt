-- Reading lists one after the other.
use Rattle.std.proofs.Common.{◌≡◌, ℕ, ◌+◌, ◌<◌, ◌≤◌, List, [], ◌∷◌, ◌++◌, length, map, take, drop, get_or, Option, Some, None, Err, Vec, Global, refl, sym, ap, ◌∙◌, append_assoc}
use Rattle.std.proofs.lemmas.List.{drop_more, append-nil, map-append, drop_all}
use Rattle.fr_bytes.specs.Bytes.{Text}
use Rattle.fr_bytes.specs.declared.refusals.ReadRefusal.{ReadRefusal}
use Rattle.fr_bytes.specs.declared.refusals.ReadRefusal.TheVariants as refusals
use Rattle.fr_bytes.specs.Reading.{◌>>=◌, GivesAll, all_of}
use Rattle.pruned_list.specs.PrunedList.{PrunedList}
use Rattle.dict_proof.specs.declared.pruned_dict.PrunedDict.{PrunedDict}
use Rattle.dict_proof.specs.Spelling.{dict_at}
use Rattle.dict_proof.specs.View.{list_view}
use Rattle.check_rules.specs.Heard.{lists_of}

-- these lists in front of those that the rest spells
abbrev pub lists_behind : List PrunedList → Option (List PrunedList) → Option (List PrunedList)
lists_behind before rest = rest >>= (λ (ls : List PrunedList). Some (before ++ ls))

-- where reading has come to
pub record Reads (texts : List Text) (i : ℕ) (lists : List PrunedDict) : Type 0 where
  pub rest : lists_of texts ≡ lists_behind (map list_view lists) (lists_of (drop i texts))

pub reads-none : (texts : List Text) → Reads texts 0 []
reads-none texts = record { rest = sym (same (lists_of texts)) }
  where
    same : (o : Option (List PrunedList)) → lists_behind [] o ≡ o
    same None = refl
    same (Some ls) = refl

next : (texts : List Text) (i : ℕ) (text : Text) → i < length texts → text ≡ get_or texts i text
    → lists_of (drop i texts) ≡ (all_of dict_at text >>= (λ (l : PrunedList). lists_of (drop (i + 1) texts) >>= (λ
    (ls : List PrunedList). Some (l ∷ ls))))
unfolding lists_of
next texts i text lt e = ap lists_of (drop_more texts i text lt ∙ ap (λ (x : Text). x ∷ drop (i + 1) texts) (sym e))

pub reads-on : (texts : List Text) (i : ℕ) (text : Text) (lists : List PrunedDict) (list : PrunedDict)
    → i < length texts
    → text ≡ get_or texts i text → Reads texts i lists → all_of dict_at text ≡ Some (list_view list)
    → Reads texts (i + 1) (lists ++ list ∷ [])
reads-on texts i text lists list lt e h read = record {
  rest = h.rest ∙ ap (lists_behind (map list_view lists)) (next texts i text lt e
      ∙ ap (λ (o : Option PrunedList). o >>= (λ (l : PrunedList). lists_of (drop (i + 1) texts) >>= (λ
      (ls : List PrunedList). Some (l ∷ ls)))) read)
      ∙ joined (lists_of (drop (i + 1) texts));
}
  where
    joined : (o : Option (List PrunedList))
        → lists_behind (map list_view lists) (o >>= (λ (ls : List PrunedList). Some (list_view list ∷ ls)))
        ≡ lists_behind (map list_view (lists ++ list ∷ [])) o
    joined None = refl
    joined (Some ls) = ap Some (sym (ap (λ (xs : List PrunedList). xs ++ ls) (map-append list_view lists
        (list ∷ [])) ∙ append_assoc (map list_view lists) (list_view list ∷ []) ls))

pub reads-no : (texts : List Text) (i : ℕ) (text : Text) (lists : List PrunedDict) → i < length texts
    → text ≡ get_or texts i text → Reads texts i lists → all_of dict_at text ≡ None → lists_of texts ≡ None
reads-no texts i text lists lt e h read =
    h.rest ∙ ap (lists_behind (map list_view lists)) (next texts i text lt e
    ∙ ap (λ (o : Option PrunedList). o >>= (λ (l : PrunedList). lists_of (drop (i + 1) texts) >>= (λ
    (ls : List PrunedList). Some (l ∷ ls)))) read)

pub reads-all : (texts : List Text) (i : ℕ) (lists : List PrunedDict) → length texts ≤ i → Reads texts i lists
    → lists_of texts ≡ Some (map list_view lists)
unfolding lists_of
reads-all texts i lists le h =
    h.rest ∙ ap (λ (xs : List Text). lists_behind (map list_view lists) (lists_of xs)) (drop_all i texts le)
    ∙ ap Some (append-nil (map list_view lists))

pub reads-ends : (texts : List Text) (i : ℕ) (text : Text) (lists : List PrunedDict) (e : ReadRefusal)
    → i < length texts
    → text ≡ get_or texts i text → Reads texts i lists → GivesAll list_view (Err e) (all_of dict_at text)
    → GivesAll (λ (v : Vec PrunedDict Global). map list_view v.items) (Err e) (lists_of texts)
reads-ends texts i text lists refusals.NotForm lt same h read = reads-no texts i text lists lt same h read
reads-ends texts i text lists refusals.NoMemory lt same h read = tt

-- News, as the plain client has them, and what comes of them.
use Rattle.std.proofs.Common.{◌≡◌, ◌∙◌, ℕ, List, Some, Ok, refl, ap}
use Rattle.fr_digest.specs.Digest.{Digest}
use Rattle.fr_edges.specs.Wire.{WireView}
use Rattle.check_rules.specs.Verdict.{Judged, same, taken, refusal}
use Rattle.hall_server.specs.Answers.{Sights}
use Rattle.script_form.specs.declared.outcome.KeysEnd.{KeysEnd}
use Rattle.script_form.specs.declared.outcome.Outcome.{Outcome}
use Rattle.script_form.specs.declared.outcome.Shown.{Shown}
use Rattle.client_core.specs.declared.news.News.{News}
use Rattle.client_core.specs.Sides.{SideView, side_of, with_side}
use Rattle.client_core.specs.Taking.{news_of}
use Rattle.client_core.proofs.Places.{found-wall, put-found}
use Rattle.session_laws.specs.declared.place.Place.{Place}
use Rattle.session_laws.specs.Doing.{PlainClient, asks_keys, end_of, learning, outcome_at, shown_of, side_learnt}
use Rattle.session_laws.proofs.Ready.{learnt-wall}
use Rattle.session_run.specs.News.{news_end, news_keys, news_shown}
use Rattle.session_run.specs.Parts.{KeysBehind, Told}

-- ---- news

pub end-is : (j : Judged) → news_end (news_of j) ≡ end_of (Some (Ok j))
end-is (same size) = refl
end-is (taken view from tree leaves lists) = refl
end-is (refusal cause number) = refl

pub shown-is : (s : SideView) (j : Judged) → news_shown s (news_of j) ≡ shown_of s (Some (Ok j))
shown-is s (same size) = refl
shown-is s (taken view from tree leaves lists) = refl
shown-is s (refusal cause number) = refl

pub keys-is : (s : SideView) (j : Judged) → news_keys s (news_of j) ≡ asks_keys (Some (Ok j)) s
keys-is s (same size) = refl
keys-is s (taken view from tree leaves lists) = refl
keys-is s (refusal cause number) = refl

-- ---- the outcome

pub told-by : (d : Digest) (user : ℕ) (place : Place) (c c' : PlainClient) (before now : Sights) (wire wire' : WireView)
    (wall : ℕ) (t : SideView) (news : News) (end : KeysEnd) (shown : List Shown) (o : Outcome)
    → side_of wall c.sides ≡ Some t → KeysBehind d user c c' before now wire wire' t news end
    → ((s : SideView) → side_of wall c'.sides ≡ Some s → shown ≡ news_shown s news)
    → o ≡ outcome_at place (news_end news) shown end → Told d user place c c' before now wire wire' t news o
told-by d user place c c' before now wire wire' wall t news end shown o found keys tells is = record {
  alone = λ e.
      let a = keys.alone e in
      let here : side_of wall c'.sides ≡ Some t = ap (λ (k : PlainClient). side_of wall k.sides) a.0 ∙ found in
      (a.0, a.1, a.2, is ∙ (λ i. outcome_at place (news_end news) (tells t here i) (a.3 i)));
  keyed = λ e.
      let l = keys.keyed e in
      let at = found-wall wall c.sides t found in
      let u = side_learnt t (learning d t.known l.delivered) in
      let here : side_of wall c'.sides ≡ Some u =
      ap (λ (k : PlainClient). side_of wall k.sides) l.client
      ∙ ap (λ (w : ℕ). side_of wall (with_side w u c.sides)) at
      ∙ put-found wall u c.sides t found (learnt-wall t (learning d t.known l.delivered) ∙ at) in
      (end, l, is ∙ ap (λ (list : List Shown). outcome_at place (news_end news) list end) (tells u here));
}

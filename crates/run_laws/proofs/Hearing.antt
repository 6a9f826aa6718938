-- What a client that follows an honest wall makes of the honest replies to what it sent.
use Rattle.std.proofs.Common.{◌≡◌, ◌∙◌, ◌⊎◌, inl, inr, ℕ, ◌+◌, ◌<◌, ◌≤◌, Bool, true, false, List, [], ◌∷◌, length, take, drop, Option, Some, None, Ok, refl, sym, ap, subst, arith, length-append}
use Rattle.std.proofs.lemmas.Bool.{cases_lt, cond-true}
use Rattle.fr_bytes.specs.Bytes.{Text}
use Rattle.fr_digest.specs.Digest.{Digest}
use Rattle.op_types.specs.declared.op.Leaf.{Leaf}
use Rattle.op_types.specs.declared.op.Op.{Op}
use Rattle.op_types.specs.declared.view.View.{View}
use Rattle.op_types.specs.Spelling.{op_text}
use Rattle.lms_tree.specs.Valid.{Key}
use Rattle.hist_proof.specs.Pruned.{Tree}
use Rattle.pruned_list.specs.PrunedList.{PrunedList}
use Rattle.msg_form.specs.declared.message.Reply.TheVariants as messages
use Rattle.msg_form.specs.declared.message.Request.TheVariants as requests
use Rattle.msg_form.specs.Messages.{SpellsReply}
use Rattle.wall_law.specs.State.{state_of}
use Rattle.check_rules.specs.declared.asked.Asked.{Asked}
use Rattle.check_rules.specs.declared.asked.Asked.TheVariants as asked
use Rattle.check_rules.specs.declared.known.Known.{Known}
use Rattle.check_rules.specs.Shown.{changes_of}
use Rattle.check_rules.specs.Verdict.{Judgement, is_answered, judged, keys_judged, nothing_new, refusal, same, taken}
use Rattle.honest_replies.specs.HonestNews.{Begins, IsViewOf, ShowsNews}
use Rattle.honest_replies.specs.HonestNews as replies
use Rattle.honest_replies.specs.HonestReply.{FewEntries, KeysReply, NewsReply, ShowReply, SpellsBare}
use Rattle.honest_replies.proofs.Changes.{keys-taken}
use Rattle.honest_replies.proofs.Judged.{bare-judged, last-answered, news-judged, refusal-judged}
use Rattle.honest_replies.proofs.News.{news-accepted}
use Rattle.hall_core.specs.declared.ask.Answer.{Answer}
use Rattle.hall_core.specs.declared.ask.Answer.TheVariants.{Looked, Placed, Refused}
use Rattle.hall_core.specs.declared.ask.Ask.TheVariants as asks
use Rattle.hall_core.specs.declared.ask.Cause.{Cause}
use Rattle.hall_core.specs.declared.ask.Cause.TheVariants as causes
use Rattle.hall_core.specs.declared.facts.WallFacts.{WallFacts}
use Rattle.hall_core.specs.Honest.{IsHonest}
use Rattle.hall_core.specs.PlainWall.{Gives, answer_to, leaf_of, left_behind, placed_or, refusal_of, with_leaf}
use Rattle.hall_replies.specs.Knowing.{Knows}
use Rattle.hall_replies.proofs.Joined.{wall-same}
use Rattle.hall_server.specs.HonestReplies.{Refuses, Replies, TellsCause}
use Rattle.run_laws.specs.Following.{IsFront}
use Rattle.run_laws.specs.Telling.{code_of, detail_of}

-- It takes what is new, and all of it.
pub record HearsNews (d : Digest) (facts : WallFacts) (known : Known) (asked : Asked) (L : List Leaf) (whole : Bool)
    (bytes : Text) : Type 0 where
  pub later : known.size < length L
  pub view : View
  pub from : ℕ
  pub tree : Tree
  pub lists : List PrunedList
  pub judged_so : judged d known asked bytes ≡ Ok (taken view from tree (drop from L) lists)
  pub is_view : IsViewOf d facts.wall facts.server L view
  pub begins : Begins known.size facts.f L whole from
  pub shows : ShowsNews d facts.owner known.size L from tree lists
  pub old : known.size ≤ from
  pub some : from < length L

-- Nothing is new to it.
pub record HearsSame (d : Digest) (known : Known) (asked : Asked) (L : List Leaf) (bytes : Text) : Type 0 where
  pub level : known.size ≡ length L
  pub judged_so : judged d known asked bytes ≡ nothing_new asked (length L)

-- ---- a view of the wall

module _ (d : Digest) (facts : WallFacts) (known : Known) (L : List Leaf) (whole : Bool) (bytes : Text) (asked : Asked) where
  heard-news : IsHonest d facts L → IsFront d facts L known → (view : View)
      → IsViewOf d facts.wall facts.server L view → known.size < length L
      → NewsReply d facts.owner known.size facts.f L whole view bytes
      → ((from : ℕ) → from < length L → is_answered asked (drop from L) ≡ true)
      → HearsNews d facts known asked L whole bytes
  heard-news honest front view is later news answered =
      let knows = front.knows in
      let mine : replies.IsHonest d known L = wall-same d facts known L knows honest in
      let follows : replies.Follows d known L = record { within = front.within; root_is = front.root_is } in
      let seen : IsViewOf d known.wall known.server L view =
      subst (λ (w : ℕ). IsViewOf d w known.server L view) (sym knows.wall)
      (subst (λ (k : Key). IsViewOf d facts.wall k L view) (sym knows.server) is) in
      let own : NewsReply d known.owner known.size known.f L whole view bytes =
      subst (λ (o : ℕ). NewsReply d o known.size known.f L whole view bytes) (sym knows.owner)
      (subst (λ (f : ℕ). NewsReply d facts.owner known.size f L whole view bytes) (sym knows.f) news) in
      let accepted = news-accepted d known L mine own.from own.tree own.lists own.shows whole view follows seen later
      own.begins in
      let size = is.size in
      let some : own.from < length L = (let less = accepted.some in omega arith) in
      record {
        later = later;
        view = view;
        from = own.from;
        tree = own.tree;
        lists = own.lists;
        judged_so = news-judged d known asked L view bytes whole mine follows seen later own
            ∙ cond-true (is_answered asked (drop own.from L))
            (let x : Judgement = Ok (taken view own.from own.tree (drop own.from L) own.lists) in x) _
            (answered own.from some);
        is_view = is;
        begins = subst (λ (f : ℕ). Begins known.size f L whole own.from) knows.f own.begins;
        shows = subst (λ (o : ℕ). ShowsNews d o known.size L own.from own.tree own.lists) knows.owner own.shows;
        old = accepted.old;
        some = some;
      }

  heard-same : IsFront d facts L known → (view : View) → IsViewOf d facts.wall facts.server L view
      → known.size ≡ length L → SpellsBare view bytes → HearsSame d known asked L bytes
  heard-same front view is level bare =
      let knows = front.knows in
      let follows : replies.Follows d known L = record { within = front.within; root_is = front.root_is } in
      let seen : IsViewOf d known.wall known.server L view =
      subst (λ (w : ℕ). IsViewOf d w known.server L view) (sym knows.wall)
      (subst (λ (k : Key). IsViewOf d facts.wall k L view) (sym knows.server) is) in
      record { level = level; judged_so = bare-judged d known asked L view bytes follows seen level bare }

  -- What it makes of the wall that is shown.
  pub heard-view : IsHonest d facts L → IsFront d facts L known → FewEntries facts.owner L
      → ShowReply d facts.wall facts.owner facts.server known.size facts.f L whole bytes
      → ((from : ℕ) → from < length L → is_answered asked (drop from L) ≡ true)
      → HearsSame d known asked L bytes ⊎ HearsNews d facts known asked L whole bytes
  heard-view honest front few shown answered =
      let within = front.within in
      elim (cases_lt known.size (length L)) [
        | inl later ↦
            inr (heard-news honest front shown.view shown.is_view later (shown.news later few) answered)
        | inr level ↦
            inl (heard-same front shown.view shown.is_view (omega arith) (shown.bare level))
      ]

-- ---- the answers of a turn

-- a look is answered by the wall's size, and leaves the wall as it was
pub look-answered : (d : Digest) (facts : WallFacts) (before : List Leaf) (answer : Answer)
    → Gives d facts before asks.Look answer → (answer ≡ Looked (length before)) ⊎ (answer ≡ Refused causes.NoMemory)
unfolding answer_to
look-answered d facts before answer gives = gives

-- An operation is placed behind the leaves, or refused.
pub record IsPlaced (d : Digest) (facts : WallFacts) (before L : List Leaf) (op : Op) (answer : Answer) : Type 0 where
  pub answer_is : answer ≡ Placed (length before)
  pub left : L ≡ with_leaf d facts before op

pub record WasRefused (before L : List Leaf) (answer : Answer) : Type 0 where
  pub cause : Cause
  pub answer_is : answer ≡ Refused cause
  pub left : L ≡ before

module _ (d : Digest) (facts : WallFacts) (before L : List Leaf) (op : Op) (answer : Answer) where
  append-by : (cause : Option Cause) → answer ≡ placed_or (length before) cause
      → L ≡ left_behind d facts before (asks.Append op) answer
      → IsPlaced d facts before L op answer ⊎ WasRefused before L answer
  append-by None is left = inl (record {
    answer_is = is;
    left = left ∙ ap (left_behind d facts before (asks.Append op)) is;
  })
  append-by (Some cause) is left = inr (record {
    cause = cause;
    answer_is = is;
    left = left ∙ ap (left_behind d facts before (asks.Append op)) is;
  })

  pub append-answered : Gives d facts before (asks.Append op) answer
      → L ≡ left_behind d facts before (asks.Append op) answer
      → IsPlaced d facts before L op answer ⊎ WasRefused before L answer
  unfolding answer_to
  append-answered gives left = elim gives [
    | inl is ↦ append-by (refusal_of d facts before op) is left
    | inr none ↦ append-by (Some causes.NoMemory) none left
  ]

-- ---- refusals

-- the cause that is told is the answer's
pub cause-told : (wall : ℕ) (cause : Cause) (bytes : Text) → TellsCause wall cause bytes
    → Refuses wall (code_of cause) (detail_of cause) bytes
cause-told wall causes.Full bytes tells = tells
cause-told wall causes.BadSignature bytes tells = tells
cause-told wall causes.WrongWall bytes tells = tells
cause-told wall causes.NotAllowed bytes tells = tells
cause-told wall (causes.StaleEpoch now) bytes tells = tells
cause-told wall (causes.Replayed next) bytes tells = tells
cause-told wall causes.BadChange bytes tells = tells
cause-told wall causes.LateView bytes tells = tells
cause-told wall causes.BadView bytes tells = tells
cause-told wall causes.NoMemory bytes tells = absurd tells

-- ---- what is made of the reply to a turn

-- The operation was placed last, or the wall was looked at; and all of the wall was heard.
pub record ToldNews (d : Digest) (facts : WallFacts) (known : Known) (asked : Asked) (L : List Leaf) (whole : Bool)
    (answer : Answer) (bytes : Text) : Type 0 where
  pub answered : (answer ≡ Looked (length L)) ⊎ ((k : ℕ) × (answer ≡ Placed k) × (k + 1 ≡ length L))
  pub news : HearsNews d facts known asked L whole bytes

pub record ToldSame (d : Digest) (known : Known) (asked : Asked) (L : List Leaf) (answer : Answer) (bytes : Text)
    : Type 0 where
  pub answered : answer ≡ Looked (length L)
  pub level : known.size ≡ length L
  pub judged_so : judged d known asked bytes ≡ Ok (same (length L))

pub record ToldRefusal (d : Digest) (known : Known) (asked : Asked) (answer : Answer) (bytes : Text) : Type 0 where
  pub cause : Cause
  pub answered : answer ≡ Refused cause
  pub judged_so : judged d known asked bytes ≡ Ok (refusal (code_of cause) (detail_of cause))

abbrev pub Told : Digest → WallFacts → Known → Asked → List Leaf → Bool → Answer → Text → Type 0
Told d facts known asked L whole answer bytes = ToldSame d known asked L answer bytes
    ⊎ (ToldNews d facts known asked L whole answer bytes ⊎ ToldRefusal d known asked answer bytes)

module _ (d : Digest) (facts : WallFacts) (known : Known) (before L : List Leaf) (answer : Answer) (bytes : Text) where
  -- after a look
  pub told-look : (whole : Bool) → IsHonest d facts L → IsFront d facts before known → FewEntries facts.owner L
      → Gives d facts before asks.Look answer → L ≡ before
      → Replies d facts (requests.Look known.wall known.size whole) L answer bytes
      → Told d facts known asked.Look L whole answer bytes
  told-look whole honest front few gives left said = elim (look-answered d facts before answer gives) [
    | inl is ↦
        let at : answer ≡ Looked (length L) = is ∙ ap (λ (ls : List Leaf). Looked (length ls)) (sym left) in
        let shown : ShowReply d facts.wall facts.owner facts.server known.size facts.f L whole bytes =
        subst (λ (a : Answer). Replies d facts (requests.Look known.wall known.size whole) L a bytes) at said in
        let here : IsFront d facts L known = subst (λ (ls : List Leaf). IsFront d facts ls known) (sym left) front in
        elim (heard-view d facts known L whole bytes asked.Look honest here few shown (λ from some. refl)) [
          | inl bare ↦ inl (record { answered = at; level = bare.level; judged_so = bare.judged_so })
          | inr news ↦ inr (inl (record { answered = inl at; news = news }))
        ]
    | inr none ↦ absurd (let told : TellsCause facts.wall causes.NoMemory bytes =
        subst (λ (a : Answer). Replies d facts (requests.Look known.wall known.size whole) L a bytes) none said in told)
  ]

  -- where the operation stands last
  told-placed : (op : Op) → IsHonest d facts L → IsFront d facts L known → known.size ≤ length before
      → FewEntries facts.owner L → IsPlaced d facts before L op answer
      → Replies d facts (requests.Append known.wall known.size (op_text op)) L answer bytes
      → Told d facts known (asked.Append (op_text op)) L false answer bytes
  told-placed op honest front within few placed said =
      let leaf = leaf_of d (state_of facts.owner before) op in
      let count : length before + 1 ≡ length L =
      sym (ap length placed.left ∙ length-append before (leaf ∷ [])) in
      let shown : ShowReply d facts.wall facts.owner facts.server known.size facts.f L false bytes =
      subst (λ (a : Answer). Replies d facts (requests.Append known.wall known.size (op_text op)) L a bytes)
      placed.answer_is said in
      let last : (from : ℕ) → from < length L → is_answered (asked.Append (op_text op)) (drop from L) ≡ true =
      λ from some. ap (λ (ls : List Leaf). is_answered (asked.Append (op_text op)) (drop from ls)) placed.left
      ∙ last-answered before leaf from (omega arith) in
      elim (heard-view d facts known L false bytes (asked.Append (op_text op)) honest front few shown last) [
        | inl bare ↦ absurd (let level = bare.level in omega arith)
        | inr news ↦ inr (inl (record { answered = inr (length before, placed.answer_is, count); news = news }))
      ]

  told-refused : (op : Op) → Knows facts known → (refused : WasRefused before L answer)
      → Replies d facts (requests.Append known.wall known.size (op_text op)) L answer bytes
      → Told d facts known (asked.Append (op_text op)) L false answer bytes
  told-refused op knows refused said =
      let tells : TellsCause facts.wall refused.cause bytes =
      subst (λ (a : Answer). Replies d facts (requests.Append known.wall known.size (op_text op)) L a bytes)
      refused.answer_is said in
      let spelled : SpellsReply (messages.Refused known.wall (code_of refused.cause) (detail_of refused.cause)) bytes =
      subst (λ (w : ℕ). Refuses w (code_of refused.cause) (detail_of refused.cause) bytes) (sym knows.wall)
      (cause-told facts.wall refused.cause bytes tells) in
      inr (inr (record {
        cause = refused.cause;
        answered = refused.answer_is;
        judged_so = refusal-judged d known (op_text op) (code_of refused.cause) (detail_of refused.cause) bytes spelled;
      }))

  -- after an operation
  pub told-append : (op : Op) → IsHonest d facts L → IsFront d facts before known → IsFront d facts L known
      → FewEntries facts.owner L → Gives d facts before (asks.Append op) answer
      → L ≡ left_behind d facts before (asks.Append op) answer
      → Replies d facts (requests.Append known.wall known.size (op_text op)) L answer bytes
      → Told d facts known (asked.Append (op_text op)) L false answer bytes
  told-append op honest front after few gives left said =
      elim (append-answered d facts before L op answer gives left) [
        | inl placed ↦ told-placed op honest after front.within few placed said
        | inr refused ↦ told-refused op front.knows refused said
      ]

  -- ---- keys

  -- The changes among what was accepted are learnt.
  pub told-keys : IsHonest d facts L → IsFront d facts L known → 0 < known.size
      → Gives d facts before asks.Look answer
      → Replies d facts (requests.Keys known.wall known.size) L answer bytes
      → keys_judged d known bytes ≡ Ok (changes_of (take known.size L))
  told-keys honest front some gives said = elim (look-answered d facts before answer gives) [
    | inl is ↦
        let shows = subst (λ (a : Answer). Replies d facts (requests.Keys known.wall known.size) L a bytes) is said in
        let reply : KeysReply d known.wall L known.size bytes =
        subst (λ (w : ℕ). KeysReply d w L known.size bytes) (sym front.knows.wall) (shows.shown some front.within) in
        keys-taken d known L bytes honest.spelled front.within (front.root_is some) front.epoch_is reply
    | inr none ↦ absurd (let told : TellsCause facts.wall causes.NoMemory bytes =
        subst (λ (a : Answer). Replies d facts (requests.Keys known.wall known.size) L a bytes) none said in told)
  ]

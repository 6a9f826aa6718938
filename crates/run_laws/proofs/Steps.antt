-- One command on an honest wall.
use Rattle.std.proofs.Common.{◌≡◌, ◌∙◌, ◌⊎◌, inl, inr, ℕ, ◌<◌, ◌≤◌, Bool, true, false, cond, List, [], ◌∷◌, ◌++◌, length, take, drop, Option, Some, None, Result, Ok, Err, refl, sym, ap, subst, eq-eqb}
use Rattle.std.specs.List.{AllByRecursion, AllZip}
use Rattle.std.specs.Option.{option_map}
use Rattle.std.proofs.lemmas.Bool.{cases_Bool}
use Rattle.fr_bytes.specs.Bytes.{Text}
use Rattle.fr_bytes.specs.History.{Begins}
use Rattle.fr_bytes.proofs.HistoryLaws.{begins_then}
use Rattle.fr_digest.specs.Digest.{Digest}
use Rattle.op_types.specs.declared.op.Leaf.{Leaf}
use Rattle.op_types.specs.declared.op.Op.{Op}
use Rattle.op_types.specs.Spelling.{IsLeaf, op_text}
use Rattle.msg_form.specs.declared.decline.Decline.{Decline}
use Rattle.msg_form.specs.declared.message.Request.TheVariants as requests
use Rattle.check_rules.specs.declared.asked.Asked.{Asked}
use Rattle.check_rules.specs.declared.asked.Asked.TheVariants as asked
use Rattle.check_rules.specs.declared.known.Known.{Known}
use Rattle.check_rules.specs.Shown.{changes_of}
use Rattle.check_rules.specs.Verdict.{Judged, judged, keys_judged, refusal, same, taken}
use Rattle.honest_replies.specs.HonestReply.{FewEntries}
use Rattle.hall_core.specs.declared.ask.Answer.{Answer}
use Rattle.hall_core.specs.declared.ask.Answer.TheVariants.{Looked, Placed, Refused}
use Rattle.hall_core.specs.declared.ask.Ask.{Ask}
use Rattle.hall_core.specs.declared.ask.Ask.TheVariants as asks
use Rattle.hall_core.specs.declared.ask.Called.{Called}
use Rattle.hall_core.specs.declared.facts.WallFacts.{WallFacts}
use Rattle.hall_core.specs.Calls.{LegalFrom, Turn, play_from, turns_from}
use Rattle.hall_core.specs.Honest.{IsHonest}
use Rattle.hall_core.specs.PlainWall.{Gives, left_behind}
use Rattle.hall_core.proofs.CallLaws.{left-grows, play-grows}
use Rattle.hall_server.specs.HonestReplies.{Replies, wall_in}
use Rattle.script_form.specs.declared.outcome.CommandEnd.{CommandEnd}
use Rattle.script_form.specs.declared.outcome.CommandEnd.TheVariants as ends
use Rattle.script_form.specs.declared.outcome.KeysEnd.{KeysEnd}
use Rattle.script_form.specs.declared.outcome.KeysEnd.TheVariants as keys_ends
use Rattle.script_form.specs.declared.outcome.Outcome.{Outcome}
use Rattle.script_form.specs.Status.{count_by_keys, count_of_end, fails, is_failure}
use Rattle.client_core.specs.declared.sent.Sent.{Sent}
use Rattle.client_core.specs.Asking.{ask}
use Rattle.client_core.specs.Sides.{SideView, side_of, with_side}
use Rattle.client_core.specs.Taking.{epoch_after, relearnt}
use Rattle.client_core.proofs.Places.{found-wall, put-found}
use Rattle.session_laws.specs.Doing.{Done, Exchange, Hearing, Heard, PlainClient, Task, ask_of, asked_by, asks_keys, done, done_alone, done_declined, done_heard, done_keyed, done_sent, exchange, heard_by, hearing, is_whole, keys_exchange, learning, needs_keys, on, request_of, sent_from, sent_side, shown_from, side_heard, wall_of}
use Rattle.session_laws.specs.Halves.{Serves}
use Rattle.session_laws.proofs.Clients.{heard-found, sent-found}
use Rattle.session_laws.proofs.Steps.{done-alone, done-asked, done-declined, done-keyed}
use Rattle.run_laws.specs.Following.{AreTrue, Follows, IsFront, KeepsUp}
use Rattle.run_laws.specs.Telling.{EndsBy, ShowsAll, Tells, TellsBy, code_of, detail_of}
use Rattle.run_laws.specs.Untampered.{IsStraight}
use Rattle.run_laws.proofs.Following.{epoch-behind, follows-more, follows-sent, front-more, learns-all, needs-none, needs-some, takes-all}
use Rattle.run_laws.proofs.Fronts.{few-front, first-of}
use Rattle.run_laws.proofs.Hearing.{HearsNews, Told, ToldNews, ToldRefusal, ToldSame, told-append, told-keys, told-look}
use Rattle.run_laws.proofs.Sending.{SendsLook, SendsOp, sends}
use Rattle.run_laws.proofs.Truths.{taken-true, trues-longer}
use Rattle.run_laws.proofs.Turns.{NextTurn, next-turn}

-- What one command leaves: its turns, and the calls behind them with what was already known of those before.
pub record Steps (d : Digest) (facts : WallFacts) (user : ℕ) (leaves : List Leaf) (calls : List Called)
    (c : PlainClient) (task : Task) (x : Done) (more : List Exchange) : Type 0 where
  pub now : List Turn
  pub left : List Leaf
  pub rest : List Called
  pub tells : Tells d facts c task x now
  pub follows : KeepsUp d facts left x.client
  pub legal : LegalFrom d facts left rest
  pub honest : IsHonest d facts left
  pub end : play_from d facts leaves calls ≡ play_from d facts left rest
  pub turned : turns_from d facts user leaves calls ≡ now ++ turns_from d facts user left rest
  pub served : AllZip (Serves d facts) more (turns_from d facts user left rest)

-- ---- one exchange with the wall

on-wall : (wall : ℕ) (x : Exchange) (xs : List Exchange) → wall_in x.request ≡ wall → on wall (x ∷ xs) ≡ x ∷ on wall xs
on-wall wall x xs at = ap (λ (b : Bool). cond b (x ∷ on wall xs) (on wall xs)) (eq-eqb (wall_in x.request) wall at)

-- A wall and the calls on it, of which nothing was tampered with.
pub record Wall (d : Digest) (facts : WallFacts) (leaves : List Leaf) (calls : List Called) : Type 0 where
  pub legal : LegalFrom d facts leaves calls
  pub honest : IsHonest d facts leaves
  pub spelled : AllByRecursion IsLeaf (play_from d facts leaves calls)
  pub few : FewEntries facts.owner (play_from d facts leaves calls)

-- An exchange with the wall is the next turn, and others are those behind it.
record Passes (d : Digest) (facts : WallFacts) (user : ℕ) (leaves : List Leaf) (calls : List Called) (x : Exchange)
    (xs : List Exchange) (t : Turn) (ts : List Turn) : Type 0 where
  pub next : NextTurn d facts user leaves calls t ts
  pub are : turns_from d facts user leaves calls ≡ t ∷ ts
  pub serves : Serves d facts x t
  pub rest : AllZip (Serves d facts) xs (turns_from d facts user t.left next.rest)

module _ (d : Digest) (facts : WallFacts) (user : ℕ) where
  passes : (leaves : List Leaf) (calls : List Called) (x : Exchange) (xs : List Exchange) (t : Turn) (ts : List Turn)
      → Wall d facts leaves calls → turns_from d facts user leaves calls ≡ t ∷ ts
      → AllZip (Serves d facts) (x ∷ xs) (turns_from d facts user leaves calls)
      → Passes d facts user leaves calls x xs t ts
  passes leaves calls x xs t ts wall are served =
      let next = next-turn d facts user leaves calls t ts wall.legal wall.honest wall.spelled are in
      let zip : AllZip (Serves d facts) (x ∷ xs) (t ∷ ts) = subst (AllZip (Serves d facts) (x ∷ xs)) are served in
      record { next = next; are = are; serves = zip.0; rest = subst (AllZip (Serves d facts) xs) next.later zip.1 }

  module _ (leaves : List Leaf) (calls : List Called) (t : Turn) (ts : List Turn) (wall : Wall d facts leaves calls)
      (next : NextTurn d facts user leaves calls t ts) where
    -- the wall behind a turn
    wall-behind : Wall d facts t.left next.rest
    wall-behind = record {
      legal = next.legal;
      honest = next.left_honest;
      spelled = subst (AllByRecursion IsLeaf) next.end wall.spelled;
      few = subst (FewEntries facts.owner) next.end wall.few;
    }

    few-behind : FewEntries facts.owner t.left
    few-behind = few-front facts.owner t.left (play_from d facts t.left next.rest) (play-grows d facts t.left next.rest)
        wall-behind.few

    left-more : Begins next.before t.left
    left-more = subst (Begins next.before) (sym next.left) (left-grows d facts next.before t.call.ask t.call.answer)

    grows-behind : Begins leaves t.left
    grows-behind = begins_then leaves next.before t.left next.grows left-more

    -- what a client that follows the leaves makes of the reply to a look, and to an operation
    look-told : (known : Known) (whole : Bool) (bytes : Text) → IsFront d facts leaves known → t.call.ask ≡ asks.Look
        → Replies d facts (requests.Look known.wall known.size whole) t.left t.call.answer bytes
        → Told d facts known asked.Look t.left whole t.call.answer bytes
    look-told known whole bytes front looks said =
        told-look d facts known next.before t.left t.call.answer bytes whole next.left_honest
        (front-more d facts leaves next.before known next.grows front) few-behind
        (subst (λ (a : Ask). Gives d facts next.before a t.call.answer) looks next.answered.gives)
        (next.left ∙ ap (λ (a : Ask). left_behind d facts next.before a t.call.answer) looks) said

    op-told : (known : Known) (op : Op) (bytes : Text) → IsFront d facts leaves known → t.call.ask ≡ asks.Append op
        → Replies d facts (requests.Append known.wall known.size (op_text op)) t.left t.call.answer bytes
        → Told d facts known (asked.Append (op_text op)) t.left false t.call.answer bytes
    op-told known op bytes front appends said =
        told-append d facts known next.before t.left t.call.answer bytes op next.left_honest
        (front-more d facts leaves next.before known next.grows front)
        (front-more d facts leaves t.left known grows-behind front) few-behind
        (subst (λ (a : Ask). Gives d facts next.before a t.call.answer) appends next.answered.gives)
        (next.left ∙ ap (λ (a : Ask). left_behind d facts next.before a t.call.answer) appends) said

    keys-told : (known : Known) (bytes : Text) → IsFront d facts leaves known → 0 < known.size
        → t.call.ask ≡ asks.Look
        → Replies d facts (requests.Keys known.wall known.size) t.left t.call.answer bytes
        → keys_judged d known bytes ≡ Ok (changes_of (take known.size t.left))
    keys-told known bytes front some looks said =
        told-keys d facts known next.before t.left t.call.answer bytes next.left_honest
        (front-more d facts leaves t.left known grows-behind front) some
        (subst (λ (a : Ask). Gives d facts next.before a t.call.answer) looks next.answered.gives) said

-- ---- the client and its side that have sent

sent-known : (s : SideView) (signed : Option Op) → (sent_side s signed).known ≡ s.known
sent-known s None = refl
sent-known s (Some op) = refl

sent-took : (c : PlainClient) (s : SideView) (signed : Option Op) → (sent_from c s signed).took ≡ c.took
sent-took c s None = refl
sent-took c s (Some op) = refl

request-wall : (command : _) (s : SideView) (signed : Option Op) → wall_in (request_of s command signed) ≡ s.known.wall
request-wall command s None = refl
request-wall command s (Some op) = refl

-- the exchanges begin with that of the command
heard-exchanges : (d : Digest) (c : PlainClient) (h : Heard) (x : Exchange) (s : SideView) (j : Hearing)
    → (xs : List Exchange) × ((done_heard d c h x s j).exchanges ≡ x ∷ xs)
heard-exchanges d c h x s j = elim (cases_Bool (asks_keys j s)) [
  | inl keys ↦ (
    keys_exchange h.task s h.keys ∷ [],
    ap (λ (y : Done). y.exchanges) (done-keyed d c h x s j keys),
  )
  | inr none ↦ ([], ap (λ (y : Done). y.exchanges) (done-alone d c h x s j none))
]

-- ---- ends

end-calm : (o : Outcome) (e : CommandEnd) → o.keys ≡ keys_ends.Fine → o.end ≡ e
    → is_failure (count_of_end e) ≡ false → fails o ≡ false
end-calm o e fine end calm =
    ap (λ (k : KeysEnd). is_failure (count_by_keys k o.end)) fine
    ∙ ap (λ (x : CommandEnd). is_failure (count_of_end x)) end ∙ calm

-- Who ends by a turn isn't rejected or lost.
ends-calm : (facts : WallFacts) (whole : Bool) (s t : SideView) (L : List Leaf) (answer : Answer) (o : Outcome)
    → EndsBy facts whole s t L answer o → o.keys ≡ keys_ends.Fine → fails o ≡ false
ends-calm facts whole s t L (Looked size) o (is, inl nothing) fine =
    end-calm o (ends.Same (length L)) fine nothing.end refl
ends-calm facts whole s t L (Looked size) o (is, inr all) fine =
    end-calm o (ends.Accepted (length L) all.from) fine all.end refl
ends-calm facts whole s t L (Placed position) o (is, all) fine =
    end-calm o (ends.Accepted (length L) all.from) fine all.end refl
ends-calm facts whole s t L (Refused cause) o refused fine =
    end-calm o (ends.Refused (code_of cause) (detail_of cause)) fine refused.end refl

-- ---- one command

same-side : (sides : List SideView) (wall : ℕ) (s t : SideView) → side_of wall sides ≡ Some s
    → side_of wall sides ≡ Some t → s ≡ t
same-side sides wall s t a b = let e = sym a ∙ b in cc

module _ (d : Digest) (facts : WallFacts) (user : ℕ) (leaves : List Leaf) (calls : List Called)
    (wall : Wall d facts leaves calls) (c : PlainClient) (h : Heard) (s : SideView)
    (found : side_of facts.wall c.sides ≡ Some s) (follows : Follows d facts leaves s)
    (records : AreTrue d facts leaves c.took) (more : List Exchange) where
  abbrev all_turns : List Turn
  all_turns = turns_from d facts user leaves calls

  abbrev whole : Bool
  whole = is_whole h.task.command

  abbrev StepsTo : Done → Type 0
  StepsTo x = Steps d facts user leaves calls c h.task x more

  -- what was done has its exchanges served and delivered
  abbrev StepTo : Done → Type 0
  StepTo x = AllZip (Serves d facts) (on facts.wall x.exchanges ++ more) all_turns
      → AllByRecursion IsStraight (on facts.wall x.exchanges) → StepsTo x

  step-declined : (decline : Decline) → StepTo (done_declined c h.task decline)
  step-declined decline served straight = record {
    now = [];
    left = leaves;
    rest = calls;
    tells = record { served = tt; ends = λ at a b fa fb. (decline, refl, refl); fine = λ at. refl; calm = λ at. refl };
    follows = record { side = s; found = found; follows = follows; records = records };
    legal = wall.legal;
    honest = wall.honest;
    end = refl;
    turned = refl;
    served = served;
  }

  ends-at : (x : Done) (t : SideView) (now : List Turn) → side_of facts.wall x.client.sides ≡ Some t
      → TellsBy facts whole s t x.outcome now → (a b : SideView) → side_of facts.wall c.sides ≡ Some a
      → side_of facts.wall x.client.sides ≡ Some b → TellsBy facts whole a b x.outcome now
  ends-at x t now there tells a b fa fb =
      subst (λ (v : SideView). TellsBy facts whole v b x.outcome now) (same-side c.sides facts.wall s a found fa)
      (subst (λ (v : SideView). TellsBy facts whole s v x.outcome now)
      (same-side x.client.sides facts.wall t b there fb) tells)

  -- one exchange was made
  steps-one : (x : Done) (y : Exchange) (t : Turn) (ts : List Turn) → wall_in y.request ≡ facts.wall
      → x.exchanges ≡ y ∷ [] → Passes d facts user leaves calls y more t ts → (v : SideView)
      → side_of facts.wall x.client.sides ≡ Some v → Follows d facts t.left v → AreTrue d facts t.left x.client.took
      → EndsBy facts whole s v t.left t.call.answer x.outcome → x.outcome.keys ≡ keys_ends.Fine → StepsTo x
  steps-one x y t ts at one p v there after truths ends fine = record {
    now = t ∷ [];
    left = t.left;
    rest = p.next.rest;
    tells = record {
      served = subst (λ (xs : List Exchange). AllZip (Serves d facts) xs (t ∷ []))
          (sym (ap (on facts.wall) one ∙ on-wall facts.wall y [] at)) (p.serves, tt);
      ends = λ here. ends-at x v (t ∷ []) there ends;
      fine = λ here. fine;
      calm = λ here. ends-calm facts whole s v t.left t.call.answer x.outcome ends fine;
    };
    follows = record { side = v; found = there; follows = after; records = truths };
    legal = p.next.legal;
    honest = p.next.left_honest;
    end = p.next.end;
    turned = p.are ∙ ap (λ (us : List Turn). t ∷ us) p.next.later;
    served = p.rest;
  }

  -- and then one for keys
  steps-two : (x : Done) (y z : Exchange) (t : Turn) (ts : List Turn) (u : Turn) (us : List Turn)
      → wall_in y.request ≡ facts.wall → wall_in z.request ≡ facts.wall → x.exchanges ≡ y ∷ z ∷ []
      → (p : Passes d facts user leaves calls y (z ∷ more) t ts)
      → Passes d facts user t.left p.next.rest z more u us → (v : SideView)
      → side_of facts.wall x.client.sides ≡ Some v → Follows d facts u.left v → AreTrue d facts u.left x.client.took
      → EndsBy facts whole s v t.left t.call.answer x.outcome → x.outcome.keys ≡ keys_ends.Fine → StepsTo x
  steps-two x y z t ts u us at bt both p q v there after truths ends fine = record {
    now = t ∷ u ∷ [];
    left = u.left;
    rest = q.next.rest;
    tells = record {
      served = subst (λ (xs : List Exchange). AllZip (Serves d facts) xs (t ∷ u ∷ []))
          (sym (ap (on facts.wall) both ∙ on-wall facts.wall y (z ∷ []) at
          ∙ ap (λ (xs : List Exchange). y ∷ xs) (on-wall facts.wall z [] bt))) (p.serves, (q.serves, tt));
      ends = λ here. ends-at x v (t ∷ u ∷ []) there ends;
      fine = λ here. fine;
      calm = λ here. ends-calm facts whole s v t.left t.call.answer x.outcome ends fine;
    };
    follows = record { side = v; found = there; follows = after; records = truths };
    legal = q.next.legal;
    honest = q.next.left_honest;
    end = p.next.end ∙ q.next.end;
    turned = p.are ∙ ap (λ (us : List Turn). t ∷ us) (p.next.later ∙ q.are
        ∙ ap (λ (us : List Turn). u ∷ us) q.next.later);
    served = q.rest;
  }

  -- ---- what was sent

  module _ (sent : Sent) (t : Turn) (ts : List Turn) (are : all_turns ≡ t ∷ ts) where
    abbrev x : Exchange
    x = exchange h.task (request_of s h.task.command sent.signed) (ask_of sent.signed) h.first

    abbrev c1 : PlainClient
    c1 = sent_from c s sent.signed

    abbrev s1 : SideView
    s1 = sent_side s sent.signed

    next : NextTurn d facts user leaves calls t ts
    next = next-turn d facts user leaves calls t ts wall.legal wall.honest wall.spelled are

    grows : Begins leaves t.left
    grows = grows-behind d facts user leaves calls t ts wall next

    at : wall_in x.request ≡ facts.wall
    at = request-wall h.task.command s sent.signed ∙ follows.accepted.knows.wall

    found1 : side_of facts.wall c1.sides ≡ Some s1
    found1 = sent-found c facts.wall s sent.signed found

    follows1 : Follows d facts t.left s1
    follows1 = follows-sent d facts t.left s sent.signed (follows-more d facts leaves t.left s grows follows)

    true1 : AreTrue d facts t.left c1.took
    true1 = subst (AreTrue d facts t.left) (sym (sent-took c s sent.signed))
        (trues-longer d facts leaves t.left c.took grows records)

    first-passes : AllZip (Serves d facts) (on facts.wall (x ∷ []) ++ more) all_turns
        → Passes d facts user leaves calls x more t ts
    first-passes served = passes d facts user leaves calls x more t ts wall are
        (subst (λ (xs : List Exchange). AllZip (Serves d facts) (xs ++ more) all_turns) (on-wall facts.wall x [] at) served)

    step-same : ToldSame d s.known sent.asked t.left t.call.answer h.first.reply
        → StepTo (done_sent d c1 h x s1 (Some (Ok (same (length t.left)))))
    step-same told =
        let j : Hearing = Some (Ok (same (length t.left))) in
        let c2 = heard_by c1 s1 j in
        subst StepTo (sym (done-alone d c2 h x s1 j (needs-none d facts t.left s1 follows1)))
        (λ served straight. steps-one (done_alone c2 h.task x s1 j) x t ts at refl (first-passes served) s1
        (heard-found c1 facts.wall s1 j found1) follows1 true1
        (subst (λ (a : Answer). EndsBy facts whole s s1 t.left a (done_alone c2 h.task x s1 j).outcome)
        (sym told.answered) (refl, inl (record { level = told.level; end = refl; shown = refl })))
        refl)

    step-refused : (told : ToldRefusal d s.known sent.asked t.call.answer h.first.reply)
        → StepTo (done_sent d c1 h x s1 (Some (Ok (refusal (code_of told.cause) (detail_of told.cause)))))
    step-refused told served straight =
        let j : Hearing = Some (Ok (refusal (code_of told.cause) (detail_of told.cause))) in
        let c2 = heard_by c1 s1 j in
        steps-one (done_alone c2 h.task x s1 j) x t ts at refl (first-passes served) s1
        (heard-found c1 facts.wall s1 j found1) follows1 true1
        (subst (λ (a : Answer). EndsBy facts whole s s1 t.left a (done_alone c2 h.task x s1 j).outcome)
        (sym told.answered) (record { end = refl; shown = refl }))
        refl

    -- ---- news

    module _ (told : ToldNews d facts s.known sent.asked t.left whole t.call.answer h.first.reply) where
      abbrev news : HearsNews d facts s.known sent.asked t.left whole h.first.reply
      news = told.news

      abbrev now : Judged
      now = taken news.view news.from news.tree (drop news.from t.left) news.lists

      abbrev j : Hearing
      j = Some (Ok now)

      abbrev c2 : PlainClient
      c2 = heard_by c1 s1 j

      abbrev s2 : SideView
      s2 = side_heard s1 j

      found2 : side_of facts.wall c2.sides ≡ Some s2
      found2 = heard-found c1 facts.wall s1 j found1

      true2 : AreTrue d facts t.left c2.took
      true2 = taken-true d facts t.left s.known.size news.from c1 s1 news.view news.tree news.lists news.is_view.size
          news.some news.shows true1

      takes : Follows d facts t.left s2 ⊎ (IsFront d facts t.left s2.known × (needs_keys s2 ≡ true))
      takes = takes-all d facts t.left s1 news.view news.from (epoch_after s1.known.epoch (drop news.from t.left))
          follows1 news.is_view
          (subst (λ (k : Known). k.size ≤ news.from) (sym (sent-known s sent.signed)) news.old) news.some
          (epoch-behind d facts t.left s1.known.epoch news.from next.left_honest.lawful news.some)

      shows-all : (v : SideView) (o : Outcome) → o.end ≡ ends.Accepted news.view.size news.from
          → o.shown ≡ shown_from v news.from (drop news.from t.left) → ShowsAll facts whole s v t.left o
      shows-all v o end shown = record {
        later = news.later;
        from = news.from;
        begins = news.begins;
        end = end ∙ ap (λ (n : ℕ). ends.Accepted n news.from) news.is_view.size;
        shown = shown;
      }

      ends-all : (v : SideView) (o : Outcome) → ShowsAll facts whole s v t.left o
          → EndsBy facts whole s v t.left t.call.answer o
      ends-all v o all = elim told.answered [
        | inl looked ↦ subst (λ (a : Answer). EndsBy facts whole s v t.left a o) (sym looked) (refl, inr all)
        | inr placed ↦ subst (λ (a : Answer). EndsBy facts whole s v t.left a o) (sym placed.1) (placed.2, all)
      ]

      step-alone : Follows d facts t.left s2 → StepTo (done_sent d c1 h x s1 j)
      step-alone after =
          subst StepTo (sym (done-alone d c2 h x s2 j (needs-none d facts t.left s2 after)))
          (λ served straight.
          let o = (done_alone c2 h.task x s2 j).outcome in
          steps-one (done_alone c2 h.task x s2 j) x t ts at refl (first-passes served) s2 found2 after true2
          (ends-all s2 o (shows-all s2 o refl refl)) refl)

      abbrev y : Exchange
      y = keys_exchange h.task s2 h.keys

      at2 : s2.known.wall ≡ facts.wall
      at2 = found-wall facts.wall c2.sides s2 found2

      -- the exchange for keys is the next turn
      step-keyed : IsFront d facts t.left s2.known → needs_keys s2 ≡ true
          → AllZip (Serves d facts) (x ∷ y ∷ more) all_turns → h.keys.delivered ≡ Some h.keys.reply
          → StepsTo (done_keyed c2 h.task x y s2 j (learning d s2.known h.keys.delivered))
      step-keyed front needs served delivered =
          let p = passes d facts user leaves calls x (y ∷ more) t ts wall are served in
          let f = first-of (Serves d facts) y more (turns_from d facts user t.left p.next.rest) p.rest in
          let u = f.y in
          let behind = wall-behind d facts user leaves calls t ts wall p.next in
          let q = passes d facts user t.left p.next.rest y more u f.others behind f.is p.rest in
          let changes = changes_of (take s2.known.size u.left) in
          let more_leaves = grows-behind d facts user t.left p.next.rest u f.others behind q.next in
          let learnt : learning d s2.known h.keys.delivered ≡ Some (Ok changes) =
          ap (option_map (keys_judged d s2.known)) delivered
          ∙ ap (λ r. Some r) (keys-told d facts user t.left p.next.rest u f.others behind q.next s2.known h.keys.reply front
          (needs-some d facts t.left s2 front needs) q.serves.asks q.serves.replies) in
          let v = relearnt s2 changes in
          let end = done_keyed c2 h.task x y s2 j (Some (Ok changes)) in
          subst (λ k. StepsTo (done_keyed c2 h.task x y s2 j k)) (sym learnt)
          (steps-two end x y t ts u f.others at at2 refl p q v
          (ap (λ (w : ℕ). side_of facts.wall (with_side w v c2.sides)) at2
          ∙ put-found facts.wall v c2.sides s2 found2 at2)
          (learns-all d facts u.left s2 changes (front-more d facts t.left u.left s2.known more_leaves front) refl)
          (trues-longer d facts t.left u.left c2.took more_leaves true2)
          (ends-all v end.outcome (shows-all v end.outcome refl refl)) refl)

      step-news : StepTo (done_sent d c1 h x s1 j)
      step-news = elim takes [
        | inl after ↦ step-alone after
        | inr short ↦ subst StepTo (sym (done-keyed d c2 h x s2 j short.1))
            (λ served straight.
            let both : on facts.wall (x ∷ y ∷ []) ≡ x ∷ y ∷ [] =
            on-wall facts.wall x (y ∷ []) at ∙ ap (λ (xs : List Exchange). x ∷ xs) (on-wall facts.wall y [] at2) in
            let straights = subst (AllByRecursion IsStraight) both straight in
            step-keyed short.0 short.1
            (subst (λ (xs : List Exchange). AllZip (Serves d facts) (xs ++ more) all_turns) both served)
            straights.1.0)
      ]

    -- ---- what was told

    told-of : SendsLook sent ⊎ SendsOp h.task.command sent → Serves d facts x t
        → Told d facts s.known sent.asked t.left whole t.call.answer h.first.reply
    told-of (inl look) serves =
        subst (λ (a : Asked). Told d facts s.known a t.left whole t.call.answer h.first.reply) (sym look.asked_is)
        (look-told d facts user leaves calls t ts wall next s.known whole h.first.reply follows.accepted
        (serves.asks ∙ ap ask_of look.signed)
        (subst (λ o. Replies d facts (request_of s h.task.command o) t.left t.call.answer h.first.reply) look.signed
        serves.replies))
    told-of (inr it) serves =
        subst (λ (a : Asked). Told d facts s.known a t.left whole t.call.answer h.first.reply) (sym it.asked_is)
        (subst (λ (b : Bool). Told d facts s.known (asked.Append (op_text it.op)) t.left b t.call.answer h.first.reply)
        (sym it.not_whole)
        (op-told d facts user leaves calls t ts wall next s.known it.op h.first.reply follows.accepted
        (serves.asks ∙ ap ask_of it.signed)
        (subst (λ o. Replies d facts (request_of s h.task.command o) t.left t.call.answer h.first.reply) it.signed
        serves.replies)))

    heard-so : (i : Judged) → h.first.delivered ≡ Some h.first.reply → judged d s.known sent.asked h.first.reply ≡ Ok i
        → StepTo (done_sent d c1 h x s1 (Some (Ok i)))
        → StepTo (done_sent d c1 h x s1 (hearing d s.known sent.asked h.first.delivered))
    heard-so i delivered is step =
        let heard : hearing d s.known sent.asked h.first.delivered ≡ Some (Ok i) =
        ap (option_map (judged d s.known sent.asked)) delivered ∙ ap (λ r. Some r) is in
        subst (λ (k : Hearing). StepTo (done_sent d c1 h x s1 k)) (sym heard) step

    step-told : h.first.delivered ≡ Some h.first.reply
        → Told d facts s.known sent.asked t.left whole t.call.answer h.first.reply
        → StepTo (done_sent d c1 h x s1 (hearing d s.known sent.asked h.first.delivered))
    step-told delivered (inl told) =
        heard-so (same (length t.left)) delivered told.judged_so (step-same told)
    step-told delivered (inr (inl told)) = heard-so (now told) delivered told.news.judged_so (step-news told)
    step-told delivered (inr (inr told)) =
        heard-so (refusal (code_of told.cause) (detail_of told.cause)) delivered told.judged_so (step-refused told)

  step-sent : (sent : Sent) → SendsLook sent ⊎ SendsOp h.task.command sent
      → StepTo (done_sent d (sent_from c s sent.signed) h
      (exchange h.task (request_of s h.task.command sent.signed) (ask_of sent.signed) h.first)
      (sent_side s sent.signed) (hearing d s.known sent.asked h.first.delivered))
  step-sent sent form served straight =
      let c1 = sent_from c s sent.signed in
      let s1 = sent_side s sent.signed in
      let x = exchange h.task (request_of s h.task.command sent.signed) (ask_of sent.signed) h.first in
      let j = hearing d s.known sent.asked h.first.delivered in
      let at : wall_in x.request ≡ facts.wall =
      request-wall h.task.command s sent.signed ∙ follows.accepted.knows.wall in
      let made = heard-exchanges d (heard_by c1 s1 j) h x (side_heard s1 j) j in
      let mine : on facts.wall (done_sent d c1 h x s1 j).exchanges ≡ x ∷ on facts.wall made.0 =
      ap (on facts.wall) made.1 ∙ on-wall facts.wall x made.0 at in
      let f = first-of (Serves d facts) x (on facts.wall made.0 ++ more) all_turns
      (subst (λ (xs : List Exchange). AllZip (Serves d facts) (xs ++ more) all_turns) mine served) in
      let delivered : h.first.delivered ≡ Some h.first.reply =
      (subst (AllByRecursion IsStraight) mine straight).0 in
      step-told sent f.y f.others f.is delivered (told-of sent f.y f.others f.is form f.here) served straight

  step-by : (r : Result Sent Decline) → ask c.signer c.user s (asked_by h.task.command) ≡ r
      → side_of (wall_of h.task.command) c.sides ≡ Some s → StepTo (done d c h)
  step-by (Err decline) asked there =
      subst StepTo (sym (done-declined d c h s decline there asked)) (step-declined decline)
  step-by (Ok sent) asked there =
      subst StepTo (sym (done-asked d c h s sent there asked))
      (step-sent sent (sends h.task.command c.signer c.user s sent asked))

  -- A command on the wall.
  pub step-here : wall_of h.task.command ≡ facts.wall → StepTo (done d c h)
  step-here here =
      step-by (ask c.signer c.user s (asked_by h.task.command)) refl
      (ap (λ (w : ℕ). side_of w c.sides) here ∙ found)

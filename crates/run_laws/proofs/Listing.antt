-- A user's commands on an honest wall go by its access list.
use Rattle.std.proofs.Common.{◌≡◌, ◌∙◌, inl, inr, ℕ, suc, ◌≤◌, true, false, List, [], ◌∷◌, take, Option, Some, None, Ok, Err, refl, sym, ap, subst}
use Rattle.std.specs.Prelude.{slice_get, if◌then◌else◌}
use Rattle.std.specs.List.{AllByRecursion}
use Rattle.std.proofs.lemmas.Bool.{cases_Bool}
use Rattle.fr_bytes.proofs.Lists.{each-append}
use Rattle.fr_bytes.specs.Bytes.{Text}
use Rattle.fr_digest.specs.Digest.{Digest}
use Rattle.op_types.specs.declared.kind.Kind.{Kind}
use Rattle.op_types.specs.declared.kind.Wrap.{Wrap}
use Rattle.op_types.specs.declared.op.Leaf.{Leaf}
use Rattle.op_types.specs.declared.op.Op.{Op}
use Rattle.op_types.specs.Kinds.{is_change}
use Rattle.world_book.specs.Records.{IsIn}
use Rattle.wall_law.specs.State.{state_of}
use Rattle.wall_law.proofs.Histories.{law-stands}
use Rattle.key_graph.specs.declared.change.Setting.{Setting}
use Rattle.key_graph.specs.KeyBook.{new_book}
use Rattle.key_graph.specs.Reach.{tree_of}
use Rattle.msg_form.specs.declared.decline.Decline.{Decline}
use Rattle.check_rules.specs.Verdict.{refusal, same, taken}
use Rattle.hall_core.specs.declared.ask.Ask.{Ask}
use Rattle.hall_core.specs.declared.ask.Ask.TheVariants as asks
use Rattle.hall_core.specs.declared.facts.WallFacts.{WallFacts}
use Rattle.hall_core.specs.Honest.{IsHonest}
use Rattle.script_read.specs.declared.script.Command.{Command}
use Rattle.script_read.specs.declared.script.Command.TheVariants as commands
use Rattle.script_form.specs.declared.outcome.CommandEnd.TheVariants as ends
use Rattle.client_core.specs.Asking.{Wish, adds, ask, changed, drops, kind_with, read_by}
use Rattle.client_core.specs.Keys.{KeysView, leaf_of, member, owner}
use Rattle.client_core.specs.Sides.{SideView, side_of}
use Rattle.client_core.proofs.Places.{each-found, found-wall}
use Rattle.session_laws.specs.Doing.{Did, Done, Exchange, Hearing, Heard, PlainClient, after, ask_of, asked_by, asks_keys, dids, done, done_heard, end_of, exchange, exchanges_of, hearing, request_of, stream, wall_of}
use Rattle.session_laws.proofs.Steps.{done-alone, done-asked, done-declined, done-keyed}
use Rattle.run_laws.specs.Following.{Follows, KeepsUp}
use Rattle.run_laws.specs.Keyed.{AreKeyed}
use Rattle.run_laws.specs.Listed.{AsksFor}
use Rattle.run_laws.specs.Reading.{AreByList, DeclinesAs, IsPosted, declined_by, is_named}
use Rattle.run_laws.specs.Untampered.{KeepsAlong}
use Rattle.run_laws.proofs.Asks.{ExchangeFor, asks-more, changed-kind}
use Rattle.run_laws.proofs.Bases.{AreBased, IsBased, done-based}
use Rattle.run_laws.proofs.Ending.{all-flat, each-in}
use Rattle.run_laws.proofs.Fronts.{all-more}
use Rattle.run_laws.proofs.Making.{IsMade, IsMadeBy, IsMadeThere, all-made, same-some}
use Rattle.run_laws.proofs.Planning.{IsMadeLeaf, keyed}
use Rattle.run_laws.proofs.Reading.{AskIs, IsSideOf, asks-by, reads-post}
use Rattle.run_laws.proofs.Signed.{IsNext, Makes, sent-next}
use Rattle.run_laws.proofs.Signing.{after-later}

-- ---- one command's end

no-decline : (j : Hearing) (decline : Decline) → end_of j ≡ ends.Declined decline → ⊥
no-decline None decline e = absurd cc
no-decline (Some (Err verdict)) decline e = absurd cc
no-decline (Some (Ok (same size))) decline e = absurd cc
no-decline (Some (Ok (taken view from tree leaves lists))) decline e = absurd cc
no-decline (Some (Ok (refusal cause number))) decline e = absurd cc

module _ (d : Digest) where
  heard-end : (c : PlainClient) (h : Heard) (x : Exchange) (s : SideView) (j : Hearing)
      → (done_heard d c h x s j).outcome.end ≡ end_of j
  heard-end c h x s j = elim (cases_Bool (asks_keys j s)) [
    | inl keys ↦ ap (λ (y : Done). y.outcome.end) (done-keyed d c h x s j keys)
    | inr none ↦ ap (λ (y : Done). y.outcome.end) (done-alone d c h x s j none)
  ]

  -- A command ends declined exactly where its client declined it.
  done-declines : (c : PlainClient) (h : Heard) (s : SideView) (o : Option Decline)
      → side_of (wall_of h.task.command) c.sides ≡ Some s
      → AskIs o (ask c.signer c.user s (asked_by h.task.command)) → DeclinesAs o (done d c h).outcome
  done-declines c h s (Some decline) found is =
      ap (λ (y : Done). y.outcome.end) (done-declined d c h s decline found is)
  done-declines c h s None found (sent, is) = λ decline e.
      let x = exchange h.task (request_of s h.task.command sent.signed) (ask_of sent.signed) h.first in
      let j = hearing d s.known sent.asked h.first.delivered in
      no-decline j decline (sym (ap (λ (y : Done). y.outcome.end) (done-asked d c h s sent found is)
      ∙ heard-end _ h x _ j) ∙ e)

-- ---- all commands

-- what holds of each element of a list holds of all
all-there : {A : Type 0} (P : A → Type 0) (xs : List A) → ((x : A) → IsIn xs x → P x) → AllByRecursion P xs
all-there P [] each = tt
all-there P (x ∷ xs) each = (
  each x (record { place = 0; there = refl }),
  all-there P xs (λ y at. each y (record { place = suc at.place; there = at.there })),
)

flat-exchanges : (P : Exchange → Type 0) (ds : List Did) → AllByRecursion (λ (x : Did). AllByRecursion P x.exchanges) ds
    → AllByRecursion P (exchanges_of ds)
flat-exchanges P [] all = tt
flat-exchanges P (x ∷ ds) all =
    each-append P x.exchanges (exchanges_of ds) all.0 (flat-exchanges P ds all.1)

module _ (d : Digest) (facts : WallFacts) (base : ℕ → ℕ → KeysView) (IsListed : ℕ → Type 0) (L : List Leaf)
    (start : ℕ → PlainClient) (heards : List Heard) (names : (u : ℕ) → IsListed u → (start u).user ≡ u)
    (along : (u : ℕ) → IsListed u → KeepsAlong d facts L (start u) (stream u heards))
    (based : (u : ℕ) → IsListed u → AreBased (base u) (start u)) where
  abbrev pub on_wall : ℕ → KeysView
  on_wall u = base u facts.wall

  -- what each listed user's client was asked for
  pub made-by : (u : ℕ) → IsListed u
      → AllByRecursion (IsMadeBy d facts L (base u) u) (dids d (start u) (stream u heards))
  made-by u listed =
      subst (λ (v : ℕ). AllByRecursion (IsMadeBy d facts L (base u) v) (dids d (start u) (stream u heards)))
      (names u listed) (all-made d facts L (base u) (stream u heards) (start u) (along u listed) (based u listed))

  -- An operation for the wall is made by a listed user's client, which follows it.
  abbrev pub IsMadeOp : Op → Type 0
  IsMadeOp op = op.wall ≡ facts.wall
      → IsListed op.author × ((command : Command) × IsMade d facts L (on_wall op.author) op.author command op)

  made-op : (u : ℕ) → IsListed u → (command : Command) (op : Op) → IsMadeThere d facts L (on_wall u) u command op
      → IsMadeOp op
  made-op u listed command op made at =
      let m = made at in
      let name = (sent-next m.signer u m.side command m.sent op m.asked m.signed).author in (
        subst IsListed (sym name) listed,
        (command, subst (λ (v : ℕ). IsMade d facts L (on_wall v) v command op) (sym name) m),
      )

  pub exchanges-made : (u : ℕ) → IsListed u
      → AllByRecursion (ExchangeFor IsMadeOp) (exchanges_of (dids d (start u) (stream u heards)))
  exchanges-made u listed = flat-exchanges (ExchangeFor IsMadeOp) (dids d (start u) (stream u heards))
      (all-more (IsMadeBy d facts L (base u) u) (λ (x : Did). AllByRecursion (ExchangeFor IsMadeOp) x.exchanges)
      (λ x by. all-more (λ (e : Exchange). AsksFor (IsMadeThere d facts L (on_wall u) u x.task.command) e.ask)
      (ExchangeFor IsMadeOp)
      (λ e asks'. asks-more (IsMadeThere d facts L (on_wall u) u x.task.command) IsMadeOp
      (made-op u listed x.task.command) e.ask asks') x.exchanges by)
      (dids d (start u) (stream u heards)) (made-by u listed))

  -- ---- posts

  -- an operation that is no change is that of a post
  abbrev pub IsPostedOp : Op → Type 0
  IsPostedOp op = op.wall ≡ facts.wall → is_change op.kind ≡ false → (text : Text) × IsPosted d start heards op text

  change-kind : (s : SideView) (wish : Wish) (kind : Kind) → changed s wish ≡ Ok kind → is_change kind ≡ true
  unfolding changed
  change-kind s wish kind e =
      let it = changed-kind s wish s.keys kind e in
      ap is_change (sym it.2) ∙ by wish it.0 it.1
    where
      by : (wish : Wish) (slot : ℕ) (wraps : List Wrap) → is_change (kind_with wish slot wraps) ≡ true
      by (adds other role) slot wraps = refl
      by (drops other) slot wraps = refl

  posted-op : (u : ℕ) → IsListed u → (x : Did) → IsIn (dids d (start u) (stream u heards)) x → (e : Exchange)
      → IsIn x.exchanges e → (op : Op) → e.ask ≡ asks.Append op
      → IsMadeThere d facts L (on_wall u) u x.task.command op → IsPostedOp op
  posted-op u listed x there e sent op asked made at post = by x.task.command refl next.makes
    where
      m : IsMade d facts L (on_wall u) u x.task.command op
      m = made at

      next : IsNext u m.side x.task.command op
      next = sent-next m.signer u m.side x.task.command m.sent op m.asked m.signed

      not-both : is_change op.kind ≡ true → (text : Text) × IsPosted d start heards op text
      not-both is = absurd (let f = sym post ∙ is in cc)

      by : (command : Command) → x.task.command ≡ command → Makes u m.side command op.kind
          → (text : Text) × IsPosted d start heards op text
      by (commands.Post wall text) is makes = (
        text,
        record {
          did = x;
          there = subst (λ (v : ℕ). IsIn (dids d (start v) (stream v heards)) x) (sym next.author) there;
          command = is ∙ ap (λ (w : ℕ). commands.Post w text) (ap wall_of (sym is) ∙ m.at ∙ sym at);
          exchange = e;
          sent = sent;
          asks = asked;
        },
      )
      by (commands.Read wall) is makes = absurd makes
      by (commands.ReadAll wall) is makes = absurd makes
      by (commands.Admit wall other role) is makes = not-both (change-kind m.side (adds other role) op.kind makes)
      by (commands.Remove wall other) is makes = not-both (change-kind m.side (drops other) op.kind makes)

  pub exchanges-posted : (u : ℕ) → IsListed u
      → AllByRecursion (ExchangeFor IsPostedOp) (exchanges_of (dids d (start u) (stream u heards)))
  exchanges-posted u listed = all-flat (ExchangeFor IsPostedOp) (λ (x : Did). x.exchanges)
      (dids d (start u) (stream u heards)) (λ x there. all-there (ExchangeFor IsPostedOp) x.exchanges
      (λ e sent. by x there e sent e.ask refl (each-in
      (λ (y : Exchange). AsksFor (IsMadeThere d facts L (on_wall u) u x.task.command) y.ask) x.exchanges e
      (each-in (IsMadeBy d facts L (base u) u) (dids d (start u) (stream u heards)) x (made-by u listed) there) sent)))
    where
      by : (x : Did) → IsIn (dids d (start u) (stream u heards)) x → (e : Exchange) → IsIn x.exchanges e → (ask : Ask)
          → e.ask ≡ ask → AsksFor (IsMadeThere d facts L (on_wall u) u x.task.command) ask → AsksFor IsPostedOp e.ask
      by x there e sent asks.Look is it = subst (AsksFor IsPostedOp) (sym is) tt
      by x there e sent (asks.Append op) is it =
          subst (AsksFor IsPostedOp) (sym is) (posted-op u listed x there e sent op is it)

-- who follows a wall along some commands follows it before them
first-keeps : {d : Digest} {facts : WallFacts} {L : List Leaf} (hs : List Heard) (c : PlainClient)
    → KeepsAlong d facts L c hs → KeepsUp d facts L c
first-keeps [] c along = along
first-keeps (h ∷ hs) c along = along.0

module _ (d : Digest) (facts : WallFacts) (setting : Setting) (secrets : List (ℕ × Text)) (deep : 1 ≤ setting.depth)
    (base : ℕ → ℕ → KeysView) (owned : base facts.owner facts.wall ≡ owner (tree_of setting []) secrets)
    (IsListed : ℕ → Type 0)
    (booked : (u : ℕ) → (u ≡ facts.owner → ⊥) → IsListed u
    → base u facts.wall ≡ member (new_book setting.wall setting.depth u (leaf_of setting.wall secrets u)))
    (L : List Leaf) (honest : IsHonest d facts L)
    (start : ℕ → PlainClient) (heards : List Heard)
    (names : (u : ℕ) → IsListed u → (start u).user ≡ u)
    (along : (u : ℕ) → IsListed u → KeepsAlong d facts L (start u) (stream u heards))
    (based : (u : ℕ) → IsListed u → AreBased (base u) (start u)) where
  module _ (ops : (k : ℕ) (leaf : Leaf) → slice_get L k ≡ Some leaf
      → IsMadeOp d facts base IsListed L start heards names along based leaf.op) where
    made-leaf : (k : ℕ) (leaf : Leaf) → slice_get L k ≡ Some leaf → IsListed leaf.op.author
        × IsMadeLeaf d facts L (λ (u : ℕ). base u facts.wall) leaf
    made-leaf k leaf at = ops k leaf at
        (law-stands (state_of facts.owner (take k L)) facts.wall k leaf.op (honest.lawful k leaf at).lawful).same_wall

    all-keyed : AreKeyed setting secrets L
    all-keyed = keyed d facts L honest setting secrets (λ (u : ℕ). base u facts.wall) owned
        (λ k leaf at. (made-leaf k leaf at).1)

    abbrev IsSide : ℕ → SideView → Type 0
    IsSide = IsSideOf d facts setting secrets deep (λ (u : ℕ). base u facts.wall) owned IsListed booked L honest all-keyed

    -- a client's side of the wall
    side-is : (u : ℕ) → IsListed u → (c : PlainClient) → KeepsUp d facts L c → AreBased (base u) c → (s : SideView)
        → side_of facts.wall c.sides ≡ Some s → IsSide u s
    side-is u listed c keeps all s found = record {
      follows = subst (Follows d facts L) (same-some keeps.side s (side_of facts.wall c.sides) keeps.found found)
          keeps.follows;
      began = each-found (IsBased (base u)) facts.wall c.sides s all found
          ∙ ap (base u) (found-wall facts.wall c.sides s found);
      listed = listed;
    }

    -- the operation of a post is made for its command
    posted-made : (op : Op) (text : Text) → IsListed op.author → op.wall ≡ facts.wall → IsPosted d start heards op text
        → IsMade d facts L (base op.author facts.wall) op.author (commands.Post op.wall text) op
    posted-made op text listed at posted =
        let all = made-by d facts base IsListed L start heards names along based op.author listed in
        let one : IsMadeBy d facts L (base op.author) op.author posted.did =
        each-in (IsMadeBy d facts L (base op.author) op.author)
        (dids d (start op.author) (stream op.author heards)) posted.did all posted.there in
        let asked : AsksFor (IsMadeThere d facts L (base op.author facts.wall) op.author posted.did.task.command)
        posted.exchange.ask =
        each-in (λ (e : Exchange). AsksFor (IsMadeThere d facts L (base op.author facts.wall) op.author
        posted.did.task.command) e.ask) posted.did.exchanges posted.exchange one posted.sent in
        let made : IsMadeThere d facts L (base op.author facts.wall) op.author posted.did.task.command op =
        subst (AsksFor (IsMadeThere d facts L (base op.author facts.wall) op.author posted.did.task.command)) posted.asks
        asked in
        subst (λ (command : Command). IsMade d facts L (base op.author facts.wall) op.author command op) posted.command
        (made at)

    by-list : (u : ℕ) → IsListed u → (hs : List Heard) (c : PlainClient) → c.user ≡ u → KeepsAlong d facts L c hs
        → AreBased (base u) c
        → AreByList d setting.depth facts.owner facts.wall (IsPosted d start heards) L c hs
    by-list u listed [] c name keeps all = tt
    by-list u listed (h ∷ hs) c name keeps all =
        let c' = after d c h in
        let all' = done-based (base u) d c h all in (
          record {
            declines = λ at s found.
                subst (λ (v : ℕ). DeclinesAs (declined_by setting.depth facts.owner v
                (state_of facts.owner (take s.known.size L)).entries h.task.command) (done d c h).outcome) (sym name)
                (done-declines d c h s (declined_by setting.depth facts.owner u
                (state_of facts.owner (take s.known.size L)).entries h.task.command)
                (subst (λ (w : ℕ). side_of w c.sides ≡ Some s) (sym at) found)
                (subst (λ (v : ℕ). AskIs (declined_by setting.depth facts.owner u
                (state_of facts.owner (take s.known.size L)).entries h.task.command)
                (ask c.signer v s (asked_by h.task.command))) (sym name)
                (asks-by d facts setting secrets deep (λ (u : ℕ). base u facts.wall) owned IsListed booked L honest
                all-keyed u s (side-is u listed c keeps.0 all s found) c.signer
                h.task.command)));
            reads = λ t found k leaf text at less posted.
                let it = made-leaf k leaf at in
                let there = (law-stands (state_of facts.owner (take k L)) facts.wall k leaf.op
                (honest.lawful k leaf at).lawful).same_wall in
                subst (λ (v : ℕ). read_by t leaf.op
                ≡ (if is_named (state_of facts.owner (take k L)).entries v then Some text else None)) (sym name)
                (reads-post d facts setting secrets deep (λ (u : ℕ). base u facts.wall) owned IsListed booked L honest
                all-keyed t u
                (side-is u listed c' (first-keeps hs c' keeps.1) all' t found) k leaf at less leaf.op.wall text it.0
                (posted-made leaf.op text it.0 there posted) (λ j l there'. (made-leaf j l there').1));
          },
          by-list u listed hs c' ((after-later d c h).user ∙ name) keeps.1 all',
        )

    -- Each listed user's commands go by the list.
    pub user-by-list : (u : ℕ) → IsListed u
        → AreByList d setting.depth facts.owner facts.wall (IsPosted d start heards) L (start u) (stream u heards)
    user-by-list u listed =
        by-list u listed (stream u heards) (start u) (names u listed) (along u listed) (based u listed)

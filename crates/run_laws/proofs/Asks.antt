-- What the clients of a run ask of a wall, what its calls ask, and what its leaves hold.
use Rattle.std.proofs.Common.{◌≡◌, inl, inr, ℕ, ◌+◌, Bool, true, false, cond, List, [], ◌∷◌, ◌++◌, filter, Option, Some, None, Result, Ok, Err, refl, sym, ap, subst, eq-eqb}
use Rattle.std.specs.Prelude.{nat_eq, nat_lt, if◌then◌else◌}
use Rattle.std.specs.List.{AllByRecursion, AllZip}
use Rattle.std.proofs.lemmas.Bool.{cases_Bool}
use Rattle.fr_bytes.specs.Bytes.{Text}
use Rattle.fr_bytes.proofs.Lists.{each-append}
use Rattle.fr_digest.specs.Digest.{Digest}
use Rattle.op_types.specs.declared.kind.Kind.{Kind}
use Rattle.op_types.specs.declared.kind.Kind.TheVariants as kinds
use Rattle.op_types.specs.declared.kind.Wrap.{Wrap}
use Rattle.op_types.specs.declared.op.Leaf.{Leaf}
use Rattle.op_types.specs.declared.op.Op.{Op}
use Rattle.lms_tree.specs.Signer.{Signing}
use Rattle.signed_ops.specs.Signed.{signed_by}
use Rattle.wall_law.specs.State.{state_of}
use Rattle.key_graph.specs.declared.change.PlanRefusal.{PlanRefusal}
use Rattle.key_graph.specs.KeyTree.{planned}
use Rattle.msg_form.specs.declared.decline.Decline.{Decline}
use Rattle.msg_form.specs.declared.decline.Decline.TheVariants as declines
use Rattle.script_read.specs.declared.script.Command.{Command}
use Rattle.script_read.specs.declared.script.Command.TheVariants as commands
use Rattle.hall_core.specs.declared.ask.Answer.{Answer}
use Rattle.hall_core.specs.declared.ask.Answer.TheVariants.{Looked, Placed, Refused}
use Rattle.hall_core.specs.declared.ask.Ask.{Ask}
use Rattle.hall_core.specs.declared.ask.Ask.TheVariants as asks
use Rattle.hall_core.specs.declared.ask.Called.{Called}
use Rattle.hall_core.specs.declared.facts.WallFacts.{WallFacts}
use Rattle.hall_core.specs.Calls.{Turn, left_by, play_from, turns_from}
use Rattle.hall_core.specs.PlainWall.{leaf_of, left_behind, where_placed}
use Rattle.client_core.specs.declared.sent.Sent.{Sent}
use Rattle.client_core.specs.Asking.{Wish, adds, ask, changed, changed_by, drops, key_change, kind_planned, kind_with, look_sent, owner_decline, padded_post, posted, sent_of, sent_with, unsigned, whom}
use Rattle.client_core.specs.Keys.{KeysView, held, member, owner, root_key}
use Rattle.client_core.specs.Sides.{SideView, side_of}
use Rattle.session_laws.specs.Doing.{Exchange, Hearing, Heard, PlainClient, ask_of, asked_by, asks_keys, done, done_asked, done_heard, done_on, exchange, heard_by, hearing, request_of, sent_from, sent_side, side_heard, wall_of}
use Rattle.session_laws.specs.Halves.{Serves}
use Rattle.session_laws.specs.Histories.{IsUser}
use Rattle.run_laws.specs.Listed.{AdmitsUsers, AsksFor, IsOfUsers, IsOpOfUsers}
use Rattle.run_laws.proofs.Fronts.{all-parts}

-- ---- what a client asks

planned-kind : (wish : Wish) (r : Result (ℕ × List Wrap) PlanRefusal) (kind : Kind) → kind_planned wish r ≡ Ok kind
    → (slot : ℕ) × (wraps : List Wrap) × (kind_with wish slot wraps ≡ kind)
planned-kind wish (Err refusal) kind e = absurd cc
planned-kind wish (Ok plan) kind e = (plan.0, plan.1, (let is : kind_with wish plan.0 plan.1 ≡ kind = cc in is))

pub changed-kind : (s : SideView) (wish : Wish) (keys : KeysView) (kind : Kind) → changed_by s wish keys ≡ Ok kind
    → (slot : ℕ) × (wraps : List Wrap) × (kind_with wish slot wraps ≡ kind)
changed-kind s wish (member book) kind e = absurd cc
changed-kind s wish (owner tree secrets) kind e = by (nat_lt (held s.keys) s.known.epoch)
    (nat_eq (whom wish) s.known.owner) e
  where
    by : (a b : Bool) → (if a then Err declines.NotMember else if b then Err (owner_decline wish)
        else kind_planned wish (planned tree (s.next + 1) (key_change tree secrets wish))) ≡ Ok kind
        → (slot : ℕ) × (wraps : List Wrap) × (kind_with wish slot wraps ≡ kind)
    by true b e' = absurd cc
    by false true e' = absurd cc
    by false false e' = planned-kind wish (planned tree (s.next + 1) (key_change tree secrets wish)) kind e'

admits-of : (users : List ℕ) (s : SideView) (other role : ℕ) (kind : Kind) → changed s (adds other role) ≡ Ok kind
    → IsUser users other → IsOfUsers users kind
unfolding changed
admits-of users s other role kind e is =
    let k = changed-kind s (adds other role) s.keys kind e in subst (IsOfUsers users) k.2 is

drops-of : (users : List ℕ) (s : SideView) (other : ℕ) (kind : Kind) → changed s (drops other) ≡ Ok kind
    → IsOfUsers users kind
unfolding changed
drops-of users s other kind e =
    let k = changed-kind s (drops other) s.keys kind e in subst (IsOfUsers users) k.2 tt

padded-of : (users : List ℕ) (author seq : ℕ) (text : Text) (key : Option Text) (kind : Kind)
    → padded_post author seq text key ≡ Ok kind → IsOfUsers users kind
padded-of users author seq text None kind e = absurd cc
padded-of users author seq text (Some key) kind e = by _ kind e
  where
    by : (body : Text) (k : Kind) → (let r : Result Kind Decline = Ok (kinds.Post body) in r) ≡ Ok k → IsOfUsers users k
    by body k e' = let is : kinds.Post body ≡ k = cc in subst (IsOfUsers users) is tt

posts-of : (users : List ℕ) (user : ℕ) (s : SideView) (text : Text) (kind : Kind) → posted user s text ≡ Ok kind
    → IsOfUsers users kind
unfolding posted
posts-of users user s text kind e = padded-of users user s.next text (root_key s.keys s.known.epoch) kind e

-- an operation that is sent is signed by its author, and is of this kind
sent-ask : (P : Op → Type 0) (have : ℕ) (op : Op) → P op → AsksFor P (ask_of (sent_of have op).signed)
unfolding sent_of
sent-ask P have op holds = holds

module _ (P : Op → Type 0) (signer : Signing) (user : ℕ) (s : SideView) where
  -- whatever the kind is, this holds of the operation that is signed of it
  abbrev pub SignsFor : Kind → Type 0
  SignsFor kind = P (signed_by signer (unsigned user s kind))

  pub with-ask : (r : Result Kind Decline) (sent : Sent) → ((kind : Kind) → r ≡ Ok kind → SignsFor kind)
      → sent_with signer user s r ≡ Ok sent → AsksFor P (ask_of sent.signed)
  with-ask (Err decline) sent holds e = absurd cc
  with-ask (Ok kind) sent holds e =
      let is : sent_of s.known.size (signed_by signer (unsigned user s kind)) ≡ sent = cc in
      subst (λ (x : Sent). AsksFor P (ask_of x.signed)) is
      (sent-ask P s.known.size (signed_by signer (unsigned user s kind)) (holds kind refl))

  pub look-ask : (whole : Bool) (sent : Sent) → look_sent s whole ≡ sent → AsksFor P (ask_of sent.signed)
  look-ask whole sent is = subst (λ (x : Sent). AsksFor P (ask_of x.signed)) is tt

  -- whatever a client signs
  pub any-ask : (command : Command) (sent : Sent) → ((kind : Kind) → SignsFor kind)
      → ask signer user s (asked_by command) ≡ Ok sent → AsksFor P (ask_of sent.signed)
  any-ask (commands.Read wall) sent holds e = look-ask false sent (let is : look_sent s false ≡ sent = cc in is)
  any-ask (commands.ReadAll wall) sent holds e = look-ask true sent (let is : look_sent s true ≡ sent = cc in is)
  any-ask (commands.Post wall text) sent holds e = with-ask (posted user s text) sent (λ kind is. holds kind) e
  any-ask (commands.Admit wall other role) sent holds e =
      with-ask (changed s (adds other role)) sent (λ kind is. holds kind) e
  any-ask (commands.Remove wall other) sent holds e = with-ask (changed s (drops other)) sent (λ kind is. holds kind) e

pub signed-kind : (signer : Signing) (op : Op) → (signed_by signer op).kind ≡ op.kind
unfolding signed_by
signed-kind signer op = refl

pub signed-author : (signer : Signing) (op : Op) → (signed_by signer op).author ≡ op.author
unfolding signed_by
signed-author signer op = refl

-- a command that admits a user of the run asks for no other
pub users-ask : (users : List ℕ) (signer : Signing) (user : ℕ) (s : SideView) (command : Command) (sent : Sent)
    → AdmitsUsers users command → ask signer user s (asked_by command) ≡ Ok sent
    → AsksFor (IsOpOfUsers users) (ask_of sent.signed)
users-ask users signer user s command sent admits e = by command sent admits e
  where
    of : (kind : Kind) → IsOfUsers users kind → IsOpOfUsers users (signed_by signer (unsigned user s kind))
    of kind is = subst (IsOfUsers users) (sym (signed-kind signer (unsigned user s kind))) is

    by : (command : Command) (sent : Sent) → AdmitsUsers users command
        → ask signer user s (asked_by command) ≡ Ok sent → AsksFor (IsOpOfUsers users) (ask_of sent.signed)
    by (commands.Read wall) sent admits e = look-ask (IsOpOfUsers users) signer user s false sent
        (let is : look_sent s false ≡ sent = cc in is)
    by (commands.ReadAll wall) sent admits e = look-ask (IsOpOfUsers users) signer user s true sent
        (let is : look_sent s true ≡ sent = cc in is)
    by (commands.Post wall text) sent admits e = with-ask (IsOpOfUsers users) signer user s (posted user s text) sent
        (λ kind is. of kind (posts-of users user s text kind is)) e
    by (commands.Admit wall other role) sent admits e = with-ask (IsOpOfUsers users) signer user s
        (changed s (adds other role)) sent (λ kind is. of kind (admits-of users s other role kind is admits)) e
    by (commands.Remove wall other) sent admits e = with-ask (IsOpOfUsers users) signer user s
        (changed s (drops other)) sent (λ kind is. of kind (drops-of users s other kind is)) e

-- ---- what the exchanges of a command ask

pub asks-more : (P Q : Op → Type 0) → ((op : Op) → P op → Q op) → (a : Ask) → AsksFor P a → AsksFor Q a
asks-more P Q step asks.Look it = tt
asks-more P Q step (asks.Append op) it = step op it

abbrev pub ExchangeFor : (Op → Type 0) → Exchange → Type 0
ExchangeFor P x = AsksFor P x.ask

module _ (d : Digest) (P : Op → Type 0) where
  heard-asks : (c : PlainClient) (h : Heard) (x : Exchange) (s : SideView) (j : Hearing) → ExchangeFor P x
      → AllByRecursion (ExchangeFor P) (done_heard d c h x s j).exchanges
  heard-asks c h x s j holds = by (asks_keys j s) refl
    where
      by : (b : Bool) → asks_keys j s ≡ b → AllByRecursion (ExchangeFor P) (done_heard d c h x s j).exchanges
      by true is = rw is (holds, (tt, tt))
      by false is = rw is (holds, tt)

  asked-asks : (c : PlainClient) (h : Heard) (s : SideView) (r : Result Sent Decline)
      → ((sent : Sent) → r ≡ Ok sent → AsksFor P (ask_of sent.signed))
      → AllByRecursion (ExchangeFor P) (done_asked d c h s r).exchanges
  asked-asks c h s (Err decline) holds = tt
  asked-asks c h s (Ok sent) holds =
      let c1 = sent_from c s sent.signed in
      let s1 = sent_side s sent.signed in
      let j = hearing d s.known sent.asked h.first.delivered in
      heard-asks (heard_by c1 s1 j) h
      (exchange h.task (request_of s h.task.command sent.signed) (ask_of sent.signed) h.first)
      (side_heard s1 j) j (holds sent refl)

  on-asks : (c : PlainClient) (h : Heard) (o : Option SideView)
      → ((s : SideView) (sent : Sent) → o ≡ Some s → ask c.signer c.user s (asked_by h.task.command) ≡ Ok sent
      → AsksFor P (ask_of sent.signed))
      → AllByRecursion (ExchangeFor P) (done_on d c h o).exchanges
  on-asks c h None holds = tt
  on-asks c h (Some s) holds =
      asked-asks c h s (ask c.signer c.user s (asked_by h.task.command)) (λ sent is. holds s sent refl is)

  -- What is asked in the exchanges of a command is what the client asks for it, or to look.
  pub done-asks : (c : PlainClient) (h : Heard)
      → ((s : SideView) (sent : Sent) → side_of (wall_of h.task.command) c.sides ≡ Some s
      → ask c.signer c.user s (asked_by h.task.command) ≡ Ok sent → AsksFor P (ask_of sent.signed))
      → AllByRecursion (ExchangeFor P) (done d c h).exchanges
  unfolding done
  done-asks c h holds = on-asks c h (side_of (wall_of h.task.command) c.sides) holds

pub some-of : {A : Type 0} (P : A → Type 0) (p : A → Bool) (xs : List A) → AllByRecursion P xs
    → AllByRecursion P (filter p xs)
some-of P p [] all = tt
some-of P p (x ∷ xs) all = elim (cases_Bool (p x)) [
  | inl is ↦ rw is (all.0, some-of P p xs all.1)
  | inr off ↦ rw off (some-of P p xs all.1)
]

-- ---- what the calls on a wall ask

abbrev pub CallFor : (Op → Type 0) → Called → Type 0
CallFor P call = AsksFor P call.ask

module _ (d : Digest) (facts : WallFacts) (P : Op → Type 0) where
  -- the turns of exchanges ask what these ask
  pub turns-ask : (xs : List Exchange) (ts : List Turn) → AllZip (Serves d facts) xs ts
      → AllByRecursion (ExchangeFor P) xs → AllByRecursion (λ (t : Turn). CallFor P t.call) ts
  turns-ask [] [] zip all = tt
  turns-ask [] (t ∷ ts) zip all = absurd zip
  turns-ask (x ∷ xs) [] zip all = absurd zip
  turns-ask (x ∷ xs) (t ∷ ts) zip all =
      (subst (AsksFor P) (sym zip.0.asks) all.0, turns-ask xs ts zip.1 all.1)

  -- each call is a turn of its caller
  pub calls-ask : (users : List ℕ) (leaves : List Leaf) (calls : List Called)
      → AllByRecursion (λ (call : Called). IsUser users call.caller) calls
      → ((user : ℕ) → IsUser users user
      → AllByRecursion (λ (t : Turn). CallFor P t.call) (turns_from d facts user leaves calls))
      → AllByRecursion (CallFor P) calls
  calls-ask users leaves [] known each = tt
  calls-ask users leaves (call ∷ calls) known each =
      let behind = left_by d facts leaves call in
      let mine : turns_from d facts call.caller leaves (call ∷ calls)
      ≡ (record { call = call; left = behind }) ∷ turns_from d facts call.caller behind calls =
      ap (λ (b : Bool). cond b ((record { call = call; left = behind }) ∷ []) []
      ++ turns_from d facts call.caller behind calls) (eq-eqb call.caller call.caller refl) in
      let first = subst (AllByRecursion (λ (t : Turn). CallFor P t.call)) mine (each call.caller known.0) in (
        first.0,
        calls-ask users behind calls known.1 (λ user listed.
            (all-parts (λ (t : Turn). CallFor P t.call)
            (cond (nat_eq call.caller user) ((record { call = call; left = behind }) ∷ []) [])
            (turns_from d facts user behind calls) (each user listed)).1),
      )

  -- ---- what its leaves hold

  placed-for : (leaves : List Leaf) (op : Op) (answer : Answer) → P op
      → AllByRecursion (λ (leaf : Leaf). P leaf.op) leaves
      → AllByRecursion (λ (leaf : Leaf). P leaf.op) (where_placed d facts leaves op answer)
  placed-for leaves op (Looked size) holds all = all
  placed-for leaves op (Placed position) holds all =
      each-append (λ (leaf : Leaf). P leaf.op) leaves (leaf_of d (state_of facts.owner leaves) op ∷ []) all (holds, tt)
  placed-for leaves op (Refused cause) holds all = all

  left-for : (leaves : List Leaf) (a : Ask) (answer : Answer) → AsksFor P a
      → AllByRecursion (λ (leaf : Leaf). P leaf.op) leaves
      → AllByRecursion (λ (leaf : Leaf). P leaf.op) (left_behind d facts leaves a answer)
  left-for leaves asks.Look answer holds all = all
  left-for leaves (asks.Append op) answer holds all = placed-for leaves op answer holds all

  -- the leaves that calls leave are of operations that these asked for
  pub played-for : (leaves : List Leaf) (calls : List Called) → AllByRecursion (λ (leaf : Leaf). P leaf.op) leaves
      → AllByRecursion (CallFor P) calls
      → AllByRecursion (λ (leaf : Leaf). P leaf.op) (play_from d facts leaves calls)
  played-for leaves [] all each = all
  played-for leaves (call ∷ calls) all each =
      played-for (left_by d facts leaves call) calls (left-for leaves call.ask call.answer each.0 all) each.1

-- What a call on a wall leaves as it was, and the side that it leaves.
use Rattle.std.proofs.Common.{◌≡◌, ◌∙◌, inl, inr, ℕ, ◌+◌, [], ◌∷◌, ◌++◌, Option, Some, None, refl, ap, sym, subst, List}
use Rattle.std.specs.Prelude.{if◌then◌else◌, Ok, Err}
use Rattle.std.proofs.lemmas.Bool.{cases_Bool, cond-true, cond-false}
use Rattle.fr_bytes.specs.Bytes.{Text}
use Rattle.fr_digest.specs.Digest.{Digest}
use Rattle.op_types.specs.declared.op.Op.{Op}
use Rattle.lms_tree.specs.Signer.{Signing}
use Rattle.check_core.specs.declared.checked.Checked.{Checked}
use Rattle.check_core.specs.declared.checked.Checked.TheVariants as answers
use Rattle.check_core.specs.View.{checked_view}
use Rattle.check_rules.specs.Verdict.{keys_judged}
use Rattle.msg_form.specs.declared.verdict.Verdict.{Verdict}
use Rattle.signed_ops.specs.Signed.{once_more}
use Rattle.world_book.specs.declared.book.UserBook.{UserBook}
use Rattle.world_book.specs.declared.world.WallNote.{WallNote}
use Rattle.client_core.specs.declared.news.News.{News}
use Rattle.client_core.specs.declared.sent.Sent.{Sent}
use Rattle.client_core.specs.Asking.{Command}
use Rattle.client_core.specs.Clients.{Asks, ClientView, Hears, Rejects, Relearns, book_after, having_sent, took_of, with_signed, side_sent}
use Rattle.client_core.specs.Keeping.{StaysAs, note_of_side}
use Rattle.client_core.specs.Sides.{SideView, side_of, with_side}
use Rattle.client_core.specs.Taking.{heard, relearnt, side_after, take}
use Rattle.client_core.proofs.Asked.{one-side}
use Rattle.client_core.proofs.Keeping.{put-users}
use Rattle.client_core.proofs.Places.{found-wall, put-found, put-map, put-other}

-- the same book but for its lists
pub record IsBookOf (before after : UserBook) : Type 0 where
  pub user : after.user ≡ before.user
  pub key : after.key ≡ before.key
  pub rogue : after.rogue ≡ before.rogue

either-book : (before same : UserBook) → IsBookOf before same → IsBookOf before (if before.rogue then before else same)
either-book before same is = elim (cases_Bool before.rogue) [
  | inl rogue ↦ subst (IsBookOf before) (sym (cond-true before.rogue before same rogue))
      (record { user = refl; key = refl; rogue = refl })
  | inr honest ↦ subst (IsBookOf before) (sym (cond-false before.rogue before same honest)) is
]

-- what is the same of a side
pub record IsSideOf (before after : SideView) : Type 0 where
  pub note : note_of_side after ≡ note_of_side before
  pub users : after.known.users ≡ before.known.users

puts : (before : ClientView) (wall : ℕ) (s t : SideView) (signer : Signing) (book : UserBook)
    → side_of wall before.sides ≡ Some s → IsSideOf s t
    → IsBookOf before.book book → StaysAs before wall (record {
      signer = signer;
      sides = with_side s.known.wall t
          before.sides;
      book = book;
    })
puts before wall s t signer book found same same-book =
    let at = found-wall wall before.sides s found in
    let own : side_of s.known.wall before.sides ≡ Some s = subst (λ (w : ℕ). side_of w before.sides
    ≡ Some s) (sym at) found in
    record {
      others = λ v ne. put-other s.known.wall v t before.sides (ap (λ (n : WallNote). n.wall) same.note) (λ e. ne
          (e ∙ at));
      notes = put-map note_of_side s.known.wall t before.sides s own same.note;
      users = put-users s.known.wall t before.sides s own same.users;
      user = same-book.user;
      key = same-book.key;
      rogue = same-book.rogue;
    }

-- ---- what is asked

sends : (before : ClientView) (wall : ℕ) (s : SideView) (signed : Option Op) → side_of wall before.sides ≡ Some s
    → StaysAs before wall (having_sent before s signed)
sends before wall s None found = record {
  others = λ v ne. refl;
  notes = refl;
  users = refl;
  user = refl;
  key =
      refl;
  rogue = refl;
}
sends before wall s (Some op) found =
    puts before wall s (record s { next = s.next + 1 }) (once_more before.signer) (with_signed before.book op) found
    (record { note = refl; users = refl })
    (either-book before.book (record before.book {
      signed = before.book.signed ++
          (record { user = before.book.user; op = op }) ∷ [];
    })
    (record { user = refl; key = refl; rogue = refl }))

pub asked-stays : (before after : ClientView) (wall : ℕ) (command : Command) (sent : Sent)
    → Asks before wall command sent after → StaysAs before wall after
asked-stays before after wall command sent asks =
    subst (StaysAs before wall) (sym asks.after_is) (sends before wall asks.side sent.signed asks.found)

-- ---- what is heard

side-so : (s : SideView) (checked : Checked) → IsSideOf s (side_after s (checked_view checked))
side-so s (answers.Same size) = record { note = refl; users = refl }
side-so s (answers.Taken view from proof leaves dicts) = record { note = refl; users = refl }
side-so s (answers.Refused cause number) = record { note = refl; users = refl }

book-so : (book : UserBook) (s : SideView) (checked : Checked) → IsBookOf book (book_after book s checked)
book-so book s (answers.Same size) = record { user = refl; key = refl; rogue = refl }
book-so book s (answers.Taken view from proof leaves dicts) =
    either-book book (record book { took = book.took ++ took_of book.user s view from proof leaves dicts ∷ [] })
    (record { user = refl; key = refl; rogue = refl })
book-so book s (answers.Refused cause number) = record { user = refl; key = refl; rogue = refl }

pub heard-stays : (d : Digest) (before after : ClientView) (sent : Sent) (bytes : Text) (news : News)
    → Hears d before sent bytes news after
    → StaysAs before sent.wall after
heard-stays d before after sent bytes news hears =
    subst (StaysAs before sent.wall) (sym hears.after_is)
    (puts before sent.wall hears.side (side_after hears.side (checked_view hears.checked)) before.signer
    (book_after before.book hears.side hears.checked)
    hears.found (side-so hears.side hears.checked) (book-so before.book hears.side hears.checked))

-- the side that a call leaves on its wall
left-side : (before : ClientView) (wall : ℕ) (s t u : SideView) → side_of wall before.sides ≡ Some s
    → t.known.wall ≡ s.known.wall → side_of wall (with_side s.known.wall t before.sides) ≡ Some u → u ≡ t
left-side before wall s t u found walls after =
    let at = found-wall wall before.sides s found in
    let own = subst (λ (w : ℕ). side_of w before.sides ≡ Some s) (sym at) found in
    let put : side_of wall (with_side s.known.wall t before.sides) ≡ Some t =
    subst (λ (w : ℕ). side_of w (with_side s.known.wall t before.sides) ≡ Some t) at
    (put-found s.known.wall t before.sides s own walls) in
    let f = sym after ∙ put in cc

sent-side : (before : ClientView) (wall : ℕ) (s t : SideView) (signed : Option Op) → side_of wall before.sides ≡ Some s
    → side_of wall (having_sent before s signed).sides ≡ Some t → t ≡ side_sent s signed
sent-side before wall s t None found after = one-side wall before t s after found
sent-side before wall s t (Some op) found after =
    left-side before wall s (record s { next = s.next + 1 }) t found refl after

pub asked-side : (before after : ClientView) (wall : ℕ) (command : Command) (sent : Sent)
    → Asks before wall command sent after → (s t : SideView) → side_of wall before.sides ≡ Some s
    → side_of wall after.sides ≡ Some t → t ≡ side_sent s sent.signed
asked-side before after wall command sent asks s t found found-after =
    let there = subst (λ (c : ClientView). side_of wall c.sides ≡ Some t) asks.after_is found-after in
    sent-side before wall asks.side t sent.signed asks.found there
    ∙ ap (λ (x : SideView). side_sent x sent.signed) (one-side wall before asks.side s asks.found found)

pub learnt-side : (d : Digest) (before after : ClientView) (wall : ℕ) (bytes : Text)
    → Relearns d before wall bytes after → (s t : SideView) → side_of wall before.sides ≡ Some s
    → side_of wall after.sides ≡ Some t
    → (changes : List Op) × (keys_judged d s.known bytes ≡ Ok changes) × (t ≡ relearnt s changes)
learnt-side d before after wall bytes learns s t found found-after =
    let there = subst (λ (c : ClientView). side_of wall c.sides ≡ Some t) learns.after_is found-after in
    let same = one-side wall before learns.side s learns.found found in (
      learns.changes,
      subst (λ (x : SideView). keys_judged d x.known bytes ≡ Ok learns.changes) same learns.judged_so,
      left-side before wall learns.side (relearnt learns.side learns.changes) t learns.found refl there
          ∙ ap (λ (x : SideView). relearnt x learns.changes) same,
    )

pub heard-takes : (d : Digest) (before after : ClientView) (sent : Sent) (bytes : Text) (news : News)
    → Hears d before sent bytes news after
    → (s t : SideView) → side_of sent.wall before.sides ≡ Some s → side_of sent.wall after.sides ≡ Some t
    → take d s sent.asked bytes ≡ Ok (news, t)
heard-takes d before after sent bytes news hears s t found found-after =
    let side = hears.side in
    let next = side_after side (checked_view hears.checked) in
    let at = found-wall sent.wall before.sides side hears.found in
    let put : side_of sent.wall (with_side side.known.wall next before.sides) ≡ Some next =
    subst (λ (w : ℕ). side_of w (with_side side.known.wall next before.sides) ≡ Some next) at
    (put-found side.known.wall next before.sides side (subst (λ (w : ℕ). side_of w before.sides
    ≡ Some side) (sym at) hears.found)
    (ap (λ (n : WallNote). n.wall) (side-so side hears.checked).note)) in
    let left : next ≡ t =
    one-side sent.wall after next t (ap (λ (c : ClientView). side_of sent.wall c.sides) hears.after_is
    ∙ put) found-after in
    let same : side ≡ s = one-side sent.wall before side s hears.found found in
    subst (λ (x : SideView). take d x sent.asked bytes ≡ Ok (news, t)) same
    (ap (heard side) hears.judged_so ∙ (ap (λ (n : News). Ok (n, next)) (sym hears.news_is)
    ∙ ap (λ (x : SideView). Ok (news, x)) left))

pub rejected-takes : (d : Digest) (c : ClientView) (sent : Sent) (bytes : Text) (verdict : Verdict)
    → Rejects d c sent bytes verdict
    → (s : SideView) → side_of sent.wall c.sides ≡ Some s → take d s sent.asked bytes ≡ Err verdict
rejected-takes d c sent bytes verdict rejects s found =
    subst (λ (x : SideView). take d x sent.asked bytes ≡ Err verdict)
    (one-side sent.wall c rejects.side s rejects.found found)
    (ap (heard rejects.side) rejects.judged_so)

-- ---- what is learnt

pub learnt-stays : (d : Digest) (before after : ClientView) (wall : ℕ) (bytes : Text)
    → Relearns d before wall bytes after → StaysAs before wall after
learnt-stays d before after wall bytes learns =
    subst (StaysAs before wall) (sym learns.after_is)
    (puts before wall learns.side (relearnt learns.side learns.changes) before.signer before.book learns.found
    (record { note = refl; users = refl }) (record { user = refl; key = refl; rogue = refl }))

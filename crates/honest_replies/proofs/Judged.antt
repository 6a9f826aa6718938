-- What a client that follows an honest wall makes of the bytes of an honest reply.
use Rattle.std.proofs.Common.{◌≡◌, ℕ, zero, suc, ◌<◌, ◌≤◌, Bool, true, false, not, ◌&&◌, ◌||◌, List, [], ◌∷◌, ◌++◌, length, drop, Option, Some, None, refl, ap, sym, ◌∙◌, arith, eq-eqb}
use Rattle.std.specs.Prelude.{Ok, Err, nat_eq, nat_lt, if◌then◌else◌}
use Rattle.std.specs.Str.{bytes_eq}
use Rattle.std.proofs.lemmas.Bool.{le-ltb, ltb-true}
use Rattle.fr_bytes.specs.Bytes.{Text}
use Rattle.fr_digest.specs.Digest.{Digest}
use Rattle.op_types.specs.declared.op.Leaf.{Leaf}
use Rattle.op_types.specs.declared.view.View.{View}
use Rattle.op_types.specs.Spelling.{op_text}
use Rattle.tree_model.specs.History.{root}
use Rattle.msg_form.specs.declared.message.Reply.TheVariants.{Refused}
use Rattle.msg_form.specs.declared.verdict.Verdict.{Verdict}
use Rattle.msg_form.specs.declared.verdict.Verdict.TheVariants as verdicts
use Rattle.msg_form.specs.Messages.{SpellsReply}
use Rattle.signed_ops.specs.Signed.{is_view_signed}
use Rattle.wall_law.specs.Rows.{row}
use Rattle.wall_law.proofs.Rows.{none-all, off-row}
use Rattle.check_rules.specs.declared.asked.Asked.{Asked}
use Rattle.check_rules.specs.declared.asked.Asked.TheVariants.{Append}
use Rattle.check_rules.specs.declared.known.Known.{Known}
use Rattle.check_rules.specs.Shown.{leaves_from}
use Rattle.check_rules.specs.Verdict.{Judgement, answered_or, early_verdict, holds, is_answered, is_append, is_level, is_other_root, is_other_wall, judged, judged_heard, nothing_new, rejected_or, refusal, taken}
use Rattle.check_rules.proofs.Takings.{is-said}
use Rattle.check_rules.proofs.Tests.{bytes-equal, off-both, off-not}
use Rattle.honest_replies.specs.HonestNews.{Follows, IsHonest, IsViewOf, texts_of}
use Rattle.honest_replies.specs.HonestReply.{NewsReply, SpellsBare}
use Rattle.honest_replies.proofs.Heard.{bare-heard, news-heard, refusal-heard}
use Rattle.honest_replies.proofs.News.{leaves-are, news-accepted, starts}

second-true : (a b : Bool) → (a && b) ≡ true → b ≡ true
second-true true b e = e
second-true false b e = absurd cc

module _ (d : Digest) (known : Known) (asked : Asked) (L : List Leaf) (view : View) (bytes : Text) where
  -- ---- nothing new

  is-root-whole : Follows d known L → IsViewOf d known.wall known.server L view → known.size ≡ length L → 0 < known.size
      → view.root ≡ known.root
  is-root-whole follows is level some =
      let size = is.size in
      let own = (is.seen (omega arith)).same in
      own ∙ ap (root d (texts_of L)) (size ∙ sym level) ∙ sym (follows.root_is some)

  bare-silent : Follows d known L → IsViewOf d known.wall known.server L view → known.size ≡ length L
      → early_verdict known (is_other_wall known view.wall) view ≡ None
  unfolding early_verdict
  bare-silent follows is level =
      let size = is.size in
      none-all (row (is_other_wall known view.wall) verdicts.WrongWall
      ∷ row (nat_lt 0 view.size && not (is_view_signed known.server view)) verdicts.BadServerSignature
      ∷ row (nat_lt view.size known.size) verdicts.Shorter
      ∷ row (is_level known view && is_other_root view.root known.root) verdicts.Forked
      ∷ []) (
        off-row (is_other_wall known view.wall) verdicts.WrongWall (off-not (nat_eq view.wall known.wall) (eq-eqb view.wall known.wall is.on)),
        (
          off-row (nat_lt 0 view.size && not (is_view_signed known.server view)) verdicts.BadServerSignature
              (off-both (nat_lt 0 view.size) (not (is_view_signed known.server view))
              (λ some. off-not (is_view_signed known.server view) (is.seen (ltb-true 0 view.size some)).signed)),
          (
            off-row (nat_lt view.size known.size) verdicts.Shorter (le-ltb view.size known.size (omega arith)),
            (
              off-row (is_level known view && is_other_root view.root known.root) verdicts.Forked
                  (off-both (is_level known view) (is_other_root view.root known.root)
                  (λ both. off-not (bytes_eq view.root known.root)
                  (bytes-equal view.root known.root (is-root-whole follows is level
                  (ltb-true 0 known.size (second-true (nat_eq view.size known.size) (nat_lt 0 known.size) both)))))),
              tt,
            ),
          ),
        ),
      )

  silent-ok : (other : Judgement) (r : Option Verdict) → r ≡ None → rejected_or other r ≡ other
  silent-ok other None e = refl
  silent-ok other (Some verdict) e = absurd cc

  pub bare-judged : Follows d known L → IsViewOf d known.wall known.server L view → known.size ≡ length L
      → SpellsBare view bytes → judged d known asked bytes ≡ nothing_new asked (length L)
  unfolding judged
  bare-judged follows is level text =
      let size = is.size in
      let e : view.size ≡ known.size = omega arith in
      ap (judged_heard d known asked) (bare-heard view bytes (is_append asked) text)
      ∙ silent-ok (if nat_eq view.size known.size then nothing_new asked view.size else Err verdicts.BadFrom)
      (early_verdict known (is_other_wall known view.wall) view) (bare-silent follows is level)
      ∙ ap (λ b. let x : Judgement = if b then nothing_new asked view.size else Err verdicts.BadFrom in x)
      (eq-eqb view.size known.size e)
      ∙ ap (nothing_new asked) size

  -- ---- news

  pub news-judged : (whole : Bool) → IsHonest d known L → Follows d known L → IsViewOf d known.wall known.server L view
      → known.size < length L → (n : NewsReply d known.owner known.size known.f L whole view bytes)
      → judged d known asked bytes
      ≡ answered_or asked (drop n.from L) (Ok (taken view n.from n.tree (drop n.from L) n.lists))
  news-judged whole honest follows is more n =
      let good = starts d known L whole n.from more n.begins in
      let size = is.size in
      let within : n.from ≤ length L = (let less = good.some in omega arith) in
      let before : n.from < view.size = (let less = good.some in omega arith) in
      is-said d known asked bytes view n.from n.tree (drop n.from L) n.lists
      (record {
        heard = news-heard d L view n.from n.tree n.lists bytes (is_append asked) honest.spelled n.shows.prunes before n.text;
        wall = is.on;
        signed = (is.seen (omega arith)).signed;
        accepted = news-accepted d known L honest n.from n.tree n.lists n.shows whole view follows is more n.begins;
        leaves_are = sym (ap (λ m. leaves_from n.tree m n.from) size
            ∙ leaves-are d known L honest n.from n.tree n.lists n.shows within);
      })

-- ---- the operation of the last leaf

or-true : (a b : Bool) → b ≡ true → (a || b) ≡ true
or-true true b e = refl
or-true false b e = e

holds-last : (leaves : List Leaf) (l : Leaf) → holds (leaves ++ l ∷ []) (op_text l.op) ≡ true
holds-last [] l = ap (λ b. b || false) (bytes-equal (op_text l.op) (op_text l.op) refl)
holds-last (x ∷ xs) l = or-true (bytes_eq (op_text x.op) (op_text l.op)) (holds (xs ++ l ∷ []) (op_text l.op)) (holds-last xs l)

drop-front : (n : ℕ) (leaves : List Leaf) (l : Leaf) → n ≤ length leaves
    → drop n (leaves ++ l ∷ []) ≡ drop n leaves ++ l ∷ []
drop-front zero leaves l le = refl
drop-front (suc n) [] l le = absurd (omega arith)
drop-front (suc n) (x ∷ xs) l le = drop-front n xs l (omega arith)

pub last-answered : (leaves : List Leaf) (l : Leaf) (from : ℕ) → from ≤ length leaves
    → is_answered (Append (op_text l.op)) (drop from (leaves ++ l ∷ [])) ≡ true
last-answered leaves l from le =
    ap (λ ls. holds ls (op_text l.op)) (drop-front from leaves l le) ∙ holds-last (drop from leaves) l

-- ---- refusals

pub refusal-judged : (d : Digest) (known : Known) (op : Text) (cause number : ℕ) (bytes : Text)
    → SpellsReply (Refused known.wall cause number) bytes
    → judged d known (Append op) bytes ≡ Ok (refusal cause number)
unfolding judged
refusal-judged d known op cause number bytes is =
    ap (judged_heard d known (Append op)) (refusal-heard known.wall cause number bytes is)
    ∙ ap (λ b. let x : Judgement = if b then Err verdicts.WrongWall else Ok (refusal cause number) in x)
    (off-not (nat_eq known.wall known.wall) (eq-eqb known.wall known.wall refl))

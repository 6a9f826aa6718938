-- What a client's news are, and what its calls leave.
use Rattle.std.proofs.Common.{◌≡◌, ℕ, sym, subst, arith}
use Rattle.std.specs.List.{AllByRecursion}
use Rattle.fr_bytes.specs.Bytes.{IsBytes, Text}
use Rattle.fr_digest.specs.Digest.{Digest}
use Rattle.hist_proof.specs.View.{tree_view}
use Rattle.op_types.specs.declared.op.Leaf.{Leaf}
use Rattle.check_rules.proofs.Present.{few-behind}
use Rattle.check_core.specs.declared.checked.Checked.{Checked}
use Rattle.check_core.specs.declared.checked.Checked.TheVariants as checks
use Rattle.check_core.specs.View.{checked_view}
use Rattle.check_rules.specs.declared.known.Known.{Known}
use Rattle.client_core.specs.declared.news.News.{News}
use Rattle.client_core.specs.declared.sent.Sent.{Sent}
use Rattle.client_core.specs.Clients.{ClientView, Hears}
use Rattle.client_core.specs.Keeping.{IsSound}
use Rattle.client_core.specs.Taking.{news_of}
use Rattle.client_core.proofs.Heard.{sound}
use Rattle.client_core.proofs.Places.{found-wall}
use Rattle.session_run.specs.News.{IsNews}

news-of : (d : Digest) (known : Known) (checked : Checked) → IsSound d known checked
    → IsNews known.wall (news_of (checked_view checked))
news-of d known (checks.Same size) is = tt
news-of d known (checks.Refused cause number) is = tt
news-of d known (checks.Taken view from proof leaves dicts) is =
    let some = is.accepted.some in
    record {
      spelled = is.in_range;
      few = few-behind (tree_view proof) view.size from leaves (omega arith) is.leaves_are;
      on = subst (AllByRecursion (λ (l : Leaf). l.op.wall ≡ known.wall)) (sym is.leaves_are) is.accepted.wall;
    }

pub news-are : (d : Digest) (v w : ClientView) (sent : Sent) (bytes : Text) (news : News) → IsBytes bytes
    → Hears d v sent bytes news w → IsNews sent.wall news
news-are d v w sent bytes news are r =
    let at = found-wall sent.wall v.sides r.side r.found in
    subst (IsNews sent.wall) (sym r.news_is)
    (subst (λ (x : ℕ). IsNews x (news_of (checked_view r.checked))) at
    (news-of d r.side.known r.checked (sound d r.side.known sent.asked bytes r.checked are r.judged_so)))

use Rattle.std.proofs.Common.{◌∙◌, List, ap, subst, sym}
use Rattle.lms_tree.specs.Valid.{Key}
use Rattle.client_core.specs.declared.start.SideStart.{SideStart}
use Rattle.client_core.specs.Clients.{AreStarts}
use Rattle.run_start.specs.declared.keys.Party.{Party}
use Rattle.run_start.specs.Clients.{starts_of}
use Rattle.run_start.specs.Keys.{public_key, user_key}
use Rattle.run_start.proofs.Beginning.{shared-walls}
use Rattle.run_start.proofs.Opening.{starts-are}
use Rattle.run_start.proofs.clients.client.Goals as goal

pub starts-requires : goal.starts-requires
starts-requires g c = shared-walls c.args.script.now c.args.shared.now c.requires.shared

pub make-requires : goal.make-requires
make-requires g c =
    let script = c.args.script.now in
    let shared = c.args.shared.now in
    let n = c.args.party.number in
    subst (λ (k : Key). AreStarts n k c.in_ok-starts.starts.items)
    (sym (ap (λ (p : Party). public_key p.signer) c.requires.party.made))
    (subst (λ (l : List SideStart). AreStarts n (user_key script n) l)
    (sym (c.in_ok-starts.ensures ∙ ap (starts_of script shared) c.user_at-user.ensures))
    (starts-are script c.requires.script shared c.requires.shared n c.requires.party.listed))

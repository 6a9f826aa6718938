use Rattle.std.proofs.Common.{◌∙◌, List, ap, map, subst, sym}
use Rattle.std.specs.List.{All}
use Rattle.run_start.specs.declared.keys.Party.{Party}
use Rattle.run_start.specs.Clients.{secrets_in}
use Rattle.run_start.specs.Parties.{IsWallParty, listed_key, note_of}
use Rattle.run_start.proofs.Beginning.{all-walls-are, has-shared}
use Rattle.run_start.proofs.making.shared.Goals as goal

pub notes-requires : goal.notes-requires
notes-requires c =
    subst (All (IsWallParty c.args.script.now)) (sym c.deref-3.ensures.value)
    (all-walls-are c.args.script.now c.args.parties.now c.requires)

pub returns : goal.returns
returns c =
    let script = c.args.script.now in
    has-shared script c.args.parties.now c.requires
    (record { keys = c.in_ok-keys.keys; secrets = c.in_ok-secrets.secrets; notes = c.in_ok-notes.notes })
    (c.in_ok-keys.ensures ∙ ap (map listed_key) c.deref.ensures.value)
    (c.in_ok-secrets.ensures ∙ ap (secrets_in script) c.deref-2.ensures.value)
    (c.in_ok-notes.ensures ∙ ap (map (note_of script)) c.deref-3.ensures.value)

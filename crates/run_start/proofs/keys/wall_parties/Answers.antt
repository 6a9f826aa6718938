use Rattle.std.proofs.Common.{◌≡◌, ◌∙◌, IfOk, List, ap, map, subst, sym}
use Rattle.std.specs.List.{All}
use Rattle.run_start.specs.declared.keys.Party.{Party}
use Rattle.run_start.specs.declared.keys.Seed.{Seed}
use Rattle.run_start.specs.Parties.{IsSeed, party_of}
use Rattle.run_start.proofs.Seeds.{wall-parties, wall-seeds}
use Rattle.run_start.proofs.keys.wall_parties.Goals as goal

pub all_made-requires : goal.all_made-requires
all_made-requires c =
    subst (λ (seeds : List Seed). All IsSeed seeds) (sym (c.deref.ensures.value ∙ c.in_ok-seeds.ensures))
    (wall-seeds c.args.script.now c.requires.script c.args.walls.now c.requires.listed)

pub returns : goal.returns
returns c =
    subst (λ (ps : List Party). IfOk c.all_made.result (λ parties. parties.items ≡ ps))
    (ap (map party_of) (c.deref.ensures.value ∙ c.in_ok-seeds.ensures)
    ∙ wall-parties c.args.script.now c.args.walls.now)
    c.all_made.ensures

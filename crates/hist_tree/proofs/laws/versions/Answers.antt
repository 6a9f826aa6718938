use Rattle.std.proofs.Common.{◌∙◌, ap, arith}
use Rattle.std.specs.Prelude.{map}
use Rattle.std.proofs.lemmas.List.{length-map, map-append, take-map}
use Rattle.tree_model.proofs.HistoryLaws.{root-all, root-append}
use Rattle.tree_model.specs.History.{root, root_of_all}
use Rattle.hist_tree.proofs.laws.versions.Goals as goal

pub returns : goal.returns
returns g c = record {
  own = λ items v. root-all g.D.Digester.digest_of (map g.T.HasText.text_of items) v
      ∙ ap (root_of_all g.D.Digester.digest_of) (take-map g.T.HasText.text_of v items);
  older = λ items more v within.
      let count = length-map items g.T.HasText.text_of in
      ap (λ ts. root g.D.Digester.digest_of ts v) (map-append g.T.HasText.text_of items more)
      ∙ root-append g.D.Digester.digest_of (map g.T.HasText.text_of items) (map g.T.HasText.text_of more) v (omega
      arith);
}

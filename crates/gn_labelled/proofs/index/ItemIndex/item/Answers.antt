use Rattle.std.proofs.Common.{ℕ, Option, ap, ◌∙◌}
use Rattle.gn_labelled.specs.Index.{item_in}
use Rattle.gn_labelled.proofs.Indexing.{placed}
use Rattle.gn_labelled.proofs.index.ItemIndex.item.Goals as goal

pub returns : goal.returns
returns c = c.at.ensures ∙ ap (λ (place : Option ℕ). item_in c.args.self.now place) c.place.ensures ∙ placed c.args.label.now c.args.self.now

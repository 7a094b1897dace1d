use Rattle.std.proofs.Common.{◌∷◌, ◌++◌, [], map, ap, ◌∙◌}
use Rattle.std.proofs.lemmas.List.{map-append}
use Rattle.gn_graph.specs.declared.graph.Answered.{Answered}
use Rattle.gn_graph.specs.Graphs.{reply_of, told_by}
use Rattle.gn_graph.proofs.graph.note.Goals as goal

pub returns : goal.returns
returns c =
    ap (map told_by) c.push_reserved.ensures.items ∙ map-append told_by c.args.told.now.items (c.of.result ∷ [])
    ∙ ap (λ (a : Answered). map told_by c.args.told.now.items ++ reply_of a ∷ []) c.of.ensures

use Rattle.std.proofs.Common.{◌∷◌, [], ap, ◌∙◌}
use Rattle.std.proofs.lemmas.List.{map-append}
use Rattle.gn_graph.specs.declared.clause.Clause.{Clause}
use Rattle.gn_graph.specs.Clauses.{horn_of, horns}
use Rattle.gn_graph.proofs.clause.put_clause.Goals as goal

pub returns-clause-more : goal.returns-clause-more
returns-clause-more c =
    let x : Clause = record { needs = c.in_ok-needs.needs; gives = c.args.gives } in
    (horn_of x ∷ [], ap horns c.in_ok-push.ensures.items ∙ map-append horn_of c.args.clauses.now.items (x ∷ []))

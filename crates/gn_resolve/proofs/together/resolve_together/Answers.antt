use Rattle.std.proofs.lemmas.Result.{on_ok_weaker}
use Rattle.gn_resolve.specs.Steps.{surroundings_of}
use Rattle.gn_resolve.proofs.together.resolve_together.Goals as goal

pub returns-clause-held : goal.returns-clause-held
returns-clause-held g c =
    on_ok_weaker c.put_all.result (λ takes. (takes (surroundings_of c.args.frames.now) c.args.graph.now.items).held c.requires.held c.in_ok-made.ensures) c.put_all.ensures

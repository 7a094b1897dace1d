use Rattle.std.proofs.Common.{refl}
use Rattle.gn_graph.specs.Clauses.{horn_of}
use Rattle.gn_graph.specs.Plans.{more}
use Rattle.gn_basics.proofs.Results.{if_ok}
use Rattle.gn_graph.proofs.consequences.fire.Goals as goal

pub returns-then-can_fire-clause-ok : goal.returns-then-can_fire-clause-ok
returns-then-can_fire-clause-ok c =
    if_ok c.put.result (λ _ e. more (horn_of c.args.clause.now) refl (c.can_fire.ensures.yes c.if-can_fire.true).0 e) c.put.ensures.ok

use Rattle.std.proofs.Common.{subst}
use Rattle.std.proofs.lemmas.Result.{on_ok_weaker}
use Rattle.gn_perform.specs.Kept.{KeepsOf}
use Rattle.gn_perform.specs.declared.kept.Kept.{Kept}
use Rattle.gn_perform.proofs.kept.store.Goals as goal

pub returns-in-Rest : goal.returns-in-Rest
returns-in-Rest c = on_ok_weaker c.push_rest.result (λ pushes base filed keeps. pushes base filed (subst (λ (k : Kept). KeepsOf base filed c.args.key.now k) c.in-Rest.is keeps)) c.push_rest.ensures

pub returns : goal.returns
returns c = on_ok_weaker c.push_rest-in-Tree.result (λ pushes base filed keeps. pushes base filed (subst (λ (k : Kept). KeepsOf base filed c.args.key.now k) c.in-Tree.is keeps)) c.push_rest-in-Tree.ensures

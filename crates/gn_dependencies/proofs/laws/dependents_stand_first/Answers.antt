use Rattle.gn_labels.specs.Labels.{is_before}
use Rattle.gn_dependencies.specs.Lists.{same_label}
use Rattle.gn_dependencies.specs.Shape.{near}
use Rattle.gn_dependencies.specs.Inherited.{Walked}
use Rattle.gn_dependencies.proofs.Same.{own, same}
use Rattle.gn_dependencies.proofs.OrderLaws.{stands_before}
use Rattle.gn_dependencies.proofs.laws.dependents_stand_first.Goals as goal

pub returns : goal.returns
returns c = λ default g t xs o z x p k e. stands_before same_label own same (near g) (is_before default) (Walked g t) xs o z x p k e

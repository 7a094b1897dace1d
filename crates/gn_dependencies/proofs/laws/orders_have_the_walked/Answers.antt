use Rattle.gn_labels.specs.Labels.{is_before}
use Rattle.gn_dependencies.specs.Lists.{same_label}
use Rattle.gn_dependencies.specs.Shape.{near}
use Rattle.gn_dependencies.specs.Inherited.{Walked}
use Rattle.gn_dependencies.proofs.Same.{own, same}
use Rattle.gn_dependencies.proofs.OrderLaws.{inside}
use Rattle.gn_dependencies.proofs.Inheriting.{order_once}
use Rattle.gn_dependencies.proofs.laws.orders_have_the_walked.Goals as goal

pub returns : goal.returns
returns c = λ default g t xs o. (
  order_once default g (Walked g t) xs o,
  λ q. (λ h. inside same_label own same (near g) (is_before default) (Walked g t) xs o q h, λ w. o.all q w),
)

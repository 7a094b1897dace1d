use Rattle.gn_dependencies.specs.Laws.{Reached, itself}
use Rattle.gn_dependencies.proofs.Local.{agree_from}
use Rattle.gn_dependencies.proofs.Inheriting.{inherited_local}
use Rattle.gn_dependencies.proofs.laws.inherited_libraries_are_local.Goals as goal

pub returns : goal.returns
returns c = λ default g h t xs a i. inherited_local g h (Reached g t) (agree_from g h t a) t itself default xs i

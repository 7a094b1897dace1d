use Rattle.gn_dependencies.specs.Laws.{Reached, itself}
use Rattle.gn_dependencies.proofs.Local.{agree_from, applied_local, pushed_local, pushed_public_local}
use Rattle.gn_dependencies.proofs.laws.records_are_local.Goals as goal

pub returns-clause-applied : goal.returns-clause-applied
returns-clause-applied c = λ g h t xs a k. applied_local g h (Reached g t) (agree_from g h t a) t xs itself k

pub returns-clause-pushed : goal.returns-clause-pushed
returns-clause-pushed c = λ g h t xs a k. pushed_local g h (Reached g t) (agree_from g h t a) t xs itself k

pub returns-clause-public : goal.returns-clause-public
returns-clause-public c = λ g h t xs a k. pushed_public_local g h (Reached g t) (agree_from g h t a) t xs itself k

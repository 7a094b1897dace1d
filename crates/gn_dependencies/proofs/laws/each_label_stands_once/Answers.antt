use Rattle.gn_dependencies.proofs.Firsts.{kept_once}
use Rattle.std.proofs.Common.{false}
use Rattle.gn_dependencies.proofs.laws.each_label_stands_once.Goals as goal

pub returns : goal.returns
returns c = λ xs. kept_once (λ _. false) xs

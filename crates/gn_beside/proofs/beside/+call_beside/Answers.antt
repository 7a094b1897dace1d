use Rattle.std.proofs.Common.{rules}
use Rattle.gn_beside.proofs.Gathered.{all_with_one}
use Rattle.gn_beside.proofs.beside.+call_beside.Goals as goal

pub returns-clause-taken : goal.returns-clause-taken
returns-clause-taken g t c = all_with_one (λ one. goal.F-post g c.args.take.now one) _ _ _ c.with_one-2.ensures (search rules) (search rules)

use Rattle.std.proofs.Common.{List, ◌++◌, map, ap, ◌∙◌}
use Rattle.std.proofs.lemmas.Result.{on_ok_weaker}
use Rattle.gn_faults.specs.declared.fault.Fault.{Fault}
use Rattle.gn_file_faults.specs.Uses.{meant, first_in}
use Rattle.gn_file_faults.proofs.UseLemmas.{faults_by_firsts}
use Rattle.gn_file_faults.proofs.uses.add_again.Goals as goal

pub returns : goal.returns
returns c =
    on_ok_weaker c.push_again.result
    (λ e. e ∙ ap (λ (zs : List Fault). c.args.faults.now.items ++ zs) (faults_by_firsts c.args.code (map meant c.args.uses.now) (first_in c.in_ok-firsts.firsts) c.in_ok-firsts.ensures))
    c.push_again.ensures

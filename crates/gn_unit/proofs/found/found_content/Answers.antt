use Rattle.gn_runs.specs.Runs.{has_bytes, is_too_big}
use Rattle.gn_eval.specs.declared.library.Found.TheVariants.{Bytes, TooBig}
use Rattle.gn_unit.specs.Found.{content_view}
use Rattle.gn_unit.specs.Configuration.{found_in}
use Rattle.gn_unit.proofs.Configurations.{big_in, bytes_in, still}
use Rattle.gn_unit.proofs.found.found_content.Goals as goal

pub returns-in-Absent-clause-evaluates : goal.returns-in-Absent-clause-evaluates
returns-in-Absent-clause-evaluates g c = rw c.in-Absent.is c.absent_content.ensures.evaluates

pub returns-in-TooBig-clause-evaluates : goal.returns-in-TooBig-clause-evaluates
returns-in-TooBig-clause-evaluates g c =
    let secondary = c.args.base.now.secondary in
    let env = c.args.env.now in
    let out = c.args.out.now in
    rw c.in-TooBig.is (still content_view (g.L.Library.state c.args.library.now) TooBig env out (λ a. found_in secondary a is_too_big env out) (λ a. big_in secondary a env out))

pub returns-in-Bytes-clause-evaluates : goal.returns-in-Bytes-clause-evaluates
returns-in-Bytes-clause-evaluates g c =
    let secondary = c.args.base.now.secondary in
    let env = c.args.env.now in
    let out = c.args.out.now in
    let bytes = c.in-Bytes.bytes in
    rw c.in-Bytes.is (still content_view (g.L.Library.state c.args.library.now) (Bytes bytes) env out (λ a. found_in secondary a (has_bytes bytes) env out) (λ a. bytes_in secondary bytes a env out))

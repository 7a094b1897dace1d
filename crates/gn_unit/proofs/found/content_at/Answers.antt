use Rattle.gn_unit.proofs.Configurations.{own_content_told}
use Rattle.gn_unit.proofs.found.content_at.Goals as goal

pub returns-in-Ok-clause-evaluates : goal.returns-in-Ok-clause-evaluates
returns-in-Ok-clause-evaluates g c = λ env. record {
  runs = λ a told. own_content_told c.args.path.now a env c.in-Ok.found c.args.out.now c.ask_content.new.self (c.in-Ok.ensures.answers a told) c.in_ok-ask_content-in-Ok.ensures.ok;
  goes = c.bytes.ensures.goes;
  rose = λ e. cc;
}

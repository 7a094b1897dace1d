use Rattle.std.proofs.Common.{◌≡◌, ℕ, List, Option, map, sym, ap, ◌∙◌}
use Rattle.gn_values.specs.Tables.{Table}
use Rattle.gn_values.specs.Val.{Val}
use Rattle.gn_values.specs.View.{entry_of}
use Rattle.gn_environment.specs.Layers.{ChainState}
use Rattle.gn_environment.specs.Environment.{Caller, Environment}
use Rattle.gn_environment.specs.Forwarding.{origin_value}
use Rattle.gn_environment.specs.Giving.{entries_at, read_at_origin}
use Rattle.gn_callers.specs.Origins.{value_from}
use Rattle.gn_env.specs.Origins.{origin_of}
use Rattle.gn_env.specs.contracts.env.Env.{the_view}
use Rattle.gn_env.proofs.Forwarded.{giving, forwarding, names_given_is, value_there}
use Rattle.gn_env.proofs.env.Env.give_from.Goals as goal

pub returns-clause-ok : goal.returns-clause-ok
returns-clause-ok c =
    let env = c.args.self.now in
    let origin = origin_of c.args.from in
    let ns = map (λ n. n.now) c.args.names.now in
    let before = the_view c.self.inside in
    let value = origin_value origin env in
    let at_once : record (giving (map entry_of c.in_ok-entries.entries.items) before) { callers = read_at_origin origin ns before.callers } ≡ forwarding value origin ns env
    = ap (λ (es : Table Val). record (giving es before) { callers = read_at_origin origin ns before.callers }) c.in_ok-entries.ensures
    ∙ ap (λ (v : Environment). record (giving (entries_at (value_from origin v.callers) ns) v) { callers = read_at_origin origin ns v.callers }) c.self.view_is
    ∙ ap (λ (f : List ℕ → Option Val). forwarding f origin ns env) (λ i n. value_there origin env n i) in
    ap (λ (chain : ChainState). record before { chain = chain; callers = c.read_from.new.self }) c.in_ok-give_all.ensures.ok
    ∙ ap (λ (callers : List Caller). record (giving (map entry_of c.in_ok-entries.entries.items) before) { callers = callers }) c.read_from.ensures
    ∙ at_once ∙ sym (names_given_is value origin ns env)

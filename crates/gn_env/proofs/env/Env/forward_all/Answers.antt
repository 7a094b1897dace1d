use Rattle.std.proofs.Common.{◌≡◌, ◌∷◌, List, map, ap, ◌∙◌}
use Rattle.gn_values.specs.View.{entry_of}
use Rattle.gn_environment.specs.Layers.{ChainState}
use Rattle.gn_environment.specs.Environment.{Caller, Environment}
use Rattle.gn_environment.specs.Forwarding.{target_name}
use Rattle.gn_environment.specs.Giving.{entries_but, origin_entries, read_all_at}
use Rattle.gn_env.specs.Origins.{origin_of}
use Rattle.gn_env.specs.contracts.env.Env.{the_view}
use Rattle.gn_env.proofs.Forwarded.{giving, forwards_all}
use Rattle.gn_env.proofs.env.Env.forward_all.Goals as goal

pub returns-clause-ok : goal.returns-clause-ok
returns-clause-ok c =
    let env = c.args.self.now in
    let except = c.args.except.now in
    let origin = origin_of c.args.from in
    let before = the_view c.self.inside in
    let given = map entry_of c.in_ok-copies.copies.items in
    let copied : given ≡ entries_but (target_name ∷ except) (origin_entries origin env.callers)
    = c.in_ok-copies.ensures ∙ ap (λ (v : Environment). entries_but (target_name ∷ except) (origin_entries origin v.callers)) c.self.view_is in
    forwards_all except given env _ origin copied
    (ap (λ (chain : ChainState). record before { chain = chain; callers = c.read_all_from.new.self }) c.in_ok-give_all.ensures.ok
    ∙ ap (λ (callers : List Caller). record (giving given before) { callers = callers }) c.read_all_from.ensures
    ∙ ap (λ (v : Environment). record (giving given v) { callers = read_all_at origin v.callers }) c.self.view_is)

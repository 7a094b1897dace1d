use Rattle.std.proofs.Common.{ap}
use Rattle.gn_basics.proofs.Results.{if_ok}
use Rattle.gn_executions.specs.Base.{BaseState}
use Rattle.gn_load.specs.Turns.{known_paths}
use Rattle.gn_bases.specs.Setups.{given_base}
use Rattle.gn_top.specs.Building.{started_view}
use Rattle.gn_top.proofs.StageLemmas.{load_is, end_faults, end_failure}
use Rattle.gn_top.proofs.building.load_build.Goals as goal

pub returns-clause-meaning : goal.returns-clause-meaning
returns-clause-meaning g c =
    if_ok c.behind_loading.result
    (λ end says tree host request told same knows. says tree host request (ap (λ (b : BaseState). b.context.build_directory) same)
    (load_is host request tree (started_view c.args.start) (known_paths c.args.start.setup.known.entries) (given_base c.args.start.setup) c.load_ahead-plain.result.end c.load_ahead-plain.result.units same knows (c.load_ahead-plain.ensures.end tree told)))
    c.behind_loading.ensures.meaning

pub returns-clause-faults : goal.returns-clause-faults
returns-clause-faults g c = end_faults (g.S.Source.state c.args.source.now) (g.S.Source.state c.load_ahead-plain.new.source) c.load_ahead-plain.result.end c.behind_loading.result c.load_ahead-plain.ensures.faults c.behind_loading.ensures.stops

pub returns-clause-failure : goal.returns-clause-failure
returns-clause-failure g c = end_failure (g.S.Source.state c.args.source.now) (g.S.Source.state c.load_ahead-plain.new.source) c.load_ahead-plain.result.end c.behind_loading.result c.load_ahead-plain.ensures.faults c.behind_loading.ensures.stops

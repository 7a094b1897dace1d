use Rattle.std.proofs.Common.{refl}
use Rattle.gn_top.specs.Building.{started_view}
use Rattle.gn_top.proofs.StageLemmas.{built_is, wrong_is}
use Rattle.gn_top.proofs.building.behind_loading.Goals as goal

pub returns-in-Built-clause-meaning : goal.returns-in-Built-clause-meaning
returns-in-Built-clause-meaning c = λ tree host request same is.
    built_is host request tree (started_view c.args.start) c.args.start.setup.build_directory c.in-Built.built c.args.plain.units _ same (rw c.in-Built.is at is) c.end_build.ensures

pub returns-in-Built-clause-stops : goal.returns-in-Built-clause-stops
returns-in-Built-clause-stops c = rw c.in-Built.is tt

pub returns-in-Wrong-clause-meaning : goal.returns-in-Wrong-clause-meaning
returns-in-Wrong-clause-meaning c = λ tree host request same is. wrong_is host request tree (started_view c.args.start) c.in-Wrong.fault c.args.plain.units (rw c.in-Wrong.is at is)

pub returns-in-Wrong-clause-stops : goal.returns-in-Wrong-clause-stops
returns-in-Wrong-clause-stops c = rw c.in-Wrong.is tt

pub returns-in-Failed-clause-stops : goal.returns-in-Failed-clause-stops
returns-in-Failed-clause-stops c = rw c.in-Failed.is refl

pub returns-in-Memory-clause-stops : goal.returns-in-Memory-clause-stops
returns-in-Memory-clause-stops c = rw c.in-Memory.is refl

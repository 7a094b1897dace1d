-- A build that was loaded, as the meaning of a build has it.
use Rattle.gn_projects.specs.Loaded.{Build}
use Rattle.gn_builds.specs.Rest.{build_left}
use Rattle.gn_built.specs.declared.built.Built.{Built}

-- what a build has left that was loaded: its executions have these numbers, in their order
abbrev pub build_of : Built → Build
build_of b = build_left b.default b.book b.executions.items b.generated.items

use Rattle.gn_builds.proofs.Rest.{rest_is_loaded, rest_is_within, large_imports, rest_is_judged, rest_counts_files}
use Rattle.gn_builds.proofs.Built.{rest_is_built}
use Rattle.gn_builds.proofs.laws.rest_is_the_build.Goals as goal

pub returns-clause-loaded : goal.returns-clause-loaded
returns-clause-loaded c = rest_is_loaded

pub returns-clause-within : goal.returns-clause-within
returns-clause-within c = rest_is_within

pub returns-clause-large : goal.returns-clause-large
returns-clause-large c = large_imports

pub returns-clause-judged : goal.returns-clause-judged
returns-clause-judged c = rest_is_judged (record { strict = c.fault_order_is_strict.ensures; transitive = c.fault_order_is_transitive.ensures; total = c.fault_order_has_no_ties.ensures })

pub returns-clause-files : goal.returns-clause-files
returns-clause-files c = rest_counts_files

pub returns-clause-built : goal.returns-clause-built
returns-clause-built c = rest_is_built

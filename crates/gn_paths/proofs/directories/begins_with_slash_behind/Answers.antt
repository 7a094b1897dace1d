use Rattle.std.proofs.Common.{◌∙◌}
use Rattle.gn_paths.proofs.BelowLemmas.{begins_found, begins_missed}
use Rattle.gn_paths.proofs.directories.begins_with_slash_behind.Goals as goal

pub returns-in-Some : goal.returns-in-Some
returns-in-Some c =
    c.starts_with.ensures.value ∙ begins_found c.args.outer.now c.args.text.now c.in-Some.rest.now c.in-Some.ensures.cases.0 c.in-Some.ensures.cases.1

pub returns-in-None : goal.returns-in-None
returns-in-None c = begins_missed c.args.outer.now c.args.text.now c.in-None.ensures.cases

use Rattle.std.proofs.Common.{◌∙◌}
use Rattle.gn_top.specs.Building.{outer_view}
use Rattle.gn_top.proofs.FirstLemmas.{kept_big}
use Rattle.gn_top.proofs.first.kept_arguments.Goals as goal

pub returns-in_ok-file_fault-in-TooBig : goal.returns-in_ok-file_fault-in-TooBig
returns-in_ok-file_fault-in-TooBig c = kept_big (outer_view c.args.outer.now) c.args.directory.now c.as_text-in-TooBig.result.now c.args.content.now _ c.in-TooBig.is (c.as_text-in-TooBig.ensures.value ∙ c.requires) c.in_ok-file_fault-in-TooBig.ensures

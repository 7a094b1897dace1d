use Rattle.gn_top.specs.Building.{outer_view}
use Rattle.gn_top.proofs.FirstLemmas.{absent_ends, big_ends}
use Rattle.gn_top.proofs.first.dotfile_in.Goals as goal

pub returns-in-Absent : goal.returns-in-Absent
returns-in-Absent c = absent_ends c.dotfile_fault.result (outer_view c.args.outer.now) c.args.directory.now c.args.content.now c.in-Absent.is c.dotfile_fault.ensures

pub returns-in-TooBig : goal.returns-in-TooBig
returns-in-TooBig c = big_ends c.dotfile_fault-in-TooBig.result (outer_view c.args.outer.now) c.args.directory.now c.args.content.now c.in-TooBig.is c.dotfile_fault-in-TooBig.ensures

use Rattle.gn_builds.proofs.Parts.{parts_give_answers, parts_give_needs, needed_imports_are_read, cycles_have_no_value, trees_dont_matter}
use Rattle.gn_builds.proofs.laws.work_over_a_part_is_right.Goals as goal

pub returns-clause-answers : goal.returns-clause-answers
returns-clause-answers c = parts_give_answers

pub returns-clause-needs : goal.returns-clause-needs
returns-clause-needs c = parts_give_needs

pub returns-clause-reads : goal.returns-clause-reads
returns-clause-reads c = needed_imports_are_read

pub returns-clause-cycles : goal.returns-clause-cycles
returns-clause-cycles c = cycles_have_no_value

pub returns-clause-trees : goal.returns-clause-trees
returns-clause-trees c = trees_dont_matter

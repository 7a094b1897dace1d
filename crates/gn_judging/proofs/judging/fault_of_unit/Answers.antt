use Rattle.std.proofs.Common.{sym}
use Rattle.std.proofs.lemmas.Option.{slice_get_within}
use Rattle.std.proofs.lemmas.Result.{IfOk-weaker}
use Rattle.gn_judging.proofs.JudgingLemmas.{unit_there, spoiler, unit_fault}
use Rattle.gn_judging.proofs.judging.fault_of_unit.Goals as goal

pub unit_at-requires : goal.unit_at-requires
unit_at-requires c = slice_get_within c.args.book.now.keys c.args.unit _ c.requires.number

pub unreachable-requires : goal.unreachable-requires
unreachable-requires c =
    unit_there c.order_does_not_matter.ensures.filed c.files_were_read.ensures c.requires.rest.0 c.args.book.now c.requires.rest.1 _ c.requires.unit.0 c.requires.unit.1 (c.args.unit, c.requires.number) (sym (rw c.in-None.is at c.unit_at.ensures))

pub fault_by-requires-clause-unusable : goal.fault_by-requires-clause-unusable
fault_by-requires-clause-unusable c =
    spoiler c.args.book.now _ _ c.requires.unit.0 c.requires.unit.1 c.requires.unit.2 _ (sym (rw c.in-Some.is at c.unit_at.ensures)) c.links_lead_to_the_fault.ensures.spoilers c.files_were_read.ensures c.requires.rest.0 c.requires.rest.1

pub returns : goal.returns
returns c =
    IfOk-weaker c.fault_by.result _ _
    (unit_fault c.args.book.now _ _ c.requires.unit.0 c.requires.unit.1 c.requires.unit.2 _ (sym (rw c.in-Some.is at c.unit_at.ensures)) c.links_lead_to_the_fault.ensures.faults) c.fault_by.ensures

use Rattle.gn_judging.proofs.JudgingLemmas.{spoiled_by}
use Rattle.gn_judging.proofs.judging.spoiling_fault.Goals as goal

pub returns : goal.returns
returns c = λ place.
    spoiled_by c.args.book.now c.args.when c.args.default.now c.args.toolchain.now c.in_ok-shown.shown c.args.path.now place c.in_ok-fault.fault c.requires.default c.in_ok-shown.ensures c.in_ok-fault.ensures

use Rattle.gn_judging.proofs.judging.judge_small.Goals as goal

pub returns-in-Some : goal.returns-in-Some
returns-in-Some c = rw c.in-Some.is at c.in_ok-fault.ensures

pub returns-in_ok-parts_of-in-None : goal.returns-in_ok-parts_of-in-None
returns-in_ok-parts_of-in-None c = (rw c.in-None.is at c.in_ok-fault.ensures, c.in_ok-parts_of-in-None.ensures)

use Rattle.gn_load.proofs.plain.end_by.Goals as goal

pub new-requires : goal.new-requires
new-requires c = rw c.in-Right.is at c.requires

pub returns-in-Wrong : goal.returns-in-Wrong
returns-in-Wrong c = rw c.in-Wrong.is c.wrong_end.ensures

pub returns-in-Right : goal.returns-in-Right
returns-in-Right c = rw c.in-Right.is c.new.ensures.build

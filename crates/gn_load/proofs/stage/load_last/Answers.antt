use Rattle.gn_load.proofs.stage.load_last.Goals as goal

pub load_all-requires-clause-goes : goal.load_all-requires-clause-goes
load_all-requires-clause-goes g c = c.requires.goes

pub load_all-requires-clause-waiting : goal.load_all-requires-clause-waiting
load_all-requires-clause-waiting g c = c.requires.waiting

pub load_all-requires-clause-counted : goal.load_all-requires-clause-counted
load_all-requires-clause-counted g c = c.requires.counted

pub load_all-requires-clause-right : goal.load_all-requires-clause-right
load_all-requires-clause-right g c = c.requires.underway.right

pub returns : goal.returns
returns g c = c.load_all.ensures

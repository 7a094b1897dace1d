use Rattle.gn_chains.proofs.Places.{place_found, place_lacking}
use Rattle.gn_chains.proofs.firsts.Firsts.number.Goals as goal

pub returns-clause-found : goal.returns-clause-found
returns-clause-found c = rw (← c.self.view_is) (place_found c.self.inside.labels.keys c.args.label.now c.get_index_of.result c.get_index_of.ensures.index)

pub returns-clause-lacking : goal.returns-clause-lacking
returns-clause-lacking c = rw (← c.self.view_is) (place_lacking c.self.inside.labels.keys c.args.label.now c.get_index_of.result c.get_index_of.ensures.found)

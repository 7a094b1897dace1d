use Rattle.gn_graph_meant.proofs.Leasts.{one_fault, is_the_least, lists_agree}
use Rattle.gn_graph_meant.proofs.laws.there_is_one_least_fault.Goals as goal

pub returns-clause-one : goal.returns-clause-one
returns-clause-one c = one_fault c.there_is_one_list_of_faults.ensures

pub returns-clause-is : goal.returns-clause-is
returns-clause-is c = is_the_least c.there_is_one_list_of_faults.ensures c.the_least_fault_is_told.ensures.least

pub returns-clause-agree : goal.returns-clause-agree
returns-clause-agree c = lists_agree c.there_is_one_list_of_faults.ensures c.the_least_fault_is_told.ensures.least

use Rattle.gn_toolchain_faults.proofs.First.{LabelOrder}
use Rattle.gn_toolchain_faults.proofs.FirstTold.{first_pool, no_pool}
use Rattle.gn_toolchain_faults.proofs.laws.the_first_pool_is_told.Goals as goal

pub returns-clause-first : goal.returns-clause-first
returns-clause-first c =
    let order : LabelOrder = record { strict = c.label_order_is_strict.ensures; transitive = c.label_order_is_transitive.ensures; no_ties = c.label_order_has_no_ties.ensures } in
    first_pool order

pub returns-clause-none : goal.returns-clause-none
returns-clause-none c =
    let order : LabelOrder = record { strict = c.label_order_is_strict.ensures; transitive = c.label_order_is_transitive.ensures; no_ties = c.label_order_has_no_ties.ensures } in
    no_pool order

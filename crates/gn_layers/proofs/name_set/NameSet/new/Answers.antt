use Rattle.std.proofs.Common.{take, ◌+◌, subst, sym, ap, ◌∙◌}
use Rattle.gn_text.specs.Names.{with_name}
use Rattle.gn_layers.specs.NameSets.{HasAll}
use Rattle.gn_layers.proofs.NameSets.{has_more}
use Rattle.gn_layers.proofs.name_set.NameSet.new.Goals as goal

pub loop-name-preserved : goal.loop-name-preserved
loop-name-preserved c =
    let names = c.as_slice-name-items.result.now in
    let table = c.loop-name.table in
    let interned = c.in_ok-intern.ensures.names ∙ ap (with_name table) c.as_bytes.ensures in
    subst (λ new. HasAll new (take (c.loop-name.name-index + 1) names)) (sym interned)
    (has_more table names c.loop-name.name-index c.name-item.result c.loop-name-test.true c.name-item.is c.loop-name.invariant)

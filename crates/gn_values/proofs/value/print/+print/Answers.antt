use Rattle.std.proofs.Common.{◌++◌, ap, ◌∙◌, arith}
use Rattle.gn_values.proofs.Printed.{no_items_text, no_entries_text, items_step, entries_step}
use Rattle.gn_values.proofs.Falling.{item_falls, entry_falls}
use Rattle.gn_values.proofs.value.print.+print.Goals as goal

pub append_entries-loop-entry-init : goal.append_entries-loop-entry-init
append_entries-loop-entry-init t c = no_entries_text _

pub append_entries-loop-entry-preserved : goal.append_entries-loop-entry-preserved
append_entries-loop-entry-preserved t c =
    entries_step _ _ c.entry-item.result _ _ _ _ _ _ _ c.loop-entry-test.true c.entry-item.is c.loop-entry.invariant c.in_ok-append-2.ensures.ok (c.in_ok-append-3.ensures.ok ∙ ap (λ b. c.append-in-loop-entry.new.self ++ b) c.as_bytes.ensures) c.in_ok-append-4.ensures.ok c.in_ok-append_value.ensures c.in_ok-append-5.ensures.ok

pub append_items-loop-index-init : goal.append_items-loop-index-init
append_items-loop-index-init t c = no_items_text _

pub append_items-loop-index-preserved : goal.append_items-loop-index-preserved
append_items-loop-index-preserved t c =
    items_step _ _ c.index-values-index.result _ _ _ _ (omega arith) c.index-values-index.is c.loop-index.invariant c.in_ok-append_comma.ensures c.in_ok-append_value.ensures

pub append_items-append_value-requires : goal.append_items-append_value-requires
append_items-append_value-requires t c =
    (omega (arith, c.decreases, item_falls _ _ _ _ c.as_slice-values.ensures.value c.loop-index-test.true c.index-values-index.is), tt)

pub append_entries-append_value-requires : goal.append_entries-append_value-requires
append_entries-append_value-requires t c =
    (omega (arith, c.decreases, entry_falls _ _ _ _ c.as_slice-entry-items.ensures.value c.loop-entry-test.true c.entry-item.is), tt)

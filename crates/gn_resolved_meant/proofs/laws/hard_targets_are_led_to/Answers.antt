use Rattle.gn_resolved_meant.proofs.Handing.{hard_led_to}
use Rattle.gn_resolved_meant.proofs.laws.hard_targets_are_led_to.Goals as goal

pub returns : goal.returns
returns c = hard_led_to c.label_order_has_no_ties.ensures

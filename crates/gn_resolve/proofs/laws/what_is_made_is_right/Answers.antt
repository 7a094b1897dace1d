use Rattle.gn_resolve.proofs.Enough.{makes_right}
use Rattle.gn_resolve.proofs.laws.what_is_made_is_right.Goals as goal

pub returns : goal.returns
returns c = makes_right (record {
  exports = c.exports_need_no_dependency.ensures;
  objects = c.objects_need_no_dependency.ensures;
  applied = c.configurations_come_along.ensures.applied;
  led = c.hard_targets_are_led_to.ensures;
  hard = c.hard_targets_come_along.ensures.is;
  inherited = c.inherited_libraries_are_placed.ensures.is;
})

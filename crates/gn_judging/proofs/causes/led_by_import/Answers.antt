use Rattle.gn_judging.proofs.LinkLemmas.{led_left, led_wrong, led_spoiled}
use Rattle.gn_judging.proofs.causes.led_by_import.Goals as goal

pub returns-in-Left : goal.returns-in-Left
returns-in-Left c = led_left c.args.executed.now _ _ c.in-Left.is

pub returns-in-Wrong : goal.returns-in-Wrong
returns-in-Wrong c = led_wrong c.args.executed.now c.in-Wrong.fault _ c.in-Wrong.is

pub returns-in-Spoiled : goal.returns-in-Spoiled
returns-in-Spoiled c = led_spoiled c.args.executed.now c.in-Spoiled.path c.in-Spoiled.place _ c.in-Spoiled.is

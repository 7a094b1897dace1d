use Rattle.gn_command_line.proofs.CommandLemmas.{no_value, one_value}
use Rattle.gn_command_line.proofs.switches.value_said.Goals as goal

pub returns-then-len-text : goal.returns-then-len-text
returns-then-len-text c = no_value c.args.text.now c.len_before_equals-len.result c.len_before_equals-len.ensures.value c.if-len-text.true

pub returns : goal.returns
returns c = one_value c.args.text.now c.len_before_equals-len.result c.len_before_equals-len.ensures.value c.len_before_equals-len.ensures.within c.if-len-text.false

use Rattle.gn_evaluation_base.proofs.BuiltIn.{pushed}
use Rattle.gn_evaluation_base.proofs.built_in.push.Goals as goal

pub returns : goal.returns
returns c later = pushed c.args.variables.now.items c.push.new.self.items c.in_ok-entry.field-0 _ c.in_ok-push.ensures.items c.in_ok-entry.ensures later

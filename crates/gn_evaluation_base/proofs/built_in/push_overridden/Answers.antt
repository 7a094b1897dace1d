use Rattle.gn_evaluation_base.proofs.BuiltIn.{pushed}
use Rattle.gn_evaluation_base.proofs.built_in.push_overridden.Goals as goal

pub returns : goal.returns
returns c later =
    pushed c.args.variables.now.items c.push.new.self.items (record { name = c.in_ok-name.name; value = c.in_ok-value.value }) _ c.in_ok-push.ensures.items (λ i. (c.in_ok-name.ensures i, c.in_ok-value.ensures i)) later

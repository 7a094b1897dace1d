use Rattle.std.proofs.Common.{ℕ, List, sym, ap, ◌∙◌}
use Rattle.std.specs.Vec.Iter.{into_iter_items}
use Rattle.gn_values.specs.declared.value.Value.{Value}
use Rattle.gn_values.specs.Tables.{with_name}
use Rattle.gn_environment.specs.Layers.{VariableState}
use Rattle.gn_layers.specs.View.{variables_in, value_pairs}
use Rattle.gn_environment.specs.Giving.{variables_given}
use Rattle.gn_layers.proofs.Tables.{with_variable}
use Rattle.gn_layers.proofs.layer_gives.give_each.Goals as goal

pub loop-name-preserved : goal.loop-name-preserved
loop-name-preserved c =
    let es = c.loop-name.variables.entries in
    let name = c.in-Some.name in
    record {
      given = ap (variables_given (value_pairs (into_iter_items c.next.new.self))) (ap variables_in c.in_ok-set_name.ensures.ok ∙ with_variable name es c.given.result ∙ ap (λ (v : VariableState). with_name name v (variables_in es)) c.given.ensures.given)
          ∙ ap (λ (l : List (List ℕ × Value)). variables_given (value_pairs l) (variables_in es)) (sym c.in-Some.ensures.steps.0) ∙ c.loop-name.invariant.given;
      back = c.in_ok-set_name.ensures.back ∙ c.loop-name.invariant.back;
    }

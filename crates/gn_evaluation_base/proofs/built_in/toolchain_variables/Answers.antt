use Rattle.std.proofs.Common.{List, [], ◌++◌, append-nil, map, sym, ap, ◌∙◌}
use Rattle.gn_values.specs.View.{entry_of}
use Rattle.gn_values.specs.declared.value.Entry.{Entry}
use Rattle.gn_evaluation_base.specs.BuiltIn.{toolchain_variables}
use Rattle.gn_evaluation_base.proofs.built_in.toolchain_variables.Goals as goal

pub returns : goal.returns
returns c =
    sym (append-nil (map entry_of c.push_places.new.variables.items)) ∙ c.in_ok-push_places.ensures [] ∙ c.in_ok-push_systems.ensures _
    ∙ ap (λ (es : List Entry). map entry_of es ++ toolchain_variables c.args.host.now c.args.context.now c.args.out.now) c.new-variables.ensures.items

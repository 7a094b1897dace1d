-- `get_target_outputs`: the outputs of a target that has been defined before.
use Rattle.std.specs.Prelude.{List, [], ◌∷◌, Option, Some, None, if◌then◌else◌}
use Rattle.gn_values.specs.Val.{Val}
use Rattle.gn_calls_text.specs.Answers.{Settled, bad_arguments, text_in, typed}
use Rattle.gn_calls_path.specs.Each.{texts_answer}
use Rattle.gn_calls_path.specs.Found.{read_at}
use Rattle.gn_calls_path.specs.Labels.{label_at}
use Rattle.gn_define.specs.Outputs.{has_outputs, outputs_of}
use Rattle.gn_items.specs.declared.item.Item.{Item}
use Rattle.gn_items.specs.Effects.{item_at}
use Rattle.gn_environment.specs.Environment.{Setting}
use Rattle.gn_meaning.specs.Items.{context_here, where_here}

-- the outputs of an item of a kind that has outputs of its own
abbrev pub known_outputs : Setting → Option Item → Settled
known_outputs setting None = bad_arguments
known_outputs setting (Some item) =
    if has_outputs item.kind then texts_answer (outputs_of (context_here setting item.kind) item.fields) else bad_arguments

-- what the call answers to these values, where these items have been defined
unfoldable pub target_outputs : Setting → List Item → List Val → Settled
target_outputs setting items (v ∷ []) =
    typed 0 (text_in v) (λ text. read_at 0 (label_at (where_here setting) text) (λ label. known_outputs setting (item_at label items)))
target_outputs setting items _ = bad_arguments

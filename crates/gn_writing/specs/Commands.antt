-- The command and the description of an action.
use Rattle.std.specs.Prelude.{ℕ, List, ◌∷◌, ◌++◌, codes}
use Rattle.gn_labels.specs.declared.label.Label.{Label}
use Rattle.gn_labels.specs.Labels.{printed}
use Rattle.gn_ninja_text.specs.Escapes.{value_escaped}
use Rattle.gn_ninja_text.specs.Words.{shell_word_of}

-- the program that runs scripts, and the script as a word of the shell
abbrev pub action_words : List ℕ → List ℕ → List ℕ
action_words program script = program ++ 32 ∷ shell_word_of script

-- `PROGRAM SCRIPT ${args}`, where `args` is bound by each run
abbrev pub action_command : List ℕ → List ℕ → List ℕ
action_command program script = value_escaped (action_words program script) ++ codes " ${args}"

-- `ACTION LABEL`
abbrev pub action_description : List ℕ → Label → List ℕ
action_description default label = value_escaped (codes "ACTION " ++ printed default label)

-- What the values that the code lends say of lines.
use Rattle.std.specs.Prelude.{ℕ, List, [], ◌∷◌, ◌++◌}
use Rattle.std.specs.List.{flat_map}
use Rattle.gn_ninja.specs.declared.lines.Bytes.{Bytes}
use Rattle.gn_ninja.specs.declared.lines.Bytes.TheVariants.{Fixed, Of}
use Rattle.gn_ninja.specs.declared.lines.Paths.{Paths}
use Rattle.gn_ninja.specs.declared.lines.Paths.TheVariants.{One, All, Copied, Runs}
use Rattle.gn_ninja.specs.declared.lines.Build.{Build}
use Rattle.gn_ninja.specs.declared.lines.Binding.{Binding}
use Rattle.gn_ninja.specs.declared.lines.Value.{Value}
use Rattle.gn_ninja.specs.declared.lines.Value.TheVariants.{Plain, PlainIf, FixedIf, Words, WordsIf, Written, WrittenIf}
use Rattle.gn_writing.specs.Kinds.{copied_outs, run_outs}
use Rattle.gn_writing.specs.Lines.{BuildLine, NinjaValue, plain, command_words, written, Line, a_binding, an_indented, plain_if, fixed_if, words_if, written_if}

abbrev pub bytes_of : Bytes → List ℕ
bytes_of (Fixed bytes) = bytes.now
bytes_of (Of text) = text.now

abbrev pub paths_of : Paths → List (List ℕ)
paths_of (One path) = path.now ∷ []
paths_of (All paths) = paths.now
paths_of (Copied files) = flat_map copied_outs files.now
paths_of (Runs runs) = flat_map run_outs runs.now

-- groups of paths, one behind the other
abbrev pub grouped : List Paths → List (List ℕ)
grouped [] = []
grouped (group ∷ []) = paths_of group
grouped (group ∷ next ∷ more) = paths_of group ++ grouped (next ∷ more)

-- a build line
abbrev pub line_of : Build → BuildLine
line_of b = record {
  outs = grouped b.outs.now;
  rule = bytes_of b.rule;
  ins = grouped b.ins.now;
  implicit = grouped b.implicit.now;
  order = grouped b.order.now;
}

-- a value
abbrev pub value_of : Value → NinjaValue
value_of (Plain bytes) = plain (bytes_of bytes)
value_of (PlainIf text) = plain_if text.now
value_of (FixedIf bytes text) = fixed_if bytes.now text.now
value_of (Words prefix words) = command_words prefix.now words.now
value_of (WordsIf words) = words_if words.now
value_of (Written text) = written text.now
value_of (WrittenIf text) = written_if text.now

-- a binding of the file
abbrev pub bound : Binding → Line
bound b = a_binding b.name.now (value_of b.value)

-- a binding of the line above it
abbrev pub indented : Binding → Line
indented b = an_indented b.name.now (value_of b.value)

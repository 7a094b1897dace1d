-- The text of a Ninja file: a file is blocks, a block is lines, and a build line has parts.
use Rattle.std.specs.Prelude.{ℕ, List, [], ◌∷◌, ◌++◌, codes, Bool, true, false, if◌then◌else◌}
use Rattle.std.specs.List.{fold, flat_map}
use Rattle.gn_text.specs.Names.{with_name}
use Rattle.gn_ninja_text.specs.Escapes.{path_escaped, value_escaped}
use Rattle.gn_ninja_text.specs.Words.{shell_word_of}
use Rattle.gn_writing.specs.Lines.{BuildLine, NinjaValue, absent, plain, command_words, written, Line, a_build, a_rule, a_pool, a_binding, an_indented, a_subninja, a_default}

-- each path once, at its first place
abbrev pub firsts : List (List ℕ) → List (List ℕ)
firsts paths = fold with_name [] paths

-- a path behind a space
abbrev pub spaced : List ℕ → List ℕ
spaced path = 32 ∷ path_escaped path

-- paths behind their bar; an empty part is left out with its bar
abbrev pub with_bar : List ℕ → List (List ℕ) → List ℕ
with_bar bar [] = []
with_bar bar (path ∷ more) = bar ++ flat_map spaced (path ∷ more)

-- a part of a build line: each path once
unfoldable pub part : List ℕ → List (List ℕ) → List ℕ
part bar paths = with_bar bar (firsts paths)

-- `build OUTS: RULE`
abbrev pub head_text : BuildLine → List ℕ
head_text b = codes "build" ++ part [] b.outs ++ codes ": " ++ b.rule

-- `INS | IMPLICIT || ORDER`, each part behind a space
abbrev pub parts_text : BuildLine → List ℕ
parts_text b = part [] b.ins ++ part (codes " |") b.implicit ++ part (codes " ||") b.order

-- `build OUTS: RULE INS | IMPLICIT || ORDER`
unfoldable pub build_text : BuildLine → List ℕ
build_text b = head_text b ++ parts_text b ++ 10 ∷ []

-- a text behind a space, and nothing for the empty text
abbrev pub behind : List ℕ → List ℕ
behind [] = []
behind (b ∷ more) = 32 ∷ b ∷ more

-- a word of a command behind a space
abbrev pub word_text : List ℕ → List ℕ → List ℕ
word_text prefix word = 32 ∷ value_escaped (shell_word_of (prefix ++ word))

-- a value behind its `=`
abbrev pub value_text : NinjaValue → List ℕ
value_text absent = []
value_text (plain value) = behind (value_escaped value)
value_text (command_words prefix words) = flat_map (word_text prefix) words
value_text (written text) = behind text

abbrev pub is_set : NinjaValue → Bool
is_set absent = false
is_set (plain value) = true
is_set (command_words prefix words) = true
is_set (written text) = true

-- `NAME = VALUE`, where `NAME =` stands for the empty value; a variable that isn't set has no line
unfoldable pub binding_text : List ℕ → List ℕ → NinjaValue → List ℕ
binding_text indent name value =
    if is_set value then (indent ++ name ++ codes " =") ++ value_text value ++ 10 ∷ [] else []

-- a line and its newline
abbrev pub line_text : Line → List ℕ
line_text (a_build b) = build_text b
line_text (a_rule name) = codes "rule " ++ name ++ 10 ∷ []
line_text (a_pool name) = codes "pool " ++ name ++ 10 ∷ []
line_text (a_binding name value) = binding_text [] name value
line_text (an_indented name value) = binding_text (codes "  ") name value
line_text (a_subninja path) = codes "subninja" ++ spaced path ++ 10 ∷ []
line_text (a_default name) = codes "default " ++ name ++ 10 ∷ []

-- an empty line behind what stands before
abbrev pub parted : List ℕ → List ℕ
parted [] = []
parted (b ∷ more) = b ∷ more ++ 10 ∷ []

-- a text and a block behind it, with an empty line between the two; a block without lines is left out
unfoldable pub with_block : List ℕ → List Line → List ℕ
with_block text [] = text
with_block text (line ∷ more) = parted text ++ flat_map line_text (line ∷ more)

-- a text and blocks behind it
abbrev pub with_blocks : List ℕ → List (List Line) → List ℕ
with_blocks text blocks = fold with_block text blocks

-- a file: its blocks, with one empty line between two
abbrev pub text_of_file : List (List Line) → List ℕ
text_of_file blocks = with_blocks [] blocks

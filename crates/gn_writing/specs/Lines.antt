-- The lines of a Ninja file, before they are text: a file is blocks, a block is lines, and a build line has parts.
use Rattle.std.specs.Prelude.{ℕ, List, [], Option, None, Some, ◌∷◌}
use Rattle.std.specs.List.{flat_map}

-- the parts of a build line, which are paths as seen from the build directory
pub record BuildLine : Type 0 where
  pub outs : List (List ℕ)
  pub rule : List ℕ
  pub ins : List (List ℕ)
  pub implicit : List (List ℕ)
  pub order : List (List ℕ)

-- what a variable is bound to: nothing where it isn't set; bytes; the words of a command, each behind a prefix; a text in
-- which substitutions are written already
pub data NinjaValue : Type 0 where
  absent : NinjaValue
  plain : (value : List ℕ) → NinjaValue
  command_words : (prefix : List ℕ) (words : List (List ℕ)) → NinjaValue
  written : (text : List ℕ) → NinjaValue

-- a line: a build line; `rule NAME`; `pool NAME`; a binding of the file; a binding of the line above it; a file that is read;
-- what is made where nothing is asked for
pub data Line : Type 0 where
  a_build : (line : BuildLine) → Line
  a_rule : (name : List ℕ) → Line
  a_pool : (name : List ℕ) → Line
  a_binding : (name : List ℕ) (value : NinjaValue) → Line
  an_indented : (name : List ℕ) (value : NinjaValue) → Line
  a_subninja : (path : List ℕ) → Line
  a_default : (name : List ℕ) → Line

-- the value where one is set
abbrev pub plain_if : Option (List ℕ) → NinjaValue
plain_if None = absent
plain_if (Some text) = plain text

-- these bytes where a text is there
abbrev pub fixed_if : List ℕ → Option (List ℕ) → NinjaValue
fixed_if bytes None = absent
fixed_if bytes (Some text) = plain bytes

-- the words where there are any
abbrev pub words_if : Option (List (List ℕ)) → NinjaValue
words_if None = absent
words_if (Some words) = command_words [] words

-- a text where it isn't empty
abbrev pub written_if : List ℕ → NinjaValue
written_if [] = absent
written_if (b ∷ more) = written (b ∷ more)

-- the left side of a line, which a build line alone has
abbrev pub line_outs : Line → List (List ℕ)
line_outs (a_build b) = b.outs
line_outs (a_rule name) = []
line_outs (a_pool name) = []
line_outs (a_binding name value) = []
line_outs (an_indented name value) = []
line_outs (a_subninja path) = []
line_outs (a_default name) = []

-- what a file makes: the left sides of its build lines
unfoldable pub made : List (List Line) → List (List ℕ)
made blocks = flat_map (flat_map line_outs) blocks

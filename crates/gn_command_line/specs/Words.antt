-- The forms of a command line, without the program's name: a command, and behind it plain words and switches in any order. A further command is a line in
-- each of `command_named`, `takes` and `form_of`, a further switch one in each of `switch_named`, `takes` and `with_switch`.
use Rattle.std.specs.Prelude.{◌≡◌, ℕ, ◌+◌, ◌-◌, ◌*◌, ◌==◌, ◌≤◌, Bool, true, ◌&&◌, ◌||◌, List, [], ◌∷◌, ◌++◌, Option, None, Some, option_map, option_and_then, Result, Ok, Err, codes, map, string_bytes, if◌then◌else◌, length, drop, nat_le, nat_eq}
use Rattle.std.specs.List.{list_any, starts_with, before_first, after_first}
use Rattle.std.specs.Str.{bytes_eq}
use Rattle.std.specs.declared.string.String.{String}
use Rattle.std.specs.declared.alloc.Global.{Global}
use Rattle.gn_paths.specs.declared.error.PathFault.{PathFault}
use Rattle.gn_paths.specs.Components.{is_system}
use Rattle.gn_paths.specs.Directory.{as_directory}
use Rattle.gn_paths.specs.Resolve.{path_meant}
use Rattle.gn_command_line.specs.declared.words.CommandName.{CommandName}
use Rattle.gn_command_line.specs.declared.words.CommandName.TheVariants as name
use Rattle.gn_command_line.specs.declared.switches.Switch.{Switch}
use Rattle.gn_command_line.specs.declared.switches.Switch.TheVariants.{Threads, Arguments}

-- the words that a run is given, as their bytes
abbrev pub texts : List (String Global) → List (List ℕ)
texts words = map string_bytes words

-- Switches

-- a word that begins with two dashes is a switch
abbrev pub is_switch : List ℕ → Bool
is_switch word = starts_with nat_eq word (codes "--")

abbrev pub is_equals : ℕ → Bool
is_equals b = b == 61

-- what a switch says behind its dashes: its name, up to the first `=`, and its value behind that, if it has one
abbrev pub name_said : List ℕ → List ℕ
name_said text = before_first is_equals text

abbrev pub value_said : List ℕ → Option (List ℕ)
value_said text = if list_any is_equals text then Some (after_first is_equals text) else None

-- the switches by their names
unfoldable pub switch_named : List ℕ → Option Switch
switch_named text =
    if bytes_eq text (codes "threads") then Some Threads
    else if bytes_eq text (codes "args") then Some Arguments
    else None

abbrev pub is_digit : ℕ → Bool
is_digit b = nat_le 48 b && nat_le b 57

-- a digit that a number begins with
abbrev pub is_first_digit : ℕ → Bool
is_first_digit b = nat_le 49 b && nat_le b 57

-- a number of workers: from 1 to 64, in decimal, without a sign and without a leading zero
unfoldable pub threads_of : List ℕ → Option ℕ
threads_of (d ∷ []) = if is_first_digit d then Some (d - 48) else None
threads_of (d ∷ e ∷ []) =
    if is_first_digit d && (is_digit e && nat_le (10 * (d - 48) + (e - 48)) 64) then Some (10 * (d - 48) + (e - 48)) else None
threads_of _ = None

-- build arguments can be written to a file with a newline behind them, and read again
abbrev pub max_arguments : ℕ
max_arguments = 16777215

-- build arguments that a command line can give
abbrev pub AreShort : Option (List ℕ) → Type 0
AreShort None = Unit {0}
AreShort (Some text) = length text ≤ max_arguments

-- what the switches of a line say
pub record Options : Type 0 where
  pub threads : Option ℕ
  pub arguments : Option (List ℕ)

-- a switch takes the place of one of its name that stands before it; a value that it can't have, or lacks, is none of a form
abbrev pub with_threads : Option ℕ → Options → Option Options
with_threads (Some n) options = Some (record options { threads = Some n })
with_threads None options = None

abbrev pub with_arguments : List ℕ → Options → Option Options
with_arguments text options = if nat_le (length text) max_arguments then Some (record options { arguments = Some text }) else None

unfoldable pub with_switch : Switch → Option (List ℕ) → Options → Option Options
with_switch Threads (Some text) options = with_threads (threads_of text) options
with_switch Arguments (Some text) options = with_arguments text options
with_switch switch None options = None

-- Commands

-- the commands by their names
unfoldable pub command_named : List ℕ → Option CommandName
command_named word =
    if bytes_eq word (codes "ls") then Some name.Ls
    else if bytes_eq word (codes "gen") then Some name.Gen
    else None

-- which switches a command takes
unfoldable pub takes : CommandName → Switch → Bool
takes name.Ls Threads = true
takes name.Ls Arguments = true
takes name.Gen Threads = true
takes name.Gen Arguments = true

-- a switch of a command, by the name and the value that it says
abbrev pub switch_taken : CommandName → Option Switch → Option (List ℕ) → Options → Option Options
switch_taken command (Some switch) value options = if takes command switch then with_switch switch value options else None
switch_taken command None value options = None

-- what was read of the words behind a command: the plain words in order, and the switches
pub record WordsRead : Type 0 where
  pub plain : List (List ℕ)
  pub options : Options

abbrev pub nothing_read : WordsRead
nothing_read = record { plain = []; options = record { threads = None; arguments = None } }

-- one more switch, which says this behind its dashes
abbrev pub switch_read : CommandName → List ℕ → WordsRead → Option WordsRead
switch_read command said read =
    option_map (λ options. record read { options = options }) (switch_taken command (switch_named (name_said said)) (value_said said) read.options)

-- one more word
abbrev pub word_read : CommandName → List ℕ → WordsRead → Option WordsRead
word_read command word read =
    if is_switch word then switch_read command (drop 2 word) read else Some (record read { plain = read.plain ++ word ∷ [] })

-- all words
abbrev pub words_read : CommandName → List (List ℕ) → WordsRead → Option WordsRead
words_read command [] read = Some read
words_read command (w ∷ ws) read = option_and_then (words_read command ws) (word_read command w read)

-- what a command asks for
pub data Command : Type 0 where
  Ls : (directory : List ℕ) (pattern : Option (List ℕ)) → Command
  Gen : (directory : List ℕ) → Command

-- the build directory that a word names: a path of the source tree, from its root and not the root itself
abbrev pub build_directory : Result (List ℕ) PathFault → Option (List ℕ)
build_directory (Ok path) = if is_system path || bytes_eq (as_directory path) (codes "//") then None else Some (as_directory path)
build_directory (Err fault) = None

abbrev pub directory_named : List ℕ → Option (List ℕ)
directory_named word = build_directory (path_meant (codes "//") word)

-- `ls DIR [PATTERN]`: the labels of a build
abbrev pub ls_of : Option (List ℕ) → Option (List ℕ) → Option Command
ls_of directory pattern = option_map (λ found. Ls found pattern) directory

-- `gen DIR`: the files of a build
abbrev pub gen_of : Option (List ℕ) → Option Command
gen_of directory = option_map (λ found. Gen found) directory

-- the form of the plain words behind a command
unfoldable pub form_of : CommandName → List (List ℕ) → Option Command
form_of name.Ls (directory ∷ []) = ls_of (directory_named directory) None
form_of name.Ls (directory ∷ pattern ∷ []) = ls_of (directory_named directory) (Some pattern)
form_of name.Ls _ = None
form_of name.Gen (directory ∷ []) = gen_of (directory_named directory)
form_of name.Gen _ = None

-- what a whole line says
pub record Line : Type 0 where
  pub command : Command
  pub options : Options

abbrev pub line_of : CommandName → Option WordsRead → Option Line
line_of command (Some read) = option_map (λ form. record { command = form; options = read.options }) (form_of command read.plain)
line_of command None = None

abbrev pub line_named : Option CommandName → List (List ℕ) → Option Line
line_named (Some command) words = line_of command (words_read command words nothing_read)
line_named None words = None

unfoldable pub line_said : List (List ℕ) → Option Line
line_said [] = None
line_said (word ∷ words) = line_named (command_named word) words

-- A command line that was read, as its meaning.
use Rattle.std.specs.Prelude.{map, option_map}
use Rattle.gn_command_line.specs.declared.words.Command.{Command as ReadCommand}
use Rattle.gn_command_line.specs.declared.words.Command.TheVariants.{Ls as ReadLs, Gen as ReadGen}
use Rattle.gn_command_line.specs.declared.words.Line.{Line as ReadLine}
use Rattle.gn_command_line.specs.declared.words.Read.{Read}
use Rattle.gn_command_line.specs.declared.switches.Options.{Options as ReadOptions}
use Rattle.gn_command_line.specs.Words.{Options, WordsRead, Command, Ls, Gen, Line}

abbrev pub options_view : ReadOptions → Options
options_view options = record { threads = options.threads; arguments = option_map (λ t. t.now) options.arguments }

abbrev pub read_view : Read → WordsRead
read_view read = record { plain = map (λ w. w.now) read.plain.items; options = options_view read.options }

abbrev pub command_view : ReadCommand → Command
command_view (ReadLs directory pattern) = Ls directory (option_map (λ t. t.now) pattern)
command_view (ReadGen directory) = Gen directory

abbrev pub line_view : ReadLine → Line
line_view line = record { command = command_view line.command; options = options_view line.options }

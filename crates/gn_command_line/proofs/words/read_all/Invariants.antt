use Rattle.std.proofs.Common.{◌≡◌, drop}
use Rattle.gn_command_line.specs.Words.{words_read}
use Rattle.gn_command_line.specs.Words.{texts}
use Rattle.gn_command_line.specs.Commands.{read_view}
use Rattle.gn_command_line.proofs.words.read_all.Given as goal

abbrev pub invariant-loop-word : goal.invariant-loop-word
invariant-loop-word l =
    words_read l.command (texts (drop l.word-index l.words)) (read_view l.read) ≡ words_read l.command (texts l.words) (read_view l.fn.read)

use Rattle.gn_grammar.proofs.Standing.{pieces_stand}
use Rattle.gn_grammar.proofs.law.pieces_stand_in_the_line.Goals as goal

pub returns : goal.returns
returns c = pieces_stand c.string_is_its_items.ensures

use Rattle.gn_book.proofs.Numbering.{number_by}
use Rattle.gn_book.proofs.roster.number_of.Goals as goal

pub returns : goal.returns
returns c = number_by c.args.keys.now.keys c.args.key.now c.get_index_of.result c.get_index_of.ensures.index c.get_index_of.ensures.found

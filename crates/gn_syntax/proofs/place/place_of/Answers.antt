use Rattle.gn_syntax.proofs.Positions.{line_of, column_of}
use Rattle.gn_syntax.proofs.place.place_of.Goals as goal

pub returns-clause-line : goal.returns-clause-line
returns-clause-line c = line_of c.args.bytes.now c.args.offset c.behind_bytes-position.result c.requires.size c.behind_bytes-position.ensures

pub returns-clause-column : goal.returns-clause-column
returns-clause-column c = column_of c.args.bytes.now c.args.offset c.behind_bytes-position.result c.requires.size c.behind_bytes-position.ensures

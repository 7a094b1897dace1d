use Rattle.gn_grammar.specs.Grammar.{boolean_word}
use Rattle.gn_syntax.proofs.Trees.{mark_at}
use Rattle.gn_syntax.proofs.parser.Parser.boolean.Goals as goal

pub returns-clause-spells : goal.returns-clause-spells
returns-clause-spells c = mark_at (boolean_word c.args.value) c.position-position.result c.args.self.now.ahead.tokens c.advance.new.self.ahead.tokens c.requires c.position-position.ensures c.advance.ensures.tokens

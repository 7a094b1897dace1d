use Rattle.std.proofs.Common.{◌∙◌, ap, refl}
use Rattle.gn_tokens.specs.declared.token.TokenKind.TheVariants as k
use Rattle.gn_grammar.specs.Pieces.{pieces_of}
use Rattle.gn_syntax.specs.Parsing.{text_at}
use Rattle.gn_syntax.proofs.Trees.{token_at}
use Rattle.gn_syntax.proofs.parser.Parser.string.Goals as goal

pub pieces-requires : goal.pieces-requires
pieces-requires c = c.text.ensures.is_token k.Str c.requires

pub returns-clause-spells : goal.returns-clause-spells
returns-clause-spells c = (
  text_at c.args.self.now.ahead.tokens,
  token_at k.Str c.position-position.result (text_at c.args.self.now.ahead.tokens) c.args.self.now.ahead.tokens c.advance.new.self.ahead.tokens c.requires c.position-position.ensures refl c.advance.ensures.tokens,
  c.in_ok-pieces.ensures.ok ∙ ap (pieces_of c.position-position.result) c.text.ensures.text,
)

use Rattle.std.proofs.Common.{◌≡◌, ◌∙◌, ap, refl, arith}
use Rattle.std.proofs.lemmas.Int.{to_z-of_z}
use Rattle.gn_tokens.specs.declared.token.TokenKind.TheVariants as k
use Rattle.gn_tokens.specs.Number.{integer_value}
use Rattle.gn_syntax.specs.Parsing.{text_at}
use Rattle.gn_syntax.proofs.Trees.{token_at}
use Rattle.gn_syntax.proofs.parser.Parser.integer.Goals as goal

pub integer_value-value-requires : goal.integer_value-value-requires
integer_value-value-requires c = c.text.ensures.is_token k.Integer c.requires

pub returns-clause-spells : goal.returns-clause-spells
returns-clause-spells c =
    let e : c.integer_value-value.result ≡ integer_value (text_at c.args.self.now.ahead.tokens) = c.integer_value-value.ensures ∙ ap integer_value c.text.ensures.text in (
      text_at c.args.self.now.ahead.tokens,
      token_at k.Integer c.position-position.result (text_at c.args.self.now.ahead.tokens) c.args.self.now.ahead.tokens c.advance.new.self.ahead.tokens c.requires c.position-position.ensures refl c.advance.ensures.tokens,
      grind (arith, to_z-of_z),
    )

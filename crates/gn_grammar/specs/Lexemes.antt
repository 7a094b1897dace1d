-- What the grammar sees of a file: its tokens with their positions and bytes, and what comes behind the last of them.
use Rattle.std.specs.Prelude.{ℕ, List, [], ◌∷◌, length, slice_range}
use Rattle.gn_tree.specs.declared.position.Position.{Position}
use Rattle.gn_tokens.specs.declared.token.Token.{Token}
use Rattle.gn_tokens.specs.declared.token.TokenKind.{TokenKind}
use Rattle.gn_tokens.specs.declared.token.TokenError.{TokenError}
use Rattle.gn_tokens.specs.Stream.{Stream, Ends, Fails, Gives, stream_of}
use Rattle.gn_grammar.specs.Position.{position_of}

-- a token as the grammar sees it: its kind, its offset, the position of its first byte, and its bytes
pub record Lexeme : Type 0 where
  pub kind : TokenKind
  pub start : ℕ
  pub position : Position
  pub text : List ℕ

-- what comes behind the last token
pub data Last : Type 0 where
  -- the end of the file, which stands behind the last byte
  End : (offset : ℕ) → Last
  -- no token, for this reason
  Wrong : (error : TokenError) → Last

abbrev pub lexeme_of : List ℕ → Token → Lexeme
lexeme_of bytes token =
    record { kind = token.kind; start = token.start; position = position_of bytes token.start; text = slice_range bytes token.start token.end }

-- the tokens of a stream over these bytes
abbrev pub lexemes_in : List ℕ → Stream → List Lexeme
lexemes_in bytes Ends = []
lexemes_in bytes (Fails error) = []
lexemes_in bytes (Gives token later) = lexeme_of bytes token ∷ lexemes_in bytes later

-- what comes behind them
abbrev pub last_in : List ℕ → Stream → Last
last_in bytes Ends = End (length bytes)
last_in bytes (Fails error) = Wrong error
last_in bytes (Gives token later) = last_in bytes later

-- the tokens of a file, up to the first error of a token
abbrev pub lexemes : List ℕ → List Lexeme
lexemes bytes = lexemes_in bytes (stream_of (record { bytes = bytes; at = 0 }))

-- what comes behind the tokens of a file
abbrev pub last_of : List ℕ → Last
last_of bytes = last_in bytes (stream_of (record { bytes = bytes; at = 0 }))

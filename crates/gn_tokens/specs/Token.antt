-- Which bytes are a token, and which stand between tokens.
use Rattle.std.specs.Prelude.{◌≡◌, ◌≢◌, ℕ, List, [], ◌∷◌, ◌++◌, All, IsTrue, codes}
use Rattle.gn_tokens.specs.declared.token.TokenKind.{TokenKind}
use Rattle.gn_tokens.specs.declared.token.TokenKind.TheVariants as k
use Rattle.gn_tokens.specs.Bytes.{is_white, IsIdentifier}
use Rattle.gn_tokens.specs.Number.{IsInteger}
use Rattle.gn_tokens.specs.Text.{IsString}

-- the bytes of a reserved word or of a mark; of the other kinds none
abbrev pub kind_text : TokenKind → List ℕ
kind_text k.Identifier = []
kind_text k.Integer = []
kind_text k.Str = []
kind_text k.If = codes "if"
kind_text k.Else = codes "else"
kind_text k.True = codes "true"
kind_text k.False = codes "false"
kind_text k.Assign = codes "="
kind_text k.AddAssign = codes "+="
kind_text k.SubAssign = codes "-="
kind_text k.Plus = codes "+"
kind_text k.Minus = codes "-"
kind_text k.Equal = codes "=="
kind_text k.NotEqual = codes "!="
kind_text k.Less = codes "<"
kind_text k.LessEqual = codes "<="
kind_text k.Greater = codes ">"
kind_text k.GreaterEqual = codes ">="
kind_text k.And = codes "&&"
kind_text k.Or = codes "||"
kind_text k.Not = codes "!"
kind_text k.Dot = codes "."
kind_text k.Comma = codes ","
kind_text k.OpenParen = codes "("
kind_text k.CloseParen = codes ")"
kind_text k.OpenBracket = codes "["
kind_text k.CloseBracket = codes "]"
kind_text k.OpenBrace = codes "{"
kind_text k.CloseBrace = codes "}"

-- The bytes are a token of this kind.
abbrev pub IsToken : TokenKind → List ℕ → Type 0
IsToken k.Identifier bs = IsIdentifier bs
IsToken k.Integer bs = IsInteger bs
IsToken k.Str bs = IsString bs
IsToken kind bs = bs ≡ kind_text kind

-- The bytes are white space and comments, each comment with the newline that ends it.
pub data IsGap : List ℕ → Type 0 where
  nothing : IsGap []
  white : (b : ℕ) (bs : List ℕ) → IsTrue (is_white b) → IsGap bs → IsGap (b ∷ bs)
  comment : (text bs : List ℕ) → All (λ c. c ≢ 10) text → IsGap bs → IsGap (35 ∷ (text ++ 10 ∷ bs))

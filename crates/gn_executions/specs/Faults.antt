-- The faults of a file that are found before it runs.
use Rattle.std.specs.Prelude.{ℕ, List, [], ◌∷◌}
use Rattle.gn_tokens.specs.declared.token.TokenError.TheVariants.{BadByte, BadNumber, OpenString, BadDollar}
use Rattle.gn_tree.specs.declared.position.Position.{Position}
use Rattle.gn_grammar.specs.declared.fault.SyntaxFault.{SyntaxFault}
use Rattle.gn_grammar.specs.declared.fault.SyntaxFault.TheVariants.{Token, Unexpected, TooDeep}
use Rattle.gn_grammar.specs.Position.{position_of}
use Rattle.gn_faults.specs.declared.code.Code.{Code}
use Rattle.gn_faults.specs.declared.code.Code.TheVariants as code
use Rattle.gn_faults.specs.declared.fault.Fault.{Fault}
use Rattle.gn_environment.specs.Environment.{Setting}
use Rattle.gn_environment.specs.Faults.{fault_in}

-- line 1, column 1
abbrev pub beginning : Position
beginning = record { line = 1; column = 1 }

-- a fault of the whole file, which shows its path
abbrev pub whole_file_fault : Setting → Code → Fault
whole_file_fault setting code = fault_in setting beginning code (setting.file ∷ [])

-- the code of a syntax error
abbrev pub syntax_code : SyntaxFault → Code
syntax_code (Token (BadByte offset)) = code.BadByte
syntax_code (Token (BadNumber offset)) = code.BadNumber
syntax_code (Token (OpenString offset)) = code.OpenString
syntax_code (Token (BadDollar offset)) = code.BadDollar
syntax_code (Unexpected offset) = code.Unexpected
syntax_code (TooDeep offset) = code.TooDeep

-- the offset at which a syntax error stands
abbrev pub syntax_offset : SyntaxFault → ℕ
syntax_offset (Token (BadByte offset)) = offset
syntax_offset (Token (BadNumber offset)) = offset
syntax_offset (Token (OpenString offset)) = offset
syntax_offset (Token (BadDollar offset)) = offset
syntax_offset (Unexpected offset) = offset
syntax_offset (TooDeep offset) = offset

-- a syntax error of these bytes as a fault
abbrev pub syntax_fault : Setting → List ℕ → SyntaxFault → Fault
syntax_fault setting bytes error = fault_in setting (position_of bytes (syntax_offset error)) (syntax_code error) []

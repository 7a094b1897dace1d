-- What bytes may be, whole: a file or one expression. In the words of grammars, the two start symbols.
use Rattle.std.specs.Prelude.{List, [], ◌∷◌, ◌++◌}
use Rattle.gn_tree.specs.Tree.{ExprTree, BlockTree}
use Rattle.gn_grammar.specs.Lexemes.{Lexeme}
use Rattle.gn_grammar.specs.Grammar.{Spells, SpellsStatements}
use Rattle.gn_grammar.specs.Machine.{Symbol, Operand, whole_file}

pub data Start : Type 0 where
  File : Start
  Expression : Start

-- The tokens are those of a file, or of one expression.
abbrev pub IsWhole : Start → List Lexeme → Type 0
IsWhole File tokens = (tree : BlockTree) × SpellsStatements tree tokens []
IsWhole Expression tokens = (tree : ExprTree) × Spells 1 tree tokens []

-- Some file, or some expression, begins with the tokens.
abbrev pub BeginsWhole : Start → List Lexeme → Type 0
BeginsWhole start tokens = (later : List Lexeme) × IsWhole start (tokens ++ later)

-- what the machine wants at the beginning
abbrev pub wanted_of : Start → List Symbol
wanted_of File = whole_file
wanted_of Expression = Operand 0 0 ∷ []

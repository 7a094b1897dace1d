-- A tool's text as a value of a Ninja file.
use Rattle.std.specs.Prelude.{ℕ, List, [], ◌∷◌, ◌++◌, map, codes}
use Rattle.std.specs.List.{flat_map}
use Rattle.gn_ninja_text.specs.Escapes.{doubled, value_escaped}
use Rattle.gn_ninja_text.specs.Values.{ValuePart, Byte, Variable}
use Rattle.gn_substs.specs.declared.names.Substitution.{Substitution}
use Rattle.gn_substs.specs.declared.names.Substitution.TheVariants.{Source, Inputs, Output, InputsNewline}
use Rattle.gn_substs.specs.declared.pieces.SubstPiece.{SubstPiece}
use Rattle.gn_substs.specs.Names.{substitution_name}
use Rattle.gn_substs.specs.Expansions.{with_texts}

-- the name of the Ninja variable that stands for a substitution
abbrev pub variable_name : Substitution → List ℕ
variable_name Source = codes "in"
variable_name Inputs = codes "in"
variable_name Output = codes "out"
variable_name InputsNewline = codes "in_newline"
variable_name s = substitution_name s

-- the variable, as `${in}`
abbrev pub variable_of : Substitution → List ℕ
variable_of s = 36 ∷ 123 ∷ (variable_name s ++ 125 ∷ [])

-- the bytes of a piece, escaped, and the variable of its substitution
abbrev pub doubled_with : SubstPiece → List ℕ
doubled_with p = doubled p.before ++ variable_of p.substitution

-- the text as a value of a Ninja file, with the variables in place of the substitutions
abbrev pub tool_text : List SubstPiece → List ℕ → List ℕ
tool_text [] last = value_escaped last
tool_text (p ∷ more) last = ((value_escaped p.before ++ variable_of p.substitution) ++ flat_map doubled_with more) ++ doubled last

-- what a piece says as a part of a value: its bytes, each for itself, and the variable of its substitution
abbrev pub piece_parts : SubstPiece → List ValuePart
piece_parts p = map Byte p.before ++ Variable (variable_name p.substitution) ∷ []

-- what a text says as a value: its bytes, each for itself, and the variables in place of the substitutions
abbrev pub value_parts : List SubstPiece → List ℕ → List ValuePart
value_parts pieces last = flat_map piece_parts pieces ++ map Byte last

-- the text with the values of the variables in place of the substitutions
abbrev pub with_values : (List ℕ → List ℕ) → List SubstPiece → List ℕ → List ℕ
with_values values pieces last = with_texts (λ s. values (variable_name s)) pieces last

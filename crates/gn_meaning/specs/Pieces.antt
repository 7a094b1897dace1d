-- The expansions of a string.
use Rattle.std.specs.Prelude.{ℕ, false, List, [], ◌∷◌, ◌++◌}
use Rattle.gn_tree.specs.declared.position.Position.{Position}
use Rattle.gn_tree.specs.declared.piece.Piece.{Piece}
use Rattle.gn_tree.specs.declared.piece.Piece.TheVariants.{Bytes, Name, Item, Entry}
use Rattle.gn_tree.specs.declared.piece.Subscript.{Subscript}
use Rattle.gn_tree.specs.declared.piece.Subscript.TheVariants.{Name as NameSubscript, Integer}
use Rattle.gn_values.specs.Val.{Val, vint, vstr}
use Rattle.gn_values.specs.Text.{text_of}
use Rattle.gn_runs.specs.Runs.{Run}
use Rattle.gn_meaning.specs.Steps.{Left, Steps, then_do, ends}
use Rattle.gn_meaning.specs.Words.{name_runs, base_runs, element_runs}

-- the subscript of an expansion, whose faults stand at its `$`
abbrev pub subscript_runs : Subscript → Position → Steps Val
subscript_runs (NameSubscript name) position env out = name_runs name position env out
subscript_runs (Integer n) position env out = ends (vint n) env out

-- the text of a value
abbrev pub text_runs : Run (Left Val) → Run (Left (List ℕ))
text_runs run = then_do run (λ v env out. ends (text_of false v) env out)

-- the text of a piece: each fault of an expansion stands at its `$`
unfoldable pub piece_runs : Piece → Steps (List ℕ)
piece_runs (Bytes text) env out = ends text env out
piece_runs (Name position name) env out = text_runs (name_runs name position env out)
piece_runs (Item position base subscript) env out =
    text_runs (then_do (base_runs base position env out)
    (λ _ env1 out1. then_do (subscript_runs subscript position env1 out1) (λ at env2 out2. element_runs base position at position env2 out2)))
piece_runs (Entry position base entry) env out = text_runs (element_runs base position (vstr entry) position env out)

-- the texts of pieces in order, behind the text that is there. How long it gets is judged once all pieces have theirs
abbrev pub pieces_run : List Piece → List ℕ → Steps (List ℕ)
pieces_run [] text env out = ends text env out
pieces_run (piece ∷ pieces) text env out = then_do (piece_runs piece env out) (λ more env1 out1. pieces_run pieces (text ++ more) env1 out1)

-- The pieces of a string literal.
use Rattle.std.specs.Prelude.{ℕ, ◌+◌, ◌-◌, ◌*◌, List, [], ◌∷◌, drop, if◌then◌else◌, nat_lt}
use Rattle.gn_tree.specs.declared.position.Position.{Position}
use Rattle.gn_tree.specs.declared.piece.Piece.{Piece}
use Rattle.gn_tree.specs.declared.piece.Piece.TheVariants as piece
use Rattle.gn_tree.specs.declared.piece.Subscript.{Subscript}
use Rattle.gn_tree.specs.declared.piece.Subscript.TheVariants as subscript
use Rattle.gn_tokens.specs.Bytes.{begins, is_letter}
use Rattle.gn_tokens.specs.Number.{integer_value}
use Rattle.gn_tokens.specs.Text.{Item, Plain, Escape, Hex, Variable, Braced, Element, Field, string_items}
use Rattle.gn_grammar.specs.Position.{further}

-- the value of a hexadecimal digit of either case
abbrev pub hex_value : ℕ → ℕ
hex_value b = if nat_lt b 65 then b - 48 else (if nat_lt b 97 then b - 55 else b - 87)

-- what stands between the square brackets of an expansion: an identifier or an integer
abbrev pub subscript_of : List ℕ → Subscript
subscript_of index = if begins is_letter index then subscript.Name index else subscript.Integer (integer_value index)

-- a byte before pieces, which joins the run of bytes that begins them
abbrev pub byte_before : ℕ → List Piece → List Piece
byte_before b (piece.Bytes bs ∷ later) = piece.Bytes (b ∷ bs) ∷ later
byte_before b later = piece.Bytes (b ∷ []) ∷ later

-- an item that stands at the position, before the pieces of what follows it
abbrev pub item_before : Position → Item → List Piece → List Piece
item_before position (Plain b) later = byte_before b later
item_before position (Escape b) later = byte_before b later
item_before position (Hex high low) later = byte_before (hex_value high * 16 + hex_value low) later
item_before position (Variable name) later = piece.Name position name ∷ later
item_before position (Braced name) later = piece.Name position name ∷ later
item_before position (Element base index) later = piece.Item position base (subscript_of index) ∷ later
item_before position (Field base entry) later = piece.Entry position base entry ∷ later

-- the pieces of items with their offsets, counted from the opening quote, which stands at the position
abbrev pub pieces_from : Position → List (ℕ × Item) → List Piece
pieces_from position [] = []
pieces_from position (item ∷ items) = item_before (further item.0 position) item.1 (pieces_from position items)

-- The pieces of the string literal with these bytes, quotes and all, whose opening quote stands at the position.
-- Escapes and `$0xHH` are the bytes that they stand for, and bytes side by side are one piece.
abbrev pub pieces_of : Position → List ℕ → List Piece
pieces_of position text = pieces_from position (string_items 1 (drop 1 text))

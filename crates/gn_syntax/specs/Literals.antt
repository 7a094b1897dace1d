-- A string literal that is read from the left: complete pieces, and a run of bytes behind them.
use Rattle.std.specs.Prelude.{◌≡◌, ℕ, ◌+◌, ◌≤◌, true, List, [], ◌∷◌, ◌++◌, length, drop}
use Rattle.gn_tree.specs.declared.position.Position.{Position}
use Rattle.gn_tree.specs.declared.piece.Piece.{Piece}
use Rattle.gn_tree.specs.declared.piece.Piece.TheVariants as piece
use Rattle.gn_tokens.specs.Bytes.{front_word, past_word}
use Rattle.gn_tokens.specs.Text.{Item, Reads, AllExpand, IsItem, expands, is_braced, braced_item, expansion_item, item_bytes, text_items, string_items}
use Rattle.gn_grammar.specs.Pieces.{byte_before, item_before, pieces_from}

-- a run of bytes before pieces
abbrev pub run_before : List ℕ → List Piece → List Piece
run_before [] later = later
run_before (b ∷ run) later = byte_before b (run_before run later)

-- a run of bytes as pieces: one, or none where it is empty
abbrev pub run_pieces : List ℕ → List Piece
run_pieces [] = []
run_pieces (b ∷ run) = piece.Bytes (b ∷ run) ∷ []

-- what has been read, and the pieces of the bytes that are left, of which the first has this offset
abbrev pub meaning : Position → List Piece → List ℕ → ℕ → List ℕ → List Piece
meaning position done run at bytes = done ++ run_before run (pieces_from position (string_items at bytes))

-- The item at the position is this piece, which no byte before it joins.
pub record IsPiece (position : Position) (item : Item) (p : Piece) : Type 0 where
  pub is : (later : List Piece) → item_before position item later ≡ p ∷ later
  pub apart : (b : ℕ) (later : List Piece) → byte_before b (p ∷ later) ≡ piece.Bytes (b ∷ []) ∷ p ∷ later

-- An expansion or a byte by its digits stands behind the `$`, and is one of the grammar.
pub record Expands (bs : List ℕ) : Type 0 where
  pub is_right : expands bs ≡ true
  pub later : List ℕ
  pub item : IsItem (expansion_item bs) later

-- The bytes behind a literal's opening quote, or what is left of them: right items, and then the closing quote.
pub record IsRest (bs : List ℕ) : Type 0 where
  pub reads : Reads (text_items bs) bs (34 ∷ [])
  pub expand : AllExpand (text_items bs)

-- The item at the position has been read.
pub record Took (position : Position) (item : Item) (before : List Piece) (run : List ℕ) (after : List Piece) (run2 : List ℕ) : Type 0 where
  pub same : (later : List Piece) → after ++ run_before run2 later ≡ before ++ run_before run (item_before position item later)

-- An item of so many bytes has been read, or there is none.
pub record Stepped (position : Position) (at : ℕ) (bytes : List ℕ) (before : List Piece) (run : List ℕ) (after : List Piece) (run2 : List ℕ) (n : ℕ) : Type 0 where
  pub within : n ≤ length bytes
  pub same : meaning position after run2 (at + n) (drop n bytes) ≡ meaning position before run at bytes
  pub rest : IsRest (drop n bytes)
  pub stops : n ≡ 0 → string_items at bytes ≡ []

-- An item is written so: as this piece, and with so many bytes.
pub record IsWritten (position : Position) (item : Item) (p : Piece) (n : ℕ) : Type 0 where
  pub piece : IsPiece position item p
  pub len : n ≡ length (item_bytes item)

-- What stands behind `${` is right.
pub record IsBraced (bs : List ℕ) : Type 0 where
  pub is_right : is_braced bs ≡ true
  pub later : List ℕ
  pub item : IsItem (braced_item (front_word bs) (past_word bs)) later

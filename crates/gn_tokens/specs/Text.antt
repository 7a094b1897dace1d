-- How the bytes of a string are read: as items.
use Rattle.std.specs.Prelude.{◌≡◌, ◌≢◌, refl, ℕ, zero, suc, ◌+◌, ◌-◌, Bool, true, false, not, ◌||◌, ◌&&◌, ◌==◌, if◌then◌else◌, List, [], ◌∷◌, ◌++◌, length, take, drop, Option, Some, None, All, IsTrue, ◌⊎◌}
use Rattle.std.specs.List.{prefix_len}
use Rattle.gn_tokens.specs.Bytes.{is_letter, is_word_byte, is_hex_digit, is_escapable, begins, begins_with, IsIdentifier, front_word, past_word, is_name}
use Rattle.gn_tokens.specs.Number.{IsInteger, integer_len}

-- an item of a string
pub data Item : Type 0 where
  -- a byte that stands for itself
  Plain : (byte : ℕ) → Item
  -- a backslash and this byte, which stands for itself
  Escape : (byte : ℕ) → Item
  -- `$0x` and two hexadecimal digits, which are one byte
  Hex : (high low : ℕ) → Item
  -- `$name`
  Variable : (name : List ℕ) → Item
  -- `${name}`
  Braced : (name : List ℕ) → Item
  -- `${name[index]}`, where the index is an identifier or an integer
  Element : (name index : List ℕ) → Item
  -- `${name.field}`
  Field : (name field : List ℕ) → Item

-- the bytes that an item is written with
abbrev pub item_bytes : Item → List ℕ
item_bytes (Plain b) = b ∷ []
item_bytes (Escape b) = 92 ∷ b ∷ []
item_bytes (Hex high low) = 36 ∷ 48 ∷ 120 ∷ high ∷ low ∷ []
item_bytes (Variable name) = 36 ∷ name
item_bytes (Braced name) = 36 ∷ 123 ∷ (name ++ 125 ∷ [])
item_bytes (Element name index) = 36 ∷ 123 ∷ (name ++ 91 ∷ (index ++ 93 ∷ 125 ∷ []))
item_bytes (Field name field) = 36 ∷ 123 ∷ (name ++ 46 ∷ (field ++ 125 ∷ []))

-- The item is an expansion or a byte by its digits, where these bytes come behind it.
abbrev pub IsExpansion : Item → List ℕ → Type 0
IsExpansion (Plain b) rest = ⊥
IsExpansion (Escape b) rest = ⊥
IsExpansion (Hex high low) rest = IsTrue (is_hex_digit high) × IsTrue (is_hex_digit low)
IsExpansion (Variable name) rest = IsIdentifier name × (begins is_word_byte rest ≡ false)
IsExpansion (Braced name) rest = IsIdentifier name
IsExpansion (Element name index) rest = IsIdentifier name × (IsIdentifier index ⊎ IsInteger index)
IsExpansion (Field name field) rest = IsIdentifier name × IsIdentifier field

-- No expansion stands at the front of these bytes, which begin with a `$`.
abbrev pub IsLone : List ℕ → Type 0
IsLone bs = (item : Item) (rest : List ℕ) → IsExpansion item rest → bs ≢ item_bytes item ++ rest

-- An item of a string, where these bytes come behind it. A backslash stands for itself only where no escape is, and a `$` only where no expansion is.
abbrev pub IsItem : Item → List ℕ → Type 0
IsItem (Plain b) rest = (b ≢ 34) × (b ≢ 10) × (b ≡ 92 → begins is_escapable rest ≡ false) × (b ≡ 36 → IsLone (36 ∷ rest))
IsItem (Escape b) rest = IsTrue (is_escapable b)
IsItem item rest = IsExpansion item rest

-- The bytes are those of the items, and then the rest.
abbrev pub Reads : List Item → List ℕ → List ℕ → Type 0
Reads [] bs rest = bs ≡ rest
Reads (item ∷ items) bs rest = (later : List ℕ) × (bs ≡ item_bytes item ++ later) × IsItem item later × Reads items later rest

-- no `$` that stands for itself
abbrev pub AllExpand : List Item → Type 0
AllExpand items = All (λ item. item ≢ Plain 36) items

-- items between two `"`, in which each `$` is of an escape or an expansion
abbrev pub IsString : List ℕ → Type 0
IsString bs = (items : List Item) × (text : List ℕ) × (bs ≡ 34 ∷ text) × Reads items text (34 ∷ []) × AllExpand items

-- The bytes begin with a `"` that no other closes: a newline or the end of the file comes first.
abbrev pub IsOpen : List ℕ → Type 0
IsOpen bs = (items : List Item) × (text : List ℕ) × (rest : List ℕ) × (bs ≡ 34 ∷ text) × Reads items text rest × ((rest ≡ []) ⊎ (begins_with 10 rest ≡ true))

-- The bytes begin with a closed string, and behind so many bytes in it stands its first `$` that is neither of an escape nor of an expansion.
pub record IsBadDollarBehind (bs : List ℕ) (len : ℕ) : Type 0 where
  pub text : List ℕ
  pub before : List Item
  pub dollar : List ℕ
  pub later : List Item
  pub rest : List ℕ
  pub opens : bs ≡ 34 ∷ text
  pub reads : Reads before text (36 ∷ dollar)
  pub good : AllExpand before
  pub lone : IsLone (36 ∷ dollar)
  pub closes : Reads later dollar (34 ∷ rest)
  pub len_is : length bs ≡ len + length (36 ∷ dollar)

-- The items of a string as a function.

-- `0x` and two hexadecimal digits
abbrev pub is_hex : List ℕ → Bool
is_hex (b ∷ c ∷ d ∷ e ∷ bs) = b == 48 && c == 120 && is_hex_digit d && is_hex_digit e
is_hex _ = false

-- name}
abbrev pub is_field : List ℕ → Bool
is_field bs = is_name bs && begins_with 125 (past_word bs)

-- how many bytes the index at the front has, an identifier or an integer
abbrev pub index_len : List ℕ → Option ℕ
index_len bs = if begins is_letter bs then (if is_name bs then Some (prefix_len is_word_byte bs) else None) else integer_len bs

-- ]}
abbrev pub closes : List ℕ → Bool
closes bs = begins_with 93 bs && begins_with 125 (drop 1 bs)

abbrev pub closes_behind : Option ℕ → List ℕ → Bool
closes_behind None bs = false
closes_behind (Some n) bs = closes (drop n bs)

-- what may stand behind the name in `${name`
abbrev pub is_braced_end : List ℕ → Bool
is_braced_end bs =
    if begins_with 125 bs then true
    else (if begins_with 46 bs then is_field (drop 1 bs) else (begins_with 91 bs && closes_behind (index_len (drop 1 bs)) (drop 1 bs)))

-- name}, name[index]} or name.field}
abbrev pub is_braced : List ℕ → Bool
is_braced bs = is_name bs && is_braced_end (past_word bs)

-- An expansion or a byte by its digits stands at the front, without its `$`.
abbrev pub expands : List ℕ → Bool
expands bs = if begins_with 123 bs then is_braced (drop 1 bs) else (is_name bs || is_hex bs)

-- the `"` that closes a string, or the newline before which it had to be closed
abbrev pub is_stop : ℕ → Bool
is_stop b = b == 34 || b == 10

-- how many bytes stand in front of the first `"` that is not escaped, the first newline or the end; the flag says that a backslash stands before that begins an escape
abbrev pub text_len : Bool → List ℕ → ℕ
text_len is_escape [] = 0
text_len is_escape (b ∷ bs) = if is_escape && is_escapable b then suc (text_len false bs) else (if is_stop b then 0 else suc (text_len (b == 92) bs))

-- the place, counted from n bytes before
abbrev pub further : ℕ → Option ℕ → Option ℕ
further n None = None
further n (Some i) = Some (n + i)

-- where the first `$` of a string stands that is neither escaped nor of an expansion; the flag is as above
abbrev pub first_bad : Bool → List ℕ → Option ℕ
first_bad is_escape [] = None
first_bad is_escape (b ∷ bs) =
    if is_escape && is_escapable b then further 1 (first_bad false bs)
    else (if is_stop b then None else (if b == 36 && not (expands bs) then Some 0 else further 1 (first_bad (b == 92) bs)))

abbrev pub first_or_zero : List ℕ → ℕ
first_or_zero [] = 0
first_or_zero (b ∷ bs) = b

-- the index of an element at the front
abbrev pub front_index : Option ℕ → List ℕ → List ℕ
front_index None bs = []
front_index (Some n) bs = take n bs

-- the expansion whose name this is, and behind whose name these bytes stand
abbrev pub braced_item : List ℕ → List ℕ → Item
braced_item name bs =
    if begins_with 125 bs then Braced name
    else (if begins_with 46 bs then Field name (front_word (drop 1 bs)) else Element name (front_index (index_len (drop 1 bs)) (drop 1 bs)))

abbrev pub hex_item : List ℕ → Item
hex_item (b ∷ c ∷ d ∷ e ∷ bs) = Hex d e
hex_item _ = Plain 36

-- the expansion at the front, without its `$`
abbrev pub expansion_item : List ℕ → Item
expansion_item bs =
    if begins_with 123 bs then braced_item (front_word (drop 1 bs)) (past_word (drop 1 bs))
    else (if is_name bs then Variable (front_word bs) else hex_item bs)

-- the item at the front
abbrev pub front_item : ℕ → List ℕ → Item
front_item b bs =
    if b == 92 && begins is_escapable bs then Escape (first_or_zero bs)
    else (if b == 36 && expands bs then expansion_item bs else Plain b)

-- the items behind so many bytes, up to the `"` or newline that ends them
abbrev pub items_from : ℕ → List ℕ → List Item
items_from skip [] = []
items_from zero (b ∷ bs) = if is_stop b then [] else front_item b bs ∷ items_from (length (item_bytes (front_item b bs)) - 1) bs
items_from (suc skip) (b ∷ bs) = items_from skip bs

-- which are those of the rest
pub items_skip : (n : ℕ) (bs : List ℕ) → items_from n bs ≡ items_from 0 (drop n bs)
items_skip zero bs = refl
items_skip (suc n) [] = refl
items_skip (suc n) (b ∷ bs) = items_skip n bs

-- the items of a text, which is the bytes behind the opening quote of a string
abbrev pub text_items : List ℕ → List Item
text_items text = items_from 0 text

-- items with their offsets, of which the first is this one
abbrev pub placed : ℕ → List Item → List (ℕ × Item)
placed at [] = []
placed at (item ∷ items) = (at, item) ∷ placed (at + length (item_bytes item)) items

-- the items of a text with their offsets, where the text begins at this offset
abbrev pub string_items : ℕ → List ℕ → List (ℕ × Item)
string_items at text = placed at (text_items text)

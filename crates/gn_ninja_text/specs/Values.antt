-- Values in which variables stand, and how Ninja reads them.
use Rattle.std.specs.Prelude.{ℕ, Bool, List, [], ◌∷◌, ◌++◌, ◌==◌, ◌||◌, Option, None, Some, if◌then◌else◌, option_map}
use Rattle.std.specs.List.{flat_map}
use Rattle.std.specs.Char.{is_ascii_alphanumeric}
use Rattle.gn_ninja_text.specs.Marks.{is_one_of}
use Rattle.gn_ninja_text.specs.Escapes.{without_first_spaces}

-- a part of a value: a byte that stands for itself, or the variable of a name
pub data ValuePart : Type 0 where
  Byte : ℕ → ValuePart
  Variable : List ℕ → ValuePart

-- letters, digits and `_ . -`, of which the name of a variable between braces is made
abbrev pub is_name_byte : ℕ → Bool
is_name_byte b = is_ascii_alphanumeric b || is_one_of (95 ∷ 46 ∷ 45 ∷ []) b

-- where a reading is: among bytes, behind a `$`, or behind these bytes of a variable's name
pub data ReadingAt : Type 0 where
  Bytes : ReadingAt
  Dollar : ReadingAt
  Name : List ℕ → ReadingAt

abbrev pub with_byte : ℕ → Option (List ValuePart) → Option (List ValuePart)
with_byte b parts = option_map (λ more. Byte b ∷ more) parts

-- no variable has an empty name
abbrev pub with_variable : List ℕ → Option (List ValuePart) → Option (List ValuePart)
with_variable [] parts = None
with_variable (b ∷ name) parts = option_map (λ more. Variable (b ∷ name) ∷ more) parts

-- the parts of a text: `$ ` and `$$` stand for their second byte, a name between `${` and `}` for its variable, and every
-- other byte for itself. None is for a `$` before another byte or at the end, and for a name that is bad or not closed
abbrev pub parts_from : ReadingAt → List ℕ → Option (List ValuePart)
parts_from Bytes [] = Some []
parts_from Dollar [] = None
parts_from (Name name) [] = None
parts_from Bytes (b ∷ more) = if b == 36 then parts_from Dollar more else with_byte b (parts_from Bytes more)
parts_from Dollar (b ∷ more) =
    if is_one_of (36 ∷ 32 ∷ []) b then with_byte b (parts_from Bytes more) else (if b == 123 then parts_from (Name []) more else None)
parts_from (Name name) (b ∷ more) =
    if b == 125 then with_variable name (parts_from Bytes more) else (if is_name_byte b then parts_from (Name (name ++ b ∷ [])) more else None)

-- the parts of the value that Ninja reads behind a `=`, where it holds no newline, carriage return or NUL: spaces at the
-- beginning are dropped. Ninja's further forms, as `$name` without braces, aren't read here
unfoldable pub value_parts_read : List ℕ → Option (List ValuePart)
value_parts_read text = parts_from Bytes (without_first_spaces text)

-- the bytes of a part, where these are the values of the variables
abbrev pub part_bytes : (List ℕ → List ℕ) → ValuePart → List ℕ
part_bytes values (Byte b) = b ∷ []
part_bytes values (Variable name) = values name

-- the bytes of a value, where these are the values of the variables
abbrev pub parts_bytes : (List ℕ → List ℕ) → List ValuePart → List ℕ
parts_bytes values parts = flat_map (part_bytes values) parts

-- the value that Ninja makes of a text behind a `=`, where these are the values of the variables
abbrev pub value_made : (List ℕ → List ℕ) → List ℕ → Option (List ℕ)
value_made values text = option_map (parts_bytes values) (value_parts_read text)

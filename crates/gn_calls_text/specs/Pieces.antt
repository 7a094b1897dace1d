-- Texts and lists in pieces.
use Rattle.std.specs.Prelude.{ℕ, zero, suc, ◌+◌, ◌==◌, ◌||◌, Bool, nat_eq, if◌then◌else◌, List, [], ◌∷◌, take, drop, length, filter, Option, Some, None, option_map, ◌/◌, ◌%◌}
use Rattle.std.specs.List.{starts_with, join_by}

-- the first place, counted from 0, at which a part of the text begins that passes the test
abbrev pub first_where : (List ℕ → Bool) → List ℕ → Option ℕ
first_where test [] = if test [] then Some 0 else None
first_where test (b ∷ more) = if test (b ∷ more) then Some 0 else option_map suc (first_where test more)

-- the first place at which the bytes of `part` stand in the text
unfoldable pub first_place : List ℕ → List ℕ → Option ℕ
first_place part text = first_where (λ t. starts_with nat_eq t part) text

-- what stands before a separator at this place, and the pieces of what follows it
abbrev pub cut_at : (List ℕ → List (List ℕ)) → List ℕ → List ℕ → Option ℕ → List (List ℕ)
cut_at pieces separator text None = text ∷ []
cut_at pieces separator text (Some place) = take place text ∷ pieces (drop (place + length separator) text)

-- the pieces of a text that is cut at the separator, at the first place from the left and then at the first in what
-- follows, at so many places at most
unfoldable pub cut : ℕ → List ℕ → List ℕ → List (List ℕ)
cut zero separator text = text ∷ []
cut (suc count) separator text = cut_at (cut count separator) separator text (first_place separator text)

-- a text cut at all separators; a separator that isn't empty stands at no more places than the text has bytes
abbrev pub split_by : List ℕ → List ℕ → List (List ℕ)
split_by separator text = cut (length text) separator text

-- the texts with the separator between two
abbrev pub joined : List ℕ → List (List ℕ) → List ℕ
joined separator texts = join_by (λ t. t) separator texts

-- a text with `new` in place of `old`, at so many places at most. What was put in isn't looked at again
abbrev pub replaced : ℕ → List ℕ → List ℕ → List ℕ → List ℕ
replaced count old new text = joined new (cut count old text)

-- space, tab, carriage return and newline
abbrev pub is_white_space : ℕ → Bool
is_white_space b = b == 32 || (b == 9 || (b == 13 || b == 10))

-- a byte before the first of these pieces
abbrev pub before_first : ℕ → List (List ℕ) → List (List ℕ)
before_first b [] = (b ∷ []) ∷ []
before_first b (t ∷ ts) = (b ∷ t) ∷ ts

-- the pieces of a text between its bytes of white space, empty ones too
unfoldable pub between_white_space : List ℕ → List (List ℕ)
between_white_space [] = [] ∷ []
between_white_space (b ∷ more) = if is_white_space b then [] ∷ between_white_space more else before_first b (between_white_space more)

-- whether a text has bytes
abbrev pub is_filled : List ℕ → Bool
is_filled [] = Bool.false
is_filled (b ∷ more) = Bool.true

-- the runs of bytes that aren't white space
unfoldable pub words : List ℕ → List (List ℕ)
words text = filter is_filled (between_white_space text)

-- the first of some lengths, so many of which are one above `least`
abbrev pub first_length : ℕ → ℕ → ℕ
first_length least zero = least
first_length least (suc more) = least + 1

-- so many lengths, the first `more` of which are one above `least`
abbrev pub lengths : ℕ → ℕ → ℕ → List ℕ
lengths zero least more = []
lengths (suc count) least zero = least ∷ lengths count least zero
lengths (suc count) least (suc more) = suc least ∷ lengths count least more

-- lists of these lengths, one after the other
abbrev pub lists_of : {A : Type 0} → List ℕ → List A → List (List A)
lists_of [] xs = []
lists_of (n ∷ ns) xs = take n xs ∷ lists_of ns (drop n xs)

-- a list in so many lists that are as long as each other, or one item longer for the first ones
unfoldable pub parted : {A : Type 0} → ℕ → List A → List (List A)
parted count xs = lists_of (lengths count (length xs / count) (length xs % count)) xs

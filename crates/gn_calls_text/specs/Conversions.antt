-- What `read_file` makes of the content of a file, by the name of the conversion.
use Rattle.std.specs.Prelude.{ℕ, ◌-◌, Bool, true, false, if◌then◌else◌, List, [], ◌∷◌, take, drop, length, Option, Some, None, codes}
use Rattle.std.specs.List.{filter, prefix_len, suffix_len}
use Rattle.std.specs.Str.{bytes_eq}
use Rattle.gn_calls_text.specs.declared.conversions.Conversion.{Conversion}
use Rattle.gn_calls_text.specs.declared.conversions.Conversion.TheVariants.{Nothing, Of, Evaluated}
use Rattle.gn_calls_text.specs.declared.conversions.Form.{Form}
use Rattle.gn_calls_text.specs.declared.conversions.Form.TheVariants.{Whole, Trimmed, Lines, TrimmedLines}
use Rattle.gn_calls_text.specs.Answers.{Settled, text_answer, list_answer}
use Rattle.gn_calls_text.specs.Calls.{text_list}
use Rattle.gn_calls_text.specs.Pieces.{is_white_space, is_filled, split_by}

-- the conversion of this name. White space at the ends of an expression is no part of it, so to trim it first changes nothing
unfoldable pub conversion_of : List ℕ → Option Conversion
conversion_of name =
    if bytes_eq name (codes "") then Some Nothing
    else if bytes_eq name (codes "string") then Some (Of Whole)
    else if bytes_eq name (codes "list lines") then Some (Of Lines)
    else if bytes_eq name (codes "trim string") then Some (Of Trimmed)
    else if bytes_eq name (codes "trim list lines") then Some (Of TrimmedLines)
    else if bytes_eq name (codes "value") then Some Evaluated
    else if bytes_eq name (codes "trim value") then Some Evaluated
    else None

-- whether the content is evaluated
abbrev pub is_evaluated : Conversion → Bool
is_evaluated Nothing = false
is_evaluated (Of form) = false
is_evaluated Evaluated = true

-- a text without the white space at its end, and without that at both its ends
abbrev pub trimmed_behind : List ℕ → List ℕ
trimmed_behind text = take (length text - suffix_len is_white_space text) text

abbrev pub trimmed : List ℕ → List ℕ
trimmed text = trimmed_behind (drop (prefix_len is_white_space text) text)

-- the lines that stand in these pieces: each piece without white space at both its ends. A last line that is empty then is none
abbrev pub lines_in : List (List ℕ) → List (List ℕ)
lines_in [] = []
lines_in (t ∷ []) = filter is_filled (trimmed t ∷ [])
lines_in (t ∷ u ∷ ts) = trimmed t ∷ lines_in (u ∷ ts)

-- the lines of a text, between whose newlines they stand
abbrev pub lines_of : List ℕ → List (List ℕ)
lines_of text = lines_in (split_by (10 ∷ []) text)

-- the value that a content is in a form
unfoldable pub converted : Form → List ℕ → Settled
converted Whole bytes = text_answer bytes
converted Trimmed bytes = text_answer (trimmed bytes)
converted Lines bytes = list_answer (text_list (lines_of bytes))
converted TrimmedLines bytes = list_answer (text_list (lines_of (trimmed bytes)))

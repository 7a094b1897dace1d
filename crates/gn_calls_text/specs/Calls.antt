-- The calls on texts and lists: what each answers to its values. Of the faults of a call, types come first, from left to
-- right, then values that the call doesn't take, then the limits.
use Rattle.std.specs.Prelude.{ℕ, ℤ, pos, negsuc, zero, suc, Bool, List, [], ◌∷◌, length, map, filter}
use Rattle.gn_values.specs.Val.{Val, vstr, vlist, vals_of}
use Rattle.gn_calls_text.specs.Answers.{Settled, gives, bad_arguments, text_answer, list_answer, text_in, integer_in, list_in, texts_in, typed}
use Rattle.gn_calls_text.specs.Patterns.{matches_some, matches_none}
use Rattle.gn_calls_text.specs.Pieces.{split_by, joined, replaced, words, parted}
use Rattle.gn_calls_text.specs.declared.call.TextCall.{TextCall}
use Rattle.gn_calls_text.specs.declared.call.TextCall.TheVariants.{FilterInclude, FilterExclude, SplitList, StringJoin, StringReplace, StringSplit}

-- these strings and these lists as a list of values
abbrev pub text_list : List (List ℕ) → List Val
text_list texts = map vstr texts

abbrev pub list_list : List (List Val) → List Val
list_list lists = map (λ vs. vlist (vals_of vs)) lists

-- `filter_include(list, patterns)` and `filter_exclude(list, patterns)`: the strings that are kept beside the patterns
abbrev pub filter_answer : (List (List ℕ) → List ℕ → Bool) → List Val → Settled
filter_answer keeps (strings ∷ patterns ∷ []) =
    typed 0 (texts_in strings) (λ ts. typed 1 (texts_in patterns) (λ ps. gives (vlist (vals_of (text_list (filter (keeps ps) ts))))))
filter_answer keeps _ = bad_arguments

-- a list in `count` lists
abbrev pub parts_answer : List Val → ℤ → Settled
parts_answer vs (pos zero) = bad_arguments
parts_answer vs (pos (suc n)) = list_answer (list_list (parted (suc n) vs))
parts_answer vs (negsuc n) = bad_arguments

-- `split_list(list, count)`
abbrev pub split_list_answer : List Val → Settled
split_list_answer (items ∷ count ∷ []) = typed 0 (list_in items) (λ vs. typed 1 (integer_in count) (λ n. parts_answer vs n))
split_list_answer _ = bad_arguments

-- `string_join(separator, strings)`
abbrev pub join_answer : List Val → Settled
join_answer (separator ∷ strings ∷ []) = typed 0 (text_in separator) (λ s. typed 1 (texts_in strings) (λ ts. text_answer (joined s ts)))
join_answer _ = bad_arguments

-- a text with `new` in place of `old`, which isn't empty, at `max` places at most
abbrev pub replaced_answer : List ℕ → List ℕ → List ℕ → ℤ → Settled
replaced_answer text [] new max = bad_arguments
replaced_answer text (b ∷ old) new (negsuc n) = bad_arguments
replaced_answer text (b ∷ old) new (pos n) = text_answer (replaced n (b ∷ old) new text)

-- `string_replace(text, old, new [, max])`: without `max` at all places, which are no more than the text has bytes
abbrev pub replace_answer : List Val → Settled
replace_answer (text ∷ old ∷ new ∷ []) =
    typed 0 (text_in text) (λ t. typed 1 (text_in old) (λ o. typed 2 (text_in new) (λ n. replaced_answer t o n (pos (length t)))))
replace_answer (text ∷ old ∷ new ∷ max ∷ []) =
    typed 0 (text_in text) (λ t. typed 1 (text_in old) (λ o. typed 2 (text_in new) (λ n. typed 3 (integer_in max) (λ m. replaced_answer t o n m))))
replace_answer _ = bad_arguments

-- the pieces of a text between separators, which aren't empty
abbrev pub split_answer : List ℕ → List ℕ → Settled
split_answer text [] = bad_arguments
split_answer text (b ∷ separator) = list_answer (text_list (split_by (b ∷ separator) text))

-- `string_split(text [, separator])`: without a separator the runs of bytes that aren't white space
abbrev pub string_split_answer : List Val → Settled
string_split_answer (text ∷ []) = typed 0 (text_in text) (λ t. list_answer (text_list (words t)))
string_split_answer (text ∷ separator ∷ []) = typed 0 (text_in text) (λ t. typed 1 (text_in separator) (λ s. split_answer t s))
string_split_answer _ = bad_arguments

-- what the call of this name answers to these values
unfoldable pub text_call : TextCall → List Val → Settled
text_call FilterInclude vs = filter_answer matches_some vs
text_call FilterExclude vs = filter_answer matches_none vs
text_call SplitList vs = split_list_answer vs
text_call StringJoin vs = join_answer vs
text_call StringReplace vs = replace_answer vs
text_call StringSplit vs = string_split_answer vs

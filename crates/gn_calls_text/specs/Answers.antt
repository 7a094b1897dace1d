-- What a call on values answers, and what it asks of its arguments.
use Rattle.std.specs.Prelude.{ℕ, ℤ, List, [], ◌∷◌, Option, Some, None, if◌then◌else◌, option_map}
use Rattle.gn_values.specs.Val.{Val, vint, vstr, vlist, vals_of, list_of}
use Rattle.gn_values.specs.Limits.{text_fits, list_fits}
use Rattle.gn_faults.specs.declared.code.Code.{Code}
use Rattle.gn_faults.specs.declared.code.Code.TheVariants.{BadTypes, TooLong, BadArguments}

-- a value, or a refusal with its code, at the argument of this number, counted from 0, or at the name of the call
pub data Settled : Type 0 where
  gives : Val → Settled
  refuses : Code → Option ℕ → Settled

-- an argument of another type than the call takes
abbrev pub wrong_type : ℕ → Settled
wrong_type argument = refuses BadTypes (Some argument)

-- another number of arguments than the call takes, or a value that it doesn't take
abbrev pub bad_arguments : Settled
bad_arguments = refuses BadArguments None

-- a value above the limits
abbrev pub too_long : Settled
too_long = refuses TooLong None

-- a text and a list as answers, where they are within the limits
abbrev pub text_answer : List ℕ → Settled
text_answer text = if text_fits text then gives (vstr text) else too_long

abbrev pub list_answer : List Val → Settled
list_answer vs = if list_fits vs then gives (vlist (vals_of vs)) else too_long

-- what a value has of a type, if it is of that type
abbrev pub text_in : Val → Option (List ℕ)
text_in (vstr t) = Some t
text_in _ = None

abbrev pub integer_in : Val → Option ℤ
integer_in (vint n) = Some n
integer_in _ = None

abbrev pub list_in : Val → Option (List Val)
list_in (vlist vs) = Some (list_of vs)
list_in _ = None

-- the strings of these values, if each of them is one
abbrev pub texts_among : List Val → Option (List (List ℕ))
texts_among [] = Some []
texts_among (vstr t ∷ vs) = option_map (λ ts. t ∷ ts) (texts_among vs)
texts_among (_ ∷ vs) = None

-- the strings of a list, if it is one of strings alone
unfoldable pub texts_in : Val → Option (List (List ℕ))
texts_in (vlist vs) = texts_among (list_of vs)
texts_in _ = None

-- the answer where the argument of this number is of the type that the call takes
abbrev pub typed : {A : Type 0} → ℕ → Option A → (A → Settled) → Settled
typed argument (Some a) answer = answer a
typed argument None answer = wrong_type argument

-- What the code's results stand for.
use Rattle.std.specs.Prelude.{◌≡◌, ℕ, Bool, true, false, List, [], None, Result, Ok, Err}
use Rattle.gn_faults.specs.declared.code.Code.TheVariants.{TooLong}
use Rattle.gn_values.specs.Val.{Val}
use Rattle.gn_values.specs.declared.value.Value.{Value}
use Rattle.gn_values.specs.declared.value.Value.TheVariants.{Str}
use Rattle.gn_calls_text.specs.Answers.{Settled, gives, refuses}
use Rattle.gn_calls_text.specs.declared.error.CallError.{CallError}
use Rattle.gn_calls_text.specs.declared.error.CallError.TheVariants.{Refused, Memory}

-- a result that is what the call answers, or want of memory
abbrev pub Settles : {T : Type 0} → (T → Val) → Result T CallError → Settled → Type 0
Settles view (Ok x) answer = answer ≡ gives (view x)
Settles view (Err (Refused code argument)) answer = answer ≡ refuses code argument
Settles view (Err Memory) answer = Unit {0}

-- whether a value is a string
abbrev pub is_text : Value → Bool
is_text (Str t) = true
is_text _ = false

-- the bytes of a string; another value has none
abbrev pub bytes_in : Value → List ℕ
bytes_in (Str t) = t
bytes_in _ = []

-- an error that is want of memory, or says that a value is above the limits, which this test of it says too
abbrev pub IsOver : CallError → Bool → Type 0
IsOver Memory fits = Unit {0}
IsOver (Refused code argument) fits = (code ≡ TooLong) × ((argument ≡ None) × (fits ≡ false))

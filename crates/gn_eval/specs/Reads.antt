-- What the evaluation of an expression that was read from a file comes to as its call has it.
use Rattle.std.specs.Prelude.{◌≡◌, Option, Some, Result, Ok, Err}
use Rattle.gn_values.specs.declared.value.Value.{Value}
use Rattle.gn_faults.specs.declared.fault.Fault.{Fault}
use Rattle.gn_eval.specs.declared.ending.EvalEnd.{EvalEnd}
use Rattle.gn_eval.specs.declared.ending.EvalEnd.TheVariants.{Wrong, Spoiled, Stopped, Memory}

-- this fault, or want of memory
abbrev pub IsFaultEnd : Fault → Result (Option Value) EvalEnd → Type 0
IsFaultEnd fault (Ok value) = ⊥
IsFaultEnd fault (Err (Wrong other)) = other ≡ fault
IsFaultEnd fault (Err (Spoiled path place)) = ⊥
IsFaultEnd fault (Err Stopped) = ⊥
IsFaultEnd fault (Err Memory) = Unit {0}

-- the value of the expression, or this fault in place of one of it; any other end is its own
abbrev pub IsReadEnd : Fault → Result Value EvalEnd → Result (Option Value) EvalEnd → Type 0
IsReadEnd fault (Ok value) result = result ≡ Ok (Some value)
IsReadEnd fault (Err (Wrong other)) result = IsFaultEnd fault result
IsReadEnd fault (Err (Spoiled path place)) result = result ≡ Err (Spoiled path place)
IsReadEnd fault (Err Stopped) result = result ≡ Err Stopped
IsReadEnd fault (Err Memory) result = result ≡ Err Memory

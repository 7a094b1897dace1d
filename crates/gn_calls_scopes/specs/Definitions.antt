-- What a definer answers.
use Rattle.gn_faults.specs.declared.fault.Fault.{Fault}
use Rattle.gn_calls_scopes.specs.declared.definer.DefineError.{DefineError}
use Rattle.gn_calls_scopes.specs.declared.definer.DefineError.TheVariants.{Wrong, Memory}

-- a fact of the fault, where it isn't want of memory
abbrev pub IfWrong : DefineError → (Fault → Type 0) → Type 0
IfWrong (Wrong fault) P = P fault
IfWrong Memory P = Unit {0}

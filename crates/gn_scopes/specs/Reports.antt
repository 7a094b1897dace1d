-- Which refusal each error of scopes stands for, and what the end of a scope reports: want of memory stands for no refusal.
use Rattle.std.specs.Prelude.{◌≡◌, ℕ, List, Option, Some, None}
use Rattle.gn_tree.specs.declared.position.Position.{Position}
use Rattle.gn_environment.specs.Assigning.{Refusal, replaces_nonempty, has_no_value, operator_refuses}
use Rattle.gn_layers.specs.Named.{key}
use Rattle.gn_scopes.specs.declared.error.ScopeError.{ScopeError}
use Rattle.gn_scopes.specs.declared.error.ScopeError.TheVariants.{NoEffect, Overwrite, Undefined, Value, Memory}

abbrev pub scope_refusal_of : ScopeError → Option Refusal
scope_refusal_of Overwrite = Some replaces_nonempty
scope_refusal_of Undefined = Some has_no_value
scope_refusal_of (Value e) = Some (operator_refuses e)
scope_refusal_of (NoEffect name position) = None
scope_refusal_of Memory = None

-- the error reports what the end of a scope finds
abbrev pub IsReport : ScopeError → Option (List ℕ × Position) → Type 0
IsReport (NoEffect name position) found = found ≡ Some (key name, position)
IsReport _ found = ⊥

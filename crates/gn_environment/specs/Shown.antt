-- Names among which a fault shows one.
use Rattle.std.specs.Prelude.{◌≡◌, ◌⊎◌, ℕ, Bool, true, List, [], ◌∷◌, Some}
use Rattle.std.specs.Cmp.Lexicographic.{slice_cmp}
use Rattle.std.specs.Ordering.{nat_cmp}
use Rattle.std.specs.List.Sorted.{IsStrictlySortedBy}
use Rattle.std.specs.Map.{keys_of}
use Rattle.gn_tree.specs.declared.position.Position.{Position}
use Rattle.gn_values.specs.Tables.{Table}
use Rattle.gn_definitions.specs.Imported.{ScopeState, ImportState}
use Rattle.gn_environment.specs.Layers.{VariableState}
use Rattle.gn_environment.specs.Environment.{Environment}
use Rattle.gn_environment.specs.Unread.{unread_at}
use Rattle.gn_environment.specs.Imports.{invoker_brought, other_value, other_template, other_defaults, knowing}

-- the names of a table stand in the order of their bytes, and none stands twice
abbrev pub IsInOrder : {A : Type 0} → Table A → Type 0
IsInOrder table = IsStrictlySortedBy (slice_cmp nat_cmp) (keys_of table)

-- the same of all tables of a scope
pub record ScopeIsInOrder (scope : ScopeState) : Type 0 where
  pub variables : IsInOrder scope.variables
  pub templates : IsInOrder scope.templates
  pub defaults : IsInOrder scope.defaults

-- one of the variables has the name, nothing has read it, and there its last assignment stands
abbrev pub IsUnreadAmong : Table VariableState → List ℕ × Position → Type 0
IsUnreadAmong [] unread = ⊥
IsUnreadAmong (v ∷ vs) unread = (unread_at v.0 v.1.unread ≡ Some unread) ⊎ IsUnreadAmong vs unread

-- one of the entries has the name, and differs
abbrev pub DiffersAmong : {A : Type 0} → (List ℕ × A → Bool) → Table A → List ℕ → Type 0
DiffersAmong differs [] name = ⊥
DiffersAmong differs (e ∷ es) name = ((e.0 ≡ name) × (differs e ≡ true)) ⊎ DiffersAmong differs es name

-- at the name the import brings another value, another template or other defaults than the innermost scope has, or a value where the invoker stands
abbrev pub ConflictsAt : ImportState → Environment → List ℕ → Type 0
ConflictsAt value env name =
    DiffersAmong (invoker_brought (knowing value env)) value.scope.variables name
    ⊎ (DiffersAmong (other_value env.chain.inner) value.scope.variables name
    ⊎ (DiffersAmong (other_template (knowing value env) env.chain.inner) value.scope.templates name
    ⊎ DiffersAmong (other_defaults env.chain.inner) value.scope.defaults name))

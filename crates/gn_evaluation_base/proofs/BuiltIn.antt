-- Names that are put behind others, and the scope in which the built-in variables stand.
use Rattle.std.proofs.Common.{◌≡◌, ℕ, List, [], ◌∷◌, ◌++◌, Option, Some, None, map, refl, sym, ap, subst, ◌∙◌}
use Rattle.gn_values.specs.Val.{Val}
use Rattle.gn_values.specs.Tables.{Table}
use Rattle.gn_values.specs.View.{entry_of}
use Rattle.gn_values.specs.declared.value.Entry.{Entry}
use Rattle.gn_environment.specs.declared.context.Context.{Context}
use Rattle.gn_executions.specs.declared.host.HostNames.{HostNames}
use Rattle.gn_executions.specs.BuiltIn.{built_in_variables, built_in_scope}
use Rattle.gn_executions.specs.Base.{built_in_beneath}
use Rattle.gn_evaluation_base.specs.declared.built_in.BuiltIn.{BuiltIn}
use Rattle.gn_evaluation_base.specs.BuiltIn.{built_in_under, scope_in, host_of, IsUnder}

put_behind : (old : List Entry) (e : Entry) (later : Table Val) → map entry_of (old ++ e ∷ []) ++ later ≡ map entry_of old ++ entry_of e ∷ later
put_behind [] e later = refl
put_behind (o ∷ old) e later = ap (λ l. entry_of o ∷ l) (put_behind old e later)

-- an entry is put behind others
pub pushed : (old new : List Entry) (e : Entry) (a : List ℕ × Val) → new ≡ old ++ e ∷ [] → entry_of e ≡ a → (later : Table Val) → map entry_of new ++ later ≡ map entry_of old ++ a ∷ later
pushed old new e a is same later =
    ap (λ (l : List Entry). map entry_of l ++ later) is ∙ put_behind old e later ∙ ap (λ (x : List ℕ × Val). map entry_of old ++ x ∷ later) same

-- what is known of a toolchain, with the values of a directory, is all thirteen
pub scope_is_built_in : (host : HostNames) (context : Context) (directory : List ℕ) → scope_in (built_in_under host context) directory ≡ built_in_scope host context directory
unfolding built_in_variables
scope_is_built_in host context directory = refl

-- where they stand beneath a file, they are those of its toolchain and of its directory
pub scope_beneath : (built_in : Option BuiltIn) (b : BuiltIn) (context : Context) (directory : List ℕ) → built_in ≡ Some b → IsUnder context built_in
    → scope_in b directory ∷ [] ≡ built_in_beneath (host_of built_in) context directory
scope_beneath built_in b context directory is under =
    ap (λ (x : BuiltIn). scope_in x directory ∷ []) (subst (IsUnder context) is under) ∙ ap (λ s. s ∷ []) (scope_is_built_in b.host context directory)
    ∙ ap (λ (o : Option BuiltIn). built_in_beneath (host_of o) context directory) (sym is)

-- else nothing does
pub nothing_beneath : (built_in : Option BuiltIn) (context : Context) (directory : List ℕ) → built_in ≡ None → [] ≡ built_in_beneath (host_of built_in) context directory
nothing_beneath built_in context directory is = ap (λ (o : Option BuiltIn). built_in_beneath (host_of o) context directory) (sym is)

-- Tables laid over one another, name by name.
use Rattle.std.proofs.Common.{◌≡◌, [], ◌∷◌, ◌++◌, append_assoc, sym, ap, ◌∙◌, subst}
use Rattle.std.proofs.lemmas.List.{append-nil}
use Rattle.std.specs.Cmp.Lexicographic.{nat_list_cmp_total}
use Rattle.std.specs.Map.{keys_of}
use Rattle.std.specs.List.Sorted.{IsStrictlySortedBy}
use Rattle.gn_basics.proofs.Tables.{insert_last}
use Rattle.gn_values.specs.Tables.{Table, with_names}
use Rattle.gn_definitions.specs.Imported.{ScopeState}
use Rattle.gn_values.specs.Val.{Val, IsSortedByName}
use Rattle.gn_definitions.specs.declared.kept.DefinitionName.{DefinitionName}
use Rattle.gn_environment.proofs.Names.{order}

-- a table in order over one whose names stand before its own stands behind it
laid_behind : {A : Type 0} (es front : Table A) → IsStrictlySortedBy order (keys_of (front ++ es)) → with_names es front ≡ front ++ es
laid_behind [] front s = sym (append-nil front)
laid_behind {A} (e ∷ es) front s =
    ap (with_names es) (insert_last nat_list_cmp_total front es e s)
    ∙ laid_behind es (front ++ e ∷ []) (subst (λ (t : Table A). IsStrictlySortedBy order (keys_of t)) (sym (append_assoc front (e ∷ []) es)) s)
    ∙ append_assoc front (e ∷ []) es

pub laid_over_nothing : {A : Type 0} (es : Table A) → IsStrictlySortedBy order (keys_of es) → with_names es [] ≡ es
laid_over_nothing es s = laid_behind es [] s

-- copies of what a scope has
pub scope_copied : (scope : ScopeState) (vs : Table Val) (ts : Table DefinitionName) (ds : Table (Table Val)) → IsSortedByName scope.variables → IsStrictlySortedBy order (keys_of scope.templates) → IsStrictlySortedBy order (keys_of scope.defaults) → vs ≡ with_names scope.variables [] → ts ≡ with_names scope.templates [] → ds ≡ with_names scope.defaults [] → record { variables = vs; templates = ts; defaults = ds } ≡ scope
scope_copied scope vs ts ds sv st sd v t d =
    let values : vs ≡ scope.variables = v ∙ laid_over_nothing scope.variables sv in
    let templates : ts ≡ scope.templates = t ∙ laid_over_nothing scope.templates st in
    let defaults : ds ≡ scope.defaults = d ∙ laid_over_nothing scope.defaults sd in
    (λ i. record { variables = values i; templates = templates i; defaults = defaults i })

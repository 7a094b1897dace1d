use Rattle.std.proofs.Common.{ℕ, List, sym, subst}
use Rattle.std.specs.List.Sorted.{IsStrictlySortedBy}
use Rattle.gn_definitions.specs.Imported.{ScopeState}
use Rattle.gn_values.specs.Val.{IsSortedByName}
use Rattle.gn_environment.proofs.Names.{order}
use Rattle.gn_layers.specs.View.{value_pairs}
use Rattle.gn_layers.proofs.Gathered.{names_seen}
use Rattle.gn_layers.proofs.laid.Laid.len.Goals as goal

pub returns-clause-ordered : goal.returns-clause-ordered
returns-clause-ordered c =
    let es = c.self.inside.variables.entries in
    let sorted : IsSortedByName (value_pairs es) = subst (λ (ns : List (List ℕ)). IsStrictlySortedBy order ns) (sym (names_seen es)) c.len.ensures.ordered in
    subst (λ (s : ScopeState). IsSortedByName s.variables) c.self.view_is sorted

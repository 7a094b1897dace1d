use Rattle.std.proofs.Common.{◌≡◌, ℕ, List, ◌∷◌, ◌++◌, refl, sym, ap, ◌∙◌, subst}
use Rattle.std.specs.List.Sorted.{IsStrictlySortedBy}
use Rattle.gn_values.specs.Val.{IsSortedByName}
use Rattle.gn_environment.proofs.Names.{order}
use Rattle.gn_layers.specs.View.{value_pairs}
use Rattle.gn_layers.proofs.Gathered.{names_seen, stays_sorted, moved_on}
use Rattle.gn_layers.proofs.laid.bindings_of.Goals as goal

pub loop-name-init : goal.loop-name-init
loop-name-init c =
    let given = c.into_iter-name-iterator.ensures.into_iter_gives in
    let es = c.args.values.entries in
    let sorted : IsSortedByName (value_pairs es) = subst (λ (ns : List (List ℕ)). IsStrictlySortedBy order ns) (sym (names_seen es)) given.5 in
    (rw (c.new-bindings.ensures, given.0) refl, sorted)

pub push_last-requires : goal.push_last-requires
push_last-requires c =
    let i = c.loop-name.invariant in
    let so_far : c.loop-name.bindings ++ value_pairs ((c.in-Some.name, c.in-Some.value) ∷ c.next.new.self) ≡ value_pairs c.args.values.entries = ap (λ es. c.loop-name.bindings ++ value_pairs es) (sym c.in-Some.ensures.steps) ∙ i.0 in
    stays_sorted _ _ (c.in-Some.name, c.in-Some.value) c.next.new.self so_far i.1

pub loop-name-preserved : goal.loop-name-preserved
loop-name-preserved c =
    let i = c.loop-name.invariant in
    let so_far : c.loop-name.bindings ++ value_pairs ((c.in-Some.name, c.in-Some.value) ∷ c.next.new.self) ≡ value_pairs c.args.values.entries = ap (λ es. c.loop-name.bindings ++ value_pairs es) (sym c.in-Some.ensures.steps) ∙ i.0 in
    (moved_on _ _ (c.in-Some.name, c.in-Some.value) c.next.new.self so_far _ c.in_ok-push_last.ensures.ok, i.1)

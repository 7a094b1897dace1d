use Rattle.std.proofs.Common.{List, sym, ap, subst, ◌∙◌, arith}
use Rattle.std.specs.Prelude.{slice_set}
use Rattle.gn_environment.specs.Layers.{LayerState}
use Rattle.gn_environment.specs.Chains.{IsFirstAt}
use Rattle.gn_environment.proofs.Outwards.{below_length, marked_at_first, marked_nowhere, stays_first}
use Rattle.gn_scopes.proofs.scopes.mark_first.Goals as goal

pub index_mut-requires : goal.index_mut-requires
index_mut-requires c =
    let layers = c.args.layers.now in
    omega (arith, layers.ok.0, below_length c.args.name.now layers.items c.in-Some.i c.in-Some.ensures.some)

pub returns-clause-marked : goal.returns-clause-marked
returns-clause-marked c =
    let layers = c.args.layers.now in
    ap (slice_set layers.items c.in-Some.i) c.mark.ensures.read ∙ marked_at_first c.args.name.now layers.items c.in-Some.i c.index_mut.result.now c.in-Some.ensures.some c.index_mut.ensures.value

pub returns-in_default-clause-marked : goal.returns-in_default-clause-marked
returns-in_default-clause-marked c = marked_nowhere c.args.name.now c.args.layers.now.items c.in_default.ensures.none

pub returns-clause-some : goal.returns-clause-some
returns-clause-some c =
    subst (λ (ls : List LayerState). IsFirstAt c.args.name.now ls c.in-Some.i) (sym (returns-clause-marked c)) (stays_first c.args.name.now c.args.layers.now.items c.in-Some.i c.in-Some.ensures.some)

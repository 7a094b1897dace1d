use Rattle.std.proofs.Common.{ℕ, List, sym, subst}
use Rattle.gn_outside.specs.Lists.{AllDiffer}
use Rattle.gn_executions.specs.Base.{BaseState}
use Rattle.gn_load.specs.Turns.{known_paths}
use Rattle.gn_bases.specs.Setups.{given_base}
use Rattle.gn_load.specs.Plain.{IsLoad}
use Rattle.gn_load.proofs.KnownLemmas.{sorted_differ}
use Rattle.gn_load.proofs.EndLemmas.{nothing_loaded, load_lost}
use Rattle.gn_load.proofs.SetupLemmas.{same_paths, same_agrees}
use Rattle.gn_load.proofs.ahead.load_setup.Goals as goal

pub returns-in_err-known : goal.returns-in_err-known
returns-in_err-known g c =
    let laws = c.only_what_is_asked_is_loaded.ensures in
    let known = known_paths c.args.setup.now.known.entries in
    load_lost _ (given_base c.args.setup.now) known (g.S.Source.state c.args.source.now) (g.S.Source.state c.args.source.now) c.args.units.now c.from_residual.result c.from_residual.ensures.1
    (nothing_loaded laws.reads laws.begun laws.counted (given_base c.args.setup.now) known (sorted_differ known c.in_err-known.ensures.ordered) (g.S.Source.state c.args.source.now) c.args.units.now c.requires.units)

pub returns-in_err-base : goal.returns-in_err-base
returns-in_err-base g c =
    let laws = c.only_what_is_asked_is_loaded.ensures in
    let known = known_paths c.args.setup.now.known.entries in
    load_lost _ (given_base c.args.setup.now) known (g.S.Source.state c.args.source.now) (g.S.Source.state c.args.source.now) c.args.units.now c.from_residual-in_err-base.result c.from_residual-in_err-base.ensures.1
    (nothing_loaded laws.reads laws.begun laws.counted (given_base c.args.setup.now) known (sorted_differ known c.in_ok-known.ensures.ordered) (g.S.Source.state c.args.source.now) c.args.units.now c.requires.units)

pub load-requires-clause-known : goal.load-requires-clause-known
load-requires-clause-known g c = λ l lives tree told. same_agrees c.in_ok-known.known.entries c.args.setup.now.known.entries tree c.in_ok-known.ensures.same (c.requires.known tree told)

pub load-requires-clause-differ : goal.load-requires-clause-differ
load-requires-clause-differ g c = λ l lives.
    subst (λ (ps : List (List ℕ)). AllDiffer ps) (sym (same_paths c.in_ok-known.known.entries c.args.setup.now.known.entries c.in_ok-known.ensures.same)) (sorted_differ (known_paths c.args.setup.now.known.entries) c.in_ok-known.ensures.ordered)

pub returns : goal.returns
returns g c =
    subst (λ (b : BaseState). IsLoad b (known_paths c.args.setup.now.known.entries) (g.S.Source.state c.args.source.now) (g.S.Source.state c.load.new.source) c.load.new.units c.load.result) c.in_ok-base.ensures
    (subst (λ (ps : List (List ℕ)). IsLoad c.in_ok-base.base ps (g.S.Source.state c.args.source.now) (g.S.Source.state c.load.new.source) c.load.new.units c.load.result) (same_paths c.in_ok-known.known.entries c.args.setup.now.known.entries c.in_ok-known.ensures.same) c.load.ensures)

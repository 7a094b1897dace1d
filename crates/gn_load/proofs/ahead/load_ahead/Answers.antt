use Rattle.std.proofs.Common.{sym, subst}
use Rattle.gn_load.specs.declared.plain.LoadEnd.{LoadEnd}
use Rattle.gn_load.specs.Turns.{known_paths}
use Rattle.gn_bases.specs.Setups.{given_base}
use Rattle.gn_load.specs.Plain.{IsLoadedAs}
use Rattle.gn_load.proofs.EndLemmas.{load_ends}
use Rattle.gn_load.proofs.ahead.load_ahead.Goals as goal

pub returns : goal.returns
returns g c =
    let base = given_base c.args.setup.now in
    let known = known_paths c.args.setup.now.known.entries in
    let done = subst (λ (e : LoadEnd). IsLoadedAs base known (g.S.Source.state c.args.source.now) (g.S.Source.state c.load_setup-loaded.new.source) c.load_setup-loaded.new.units e) (sym c.end_or_memory-end.ensures)
    (load_ends base known (g.S.Source.state c.args.source.now) (g.S.Source.state c.load_setup-loaded.new.source) c.load_setup-loaded.new.units c.load_setup-loaded.result c.load_setup-loaded.ensures) in
    record { end = done.end; reads = done.reads; faults = done.faults }

use Rattle.std.proofs.Common.{◌∷◌, [], refl, sym, ◌∙◌}
use Rattle.gn_load.specs.Turns.{known_paths}
use Rattle.gn_top.proofs.KnownPaths.{known_there, not_there, knows_still}
use Rattle.gn_top.proofs.PartReads.{among_nothing, no_path, new_done}
use Rattle.gn_top.proofs.first.read_once.Goals as goal

pub returns-then-is_known-clause-known : goal.returns-then-is_known-clause-known
returns-then-is_known-clause-known g c =
    knows_still (known_paths c.args.read.now.entries) c.args.path.now (known_there c.args.read.now.entries c.args.path.now (sym c.is_known.ensures ∙ c.if-is_known.true))

pub returns-then-is_known-clause-reads : goal.returns-then-is_known-clause-reads
returns-then-is_known-clause-reads g c =
    new_done _ (c.args.path.now ∷ []) (known_paths c.args.read.now.entries) _ _ tt refl (among_nothing (c.args.path.now ∷ []) (known_paths c.args.read.now.entries) (g.S.Source.state c.args.source.now))

pub returns-in_err-new-clause-reads : goal.returns-in_err-new-clause-reads
returns-in_err-new-clause-reads g c =
    new_done _ (c.args.path.now ∷ []) (known_paths c.args.read.now.entries) _ _ (no_path _ c.from_residual.ensures.1) refl (among_nothing (c.args.path.now ∷ []) (known_paths c.args.read.now.entries) (g.S.Source.state c.args.source.now))

pub read_new-requires : goal.read_new-requires
read_new-requires g c = rw c.in_ok-new.ensures (not_there c.args.read.now.entries c.args.path.now (sym c.is_known.ensures ∙ c.if-is_known.false))

pub returns-clause-known : goal.returns-clause-known
returns-clause-known g c = rw (← c.in_ok-new.ensures) c.read_new.ensures.known

pub returns-clause-reads : goal.returns-clause-reads
returns-clause-reads g c = rw (← c.in_ok-new.ensures) c.read_new.ensures.reads

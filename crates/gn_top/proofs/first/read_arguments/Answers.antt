use Rattle.std.proofs.Common.{inr, inl, ◌∷◌, [], refl}
use Rattle.gn_answers.specs.Answers.{content_view}
use Rattle.gn_load.specs.Turns.{known_paths}
use Rattle.gn_top.specs.Building.{outer_view}
use Rattle.gn_top.specs.Stages.{arguments_path}
use Rattle.gn_top.proofs.FirstLemmas.{kept_in}
use Rattle.gn_top.proofs.PartReads.{among_nothing, no_path, new_done, new_ok, new_lost, new_stops}
use Rattle.gn_top.proofs.first.read_arguments.Goals as goal

pub content_at-content-requires : goal.content_at-content-requires
content_at-content-requires g c = (c.in_ok-read_once.ensures.known c.in_ok-path.path).1 (inr (inl refl))

pub returns-in_err-path-clause-reads : goal.returns-in_err-path-clause-reads
returns-in_err-path-clause-reads g c =
    let paths = arguments_path c.args.directory.now ∷ [] in
    new_done _ paths (known_paths c.args.read.now.entries) _ _ (no_path _ c.from_residual.ensures.1) refl (among_nothing paths (known_paths c.args.read.now.entries) (g.S.Source.state c.args.source.now))

pub returns-in_err-read_once-clause-reads : goal.returns-in_err-read_once-clause-reads
returns-in_err-read_once-clause-reads g c =
    rw (← c.in_ok-path.ensures)
    (new_stops _ _ (c.in_ok-path.path ∷ []) (known_paths c.args.read.now.entries) (g.S.Source.state c.args.source.now) (g.S.Source.state c.read_once.new.source) c.from_residual-in_err-read_once.ensures.1 c.in_err-read_once.ensures.reads)

pub returns-in_err-kept_arguments-clause-reads : goal.returns-in_err-kept_arguments-clause-reads
returns-in_err-kept_arguments-clause-reads g c =
    rw (← c.in_ok-path.ensures)
    (new_lost _ _ (c.in_ok-path.path ∷ []) (known_paths c.args.read.now.entries) (g.S.Source.state c.args.source.now) (g.S.Source.state c.read_once.new.source) c.from_residual-in_err-kept_arguments.ensures.1 c.in_ok-read_once.ensures.reads)

pub returns-clause-meaning : goal.returns-clause-meaning
returns-clause-meaning g c = λ tree told agrees.
    kept_in (outer_view c.args.outer.now) c.args.directory.now c.in_ok-path.path tree (content_view c.content_at-content.result.now) _ c.in_ok-path.ensures
    (c.content_at-content.ensures tree (c.in_ok-read_once.ensures.agrees tree told agrees)) c.in_ok-kept_arguments.ensures

pub returns-clause-known : goal.returns-clause-known
returns-clause-known g c = rw (← c.in_ok-path.ensures) c.in_ok-read_once.ensures.known

pub returns-clause-reads : goal.returns-clause-reads
returns-clause-reads g c =
    rw (← c.in_ok-path.ensures)
    (new_ok _ _ (c.in_ok-path.path ∷ []) (known_paths c.args.read.now.entries) (g.S.Source.state c.args.source.now) (g.S.Source.state c.read_once.new.source) c.in_ok-read_once.ensures.reads)

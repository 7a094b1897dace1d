use Rattle.std.proofs.Common.{◌∷◌, [], inl, inr, refl, sym, ◌∙◌, subst, Result}
use Rattle.gn_basics.proofs.Results.{if_ok}
use Rattle.gn_faults.specs.declared.fault.Fault.{Fault}
use Rattle.gn_answers.specs.Answers.{content_view}
use Rattle.gn_load.specs.Turns.{known_paths}
use Rattle.gn_dotfile.specs.Names.{dotfile_state}
use Rattle.gn_top.specs.Building.{request_view, outer_view, IsFirst}
use Rattle.gn_top.specs.Stages.{First, first_paths, arguments_paths}
use Rattle.gn_top.proofs.FirstLemmas.{dotfile_is, said_first, failed_first, on_ok, dotfile_first, both_first, knows_first, knows_failed}
use Rattle.gn_top.proofs.PartReads.{first_stops, reads_nothing, reads_of, reads_known, first_behind, counts_behind, fails_all_behind}
use Rattle.gn_top.proofs.first.run_first.Goals as goal

pub content_at-content-requires : goal.content_at-content-requires
content_at-content-requires g c = (c.in_ok-read_once.ensures.known c.in_ok-path.path).1 (inr (inl refl))

pub returns-in_err-path-clause-reads : goal.returns-in_err-path-clause-reads
returns-in_err-path-clause-reads g c = first_stops _ _ (first_paths (outer_view c.args.outer.now) (request_view c.args.request.now)) _ _ _ c.from_residual.ensures.1 (reads_nothing _ _)

pub returns-in_err-read_once-clause-reads : goal.returns-in_err-read_once-clause-reads
returns-in_err-read_once-clause-reads g c =
    let paths = first_paths (outer_view c.args.outer.now) (request_view c.args.request.now) in
    first_stops _ _ paths _ _ _ c.from_residual-in_err-read_once.ensures.1
    (reads_of paths (g.S.Source.state c.args.source.now) (g.S.Source.state c.read_once.new.source) (c.in_ok-path.path ∷ []) (known_paths c.args.read.now.entries) (c.in_err-read_once.ensures.reads).among (λ tree told. dotfile_first (outer_view c.args.outer.now) (request_view c.args.request.now) tree c.in_ok-path.path c.in_ok-path.ensures))

pub returns-in_err-end-clause-reads : goal.returns-in_err-end-clause-reads
returns-in_err-end-clause-reads g c =
    let paths = first_paths (outer_view c.args.outer.now) (request_view c.args.request.now) in
    first_stops _ _ paths _ _ _ c.from_residual-in_err-end.ensures.1
    (reads_of paths (g.S.Source.state c.args.source.now) (g.S.Source.state c.read_once.new.source) (c.in_ok-path.path ∷ []) (known_paths c.args.read.now.entries) (c.in_ok-read_once.ensures.reads).among (λ tree told. dotfile_first (outer_view c.args.outer.now) (request_view c.args.request.now) tree c.in_ok-path.path c.in_ok-path.ensures))

pub returns-in-Said-clause-meaning : goal.returns-in-Said-clause-meaning
returns-in-Said-clause-meaning g c =
    if_ok c.behind_dotfile.result
    (λ end says tree told.
    subst (λ (m : Result First Fault). IsFirst end m) (said_first (outer_view c.args.outer.now) (request_view c.args.request.now) tree (dotfile_state c.in-Said.said, c.in-Said.said.prints) (sym (dotfile_is (outer_view c.args.outer.now) c.args.request.now.directory c.in_ok-path.path tree (content_view c.content_at-content.result.now) c.in_ok-path.ensures (c.content_at-content.ensures tree (c.in_ok-read_once.ensures.agrees tree told (rw c.requires.nothing tt)))) ∙ rw c.in-Said.is at c.in_ok-end.ensures))
    (says tree (((c.in_ok-read_once.ensures.reads).among.1).tree ∙ told) (c.in_ok-read_once.ensures.agrees tree told (rw c.requires.nothing tt))))
    c.behind_dotfile.ensures.meaning

pub returns-in-Said-clause-agrees : goal.returns-in-Said-clause-agrees
returns-in-Said-clause-agrees g c =
    on_ok c.behind_dotfile.result (λ all tree told. all tree (((c.in_ok-read_once.ensures.reads).among.1).tree ∙ told) (c.in_ok-read_once.ensures.agrees tree told (rw c.requires.nothing tt))) c.behind_dotfile.ensures.agrees

pub returns-in-Said-clause-known : goal.returns-in-Said-clause-known
returns-in-Said-clause-known g c =
    on_ok c.behind_dotfile.result
    (λ two tree told. knows_first (outer_view c.args.outer.now) (request_view c.args.request.now) tree c.in_ok-path.path c.in_ok-path.ensures (dotfile_state c.in-Said.said, c.in-Said.said.prints) (sym (dotfile_is (outer_view c.args.outer.now) c.args.request.now.directory c.in_ok-path.path tree (content_view c.content_at-content.result.now) c.in_ok-path.ensures (c.content_at-content.ensures tree (c.in_ok-read_once.ensures.agrees tree told (rw c.requires.nothing tt)))) ∙ rw c.in-Said.is at c.in_ok-end.ensures) _ _ (rw c.requires.nothing at c.in_ok-read_once.ensures.known) two)
    c.behind_dotfile.ensures.known

pub returns-in-Said-clause-reads : goal.returns-in-Said-clause-reads
returns-in-Said-clause-reads g c =
    first_behind (first_paths (outer_view c.args.outer.now) (request_view c.args.request.now)) (c.in_ok-path.path ∷ []) (arguments_paths (request_view c.args.request.now)) _ _ _ _ _ (rw c.requires.nothing at c.in_ok-read_once.ensures.known) (c.in_ok-read_once.ensures.reads).faults
    (rw c.requires.nothing at c.in_ok-read_once.ensures.reads).among (λ tree told. both_first (outer_view c.args.outer.now) (request_view c.args.request.now) tree c.in_ok-path.path c.in_ok-path.ensures (dotfile_state c.in-Said.said, c.in-Said.said.prints) (sym (dotfile_is (outer_view c.args.outer.now) c.args.request.now.directory c.in_ok-path.path tree (content_view c.content_at-content.result.now) c.in_ok-path.ensures (c.content_at-content.ensures tree (c.in_ok-read_once.ensures.agrees tree told (rw c.requires.nothing tt)))) ∙ rw c.in-Said.is at c.in_ok-end.ensures))
    c.behind_dotfile.result c.behind_dotfile.ensures.reads c.behind_dotfile.ensures.known

pub returns-in-Said-clause-faults : goal.returns-in-Said-clause-faults
returns-in-Said-clause-faults g c = counts_behind c.behind_dotfile.result (g.S.Source.state c.args.source.now) (g.S.Source.state c.read_once.new.source) (g.S.Source.state c.behind_dotfile.new.source) (c.in_ok-read_once.ensures.reads).faults (c.behind_dotfile.ensures.reads).faults

pub returns-in-Said-clause-failure : goal.returns-in-Said-clause-failure
returns-in-Said-clause-failure g c =
    fails_all_behind c.behind_dotfile.result (g.S.Source.state c.args.source.now) (g.S.Source.state c.read_once.new.source) (g.S.Source.state c.behind_dotfile.new.source) _ ((c.in_ok-read_once.ensures.reads).among.1) (c.in_ok-read_once.ensures.reads).faults (c.behind_dotfile.ensures.reads).failure

pub returns-clause-meaning : goal.returns-clause-meaning
returns-clause-meaning g c = λ tree told. failed_first (outer_view c.args.outer.now) (request_view c.args.request.now) tree c.in-Failed.fault (sym (dotfile_is (outer_view c.args.outer.now) c.args.request.now.directory c.in_ok-path.path tree (content_view c.content_at-content.result.now) c.in_ok-path.ensures (c.content_at-content.ensures tree (c.in_ok-read_once.ensures.agrees tree told (rw c.requires.nothing tt)))) ∙ rw c.in-Failed.is at c.in_ok-end.ensures)

pub returns-clause-agrees : goal.returns-clause-agrees
returns-clause-agrees g c = λ tree told. c.in_ok-read_once.ensures.agrees tree told (rw c.requires.nothing tt)

pub returns-clause-known : goal.returns-clause-known
returns-clause-known g c = λ tree told. knows_failed (outer_view c.args.outer.now) (request_view c.args.request.now) tree c.in_ok-path.path c.in_ok-path.ensures c.in-Failed.fault _ (sym (dotfile_is (outer_view c.args.outer.now) c.args.request.now.directory c.in_ok-path.path tree (content_view c.content_at-content.result.now) c.in_ok-path.ensures (c.content_at-content.ensures tree (c.in_ok-read_once.ensures.agrees tree told (rw c.requires.nothing tt)))) ∙ rw c.in-Failed.is at c.in_ok-end.ensures) (rw c.requires.nothing at c.in_ok-read_once.ensures.known)

pub returns-clause-reads : goal.returns-clause-reads
returns-clause-reads g c =
    reads_known (first_paths (outer_view c.args.outer.now) (request_view c.args.request.now)) _ _ (c.in_ok-path.path ∷ []) _ (c.in_ok-read_once.ensures.reads).among (λ tree told. dotfile_first (outer_view c.args.outer.now) (request_view c.args.request.now) tree c.in_ok-path.path c.in_ok-path.ensures) _ c.in_ok-read_once.ensures.known

use Rattle.std.proofs.Common.{ℕ, List, sym, ◌∙◌, subst}
use Rattle.gn_basics.proofs.Results.{if_ok}
use Rattle.gn_builds.specs.Rest.{ReadsAsked}
use Rattle.gn_bases.specs.Setups.{given_base}
use Rattle.gn_load.specs.Turns.{known_paths}
use Rattle.gn_load.specs.Plain.{Agrees}
use Rattle.gn_answers.specs.declared.answer.FileContent.{FileContent}
use Rattle.gn_top.specs.Building.{request_view, outer_view, first_view}
use Rattle.gn_top.proofs.PartReads.{counts_behind, fails_all_behind}
use Rattle.gn_top.proofs.StageLemmas.{load_started, build_is, failed_build_is, first_reads, known_reads, build_reads}
use Rattle.gn_top.proofs.building.make_build.Goals as goal

pub load_build-requires : goal.load_build-requires
load_build-requires g c = (
  c.type_bounds.sync-R,
  λ tree told. subst (λ (es : List (List ℕ × FileContent)). Agrees es tree) (sym c.in_ok-start-in-Said.ensures.read) (c.in_ok-end.ensures.agrees tree (sym ((c.in_ok-end.ensures.reads).1).tree ∙ told)),
)

pub returns-in_err-end-clause-reads : goal.returns-in_err-end-clause-reads
returns-in_err-end-clause-reads g c = first_reads _ _ _ _ c.in_err-end.ensures.reads

pub returns-in_err-start-in-Said-clause-reads : goal.returns-in_err-start-in-Said-clause-reads
returns-in_err-start-in-Said-clause-reads g c = known_reads _ _ _ _ _ c.in_ok-end.ensures.reads

pub returns-in_ok-start-in-Said-clause-meaning : goal.returns-in_ok-start-in-Said-clause-meaning
returns-in_ok-start-in-Said-clause-meaning g c =
    if_ok c.load_build.result
    (λ end says tree told. build_is (outer_view c.args.outer.now) (request_view c.args.request.now) tree (first_view c.in-Said.first) end (rw c.in-Said.is at (c.in_ok-end.ensures.meaning tree told))
    (load_started (outer_view c.args.outer.now) (request_view c.args.request.now) tree (first_view c.in-Said.first) _ c.in_ok-start-in-Said.start end c.in_ok-start-in-Said.ensures (c.in_ok-end.ensures.known tree told)
    (says tree (outer_view c.args.outer.now) (request_view c.args.request.now) (((c.in_ok-end.ensures.reads).1).tree ∙ told))))
    c.load_build.ensures.meaning

pub returns-in_ok-start-in-Said-clause-reads : goal.returns-in_ok-start-in-Said-clause-reads
returns-in_ok-start-in-Said-clause-reads g c =
    build_reads _ _ _ (first_view c.in-Said.first) _ _ _ _ c.in_ok-start-in-Said.ensures.base (λ tree told. rw c.in-Said.is at (c.in_ok-end.ensures.meaning tree told)) c.in_ok-end.ensures.faults c.in_ok-end.ensures.reads
    (subst (λ (es : List (List ℕ × FileContent)). ReadsAsked (given_base c.in_ok-start-in-Said.start.setup) (known_paths es) (g.S.Source.state c.run_first.new.source) (g.S.Source.state c.load_build.new.source)) c.in_ok-start-in-Said.ensures.read c.load_build.ensures.reads)

pub returns-in_ok-start-in-Said-clause-faults : goal.returns-in_ok-start-in-Said-clause-faults
returns-in_ok-start-in-Said-clause-faults g c = counts_behind c.load_build.result (g.S.Source.state c.args.source.now) (g.S.Source.state c.run_first.new.source) (g.S.Source.state c.load_build.new.source) c.in_ok-end.ensures.faults c.load_build.ensures.faults

pub returns-in_ok-start-in-Said-clause-failure : goal.returns-in_ok-start-in-Said-clause-failure
returns-in_ok-start-in-Said-clause-failure g c = fails_all_behind c.load_build.result (g.S.Source.state c.args.source.now) (g.S.Source.state c.run_first.new.source) (g.S.Source.state c.load_build.new.source) _ (c.in_ok-end.ensures.reads).1 c.in_ok-end.ensures.faults c.load_build.ensures.failure

pub returns-in-Failed-clause-meaning : goal.returns-in-Failed-clause-meaning
returns-in-Failed-clause-meaning g c = λ tree told.
    failed_build_is (outer_view c.args.outer.now) (request_view c.args.request.now) tree c.in-Failed.fault (rw c.in-Failed.is at (c.in_ok-end.ensures.meaning tree told))

pub returns-in-Failed-clause-reads : goal.returns-in-Failed-clause-reads
returns-in-Failed-clause-reads g c = known_reads _ _ _ _ _ c.in_ok-end.ensures.reads

use Rattle.std.proofs.Common.{ℕ, List, option_map, refl, sym, ap, subst}
use Rattle.gn_basics.proofs.Results.{if_ok}
use Rattle.gn_load.specs.Turns.{known_paths}
use Rattle.gn_top.specs.Stages.{arguments_paths}
use Rattle.gn_top.specs.Building.{request_view, outer_view, KnowsAlso}
use Rattle.gn_top.proofs.FirstLemmas.{given_said, kept_said, given_paths, kept_paths}
use Rattle.gn_top.proofs.KnownPaths.{knows_same}
use Rattle.gn_top.proofs.PartReads.{among_nothing, no_path, new_done}
use Rattle.gn_top.proofs.first.arguments_in.Goals as goal

pub given_arguments-requires : goal.given_arguments-requires
given_arguments-requires g c = rw c.in-Some.is at c.requires

pub returns-in_ok-given_arguments-in-Some-clause-meaning : goal.returns-in_ok-given_arguments-in-Some-clause-meaning
returns-in_ok-given_arguments-in-Some-clause-meaning g c = λ tree told agrees.
    given_said (outer_view c.args.outer.now) (request_view c.args.request.now) tree c.in-Some.text.now _ (ap (option_map (λ t. t.now)) c.in-Some.is) c.in_ok-given_arguments-in-Some.ensures

pub returns-in_ok-given_arguments-in-Some-clause-known : goal.returns-in_ok-given_arguments-in-Some-clause-known
returns-in_ok-given_arguments-in-Some-clause-known g c =
    let known = known_paths c.args.read.now.entries in
    subst (λ (paths : List (List ℕ)). KnowsAlso known paths known) (sym (given_paths (request_view c.args.request.now) c.in-Some.text.now (ap (option_map (λ t. t.now)) c.in-Some.is))) (knows_same known)

pub returns-in_ok-given_arguments-in-Some-clause-reads : goal.returns-in_ok-given_arguments-in-Some-clause-reads
returns-in_ok-given_arguments-in-Some-clause-reads g c =
    let paths = arguments_paths (request_view c.args.request.now) in
    new_done _ paths (known_paths c.args.read.now.entries) _ _ tt refl (among_nothing paths (known_paths c.args.read.now.entries) (g.S.Source.state c.args.source.now))

pub returns-in_err-given_arguments-in-Some-clause-reads : goal.returns-in_err-given_arguments-in-Some-clause-reads
returns-in_err-given_arguments-in-Some-clause-reads g c =
    let paths = arguments_paths (request_view c.args.request.now) in
    new_done _ paths (known_paths c.args.read.now.entries) _ _ (no_path _ c.from_residual.ensures.1) refl
    (among_nothing paths (known_paths c.args.read.now.entries) (g.S.Source.state c.args.source.now))

pub returns-in-None-clause-meaning : goal.returns-in-None-clause-meaning
returns-in-None-clause-meaning g c =
    if_ok c.read_arguments.result
    (λ end says tree told agrees. kept_said (outer_view c.args.outer.now) (request_view c.args.request.now) tree end (ap (option_map (λ t. t.now)) c.in-None.is) (says tree told agrees)) c.read_arguments.ensures.meaning

pub returns-in-None-clause-known : goal.returns-in-None-clause-known
returns-in-None-clause-known g c = rw (kept_paths (request_view c.args.request.now) (ap (option_map (λ t. t.now)) c.in-None.is)) c.read_arguments.ensures.known

pub returns-in-None-clause-reads : goal.returns-in-None-clause-reads
returns-in-None-clause-reads g c = rw (kept_paths (request_view c.args.request.now) (ap (option_map (λ t. t.now)) c.in-None.is)) c.read_arguments.ensures.reads

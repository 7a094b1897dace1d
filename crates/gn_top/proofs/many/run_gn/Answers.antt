use Rattle.std.proofs.Common.{◌≤◌, length, arith}
use Rattle.gn_top.proofs.RunLemmas.{cannot_read_more, cut_short_more, joined_more, goes_on_more, map_split, map_set, drop_set}
use Rattle.gn_top.specs.Words.{worker_count}
use Rattle.gn_top.proofs.many.run_gn.Goals as goal

pub returns-clause-meaning : goal.returns-clause-meaning
returns-clause-meaning g c =
    let some : 1 ≤ length c.args.sources.items = omega (arith, c.args.sources.ok.0) in
    rw (map_split g.S.Source.state c.args.sources.items c.index_mut.result.now some c.index_mut.ensures.value)
    (λ tree told ended. c.run_one-one.ensures.meaning tree (told.0, tt) ended)

pub returns-clause-cannot_read : goal.returns-clause-cannot_read
returns-clause-cannot_read g c = λ three.
    let some : 1 ≤ length c.args.sources.items = omega (arith, c.args.sources.ok.0) in
    rw (map_split g.S.Source.state c.args.sources.items c.index_mut.result.now some c.index_mut.ensures.value, map_set g.S.Source.state c.args.sources.items c.run_one-one.new.source some)
    (cannot_read_more _ _ _ _ _ (c.run_one-one.ensures.cannot_read three))

pub returns-clause-cut_short : goal.returns-clause-cut_short
returns-clause-cut_short g c =
    let some : 1 ≤ length c.args.sources.items = omega (arith, c.args.sources.ok.0) in
    rw (map_split g.S.Source.state c.args.sources.items c.index_mut.result.now some c.index_mut.ensures.value, map_set g.S.Source.state c.args.sources.items c.run_one-one.new.source some)
    (λ tree told stopped. cut_short_more _ _ _ _ _ _ (c.run_one-one.ensures.cut_short tree (told.0, tt) stopped))

pub returns-clause-reads_once : goal.returns-clause-reads_once
returns-clause-reads_once g c =
    let some : 1 ≤ length c.args.sources.items = omega (arith, c.args.sources.ok.0) in
    rw (map_split g.S.Source.state c.args.sources.items c.index_mut.result.now some c.index_mut.ensures.value, map_set g.S.Source.state c.args.sources.items c.run_one-one.new.source some)
    (λ told. rw joined_more (c.run_one-one.ensures.reads_once (told.0, tt)))

pub returns-clause-reads_asked : goal.returns-clause-reads_asked
returns-clause-reads_asked g c =
    let some : 1 ≤ length c.args.sources.items = omega (arith, c.args.sources.ok.0) in
    rw (map_split g.S.Source.state c.args.sources.items c.index_mut.result.now some c.index_mut.ensures.value, map_set g.S.Source.state c.args.sources.items c.run_one-one.new.source some)
    (λ tree told tells. rw joined_more (c.run_one-one.ensures.reads_asked tree (told.0, tt) (tells.0, tt)))

pub returns-clause-sources : goal.returns-clause-sources
returns-clause-sources g c =
    let some : 1 ≤ length c.args.sources.items = omega (arith, c.args.sources.ok.0) in
    rw (map_split g.S.Source.state c.args.sources.items c.index_mut.result.now some c.index_mut.ensures.value, map_set g.S.Source.state c.args.sources.items c.run_one-one.new.source some)
    (goes_on_more _ _ _ c.run_one-one.ensures.sources)

pub returns-clause-idle : goal.returns-clause-idle
unfolding worker_count
returns-clause-idle g c = drop_set c.args.sources.items _

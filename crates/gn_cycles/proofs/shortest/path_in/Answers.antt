use Rattle.std.proofs.Common.{arith}
use Rattle.gn_dependencies.proofs.OrderLaws.{within}
use Rattle.gn_cycles.proofs.Searching.{is_shortest, is_searched_apart}
use Rattle.gn_cycles.proofs.shortest.path_in.Goals as goal

pub returns-in-None : goal.returns-in-None
returns-in-None c = λ next from r. is_searched_apart next from c.args.to.now c.args.search.now.labels c.args.search.now.sources.items r c.in-None.ensures.lacking

pub overflow_add-place : goal.overflow_add-place
overflow_add-place c =
    let v = c.args.search.now.sources in
    let l = within c.args.search.now.labels c.in-Some.place c.args.to.now c.in-Some.ensures.found in
    let m = c.requires.matched in
    omega (arith, l, m, v.ok.0, v.ok.1, v.small)

pub way_to-requires-clause-within : goal.way_to-requires-clause-within
way_to-requires-clause-within c = let l = within c.args.search.now.labels c.in-Some.place c.args.to.now c.in-Some.ensures.found in omega (arith, l)

pub returns-in_ok-way_to-in-Some : goal.returns-in_ok-way_to-in-Some
returns-in_ok-way_to-in-Some c = λ next from r.
    let s = r.1.1.0 in
    is_shortest next from c.args.search.now.labels c.args.search.now.sources.items r.0 r.1.0 c.in-Some.place c.args.to.now
    c.in_ok-way_to-in-Some.field-0.items s c.in-Some.ensures.found (c.in_ok-way_to-in-Some.ensures r.0 s.known)

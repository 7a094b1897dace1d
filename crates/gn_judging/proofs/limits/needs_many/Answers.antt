use Rattle.std.proofs.Common.{subst, arith}
use Rattle.gn_book.specs.Keys.{layer_at}
use Rattle.gn_book.specs.Logs.{state_of}
use Rattle.gn_judging.specs.Limits.{OpensNext}
use Rattle.gn_judging.proofs.LimitLemmas.{first_found, none_counted, many_counted}
use Rattle.gn_judging.proofs.limits.needs_many.Goals as goal

pub loop-at-init : goal.loop-at-init
loop-at-init c = first_found (state_of c.args.book.now).filed (layer_at c.args.when c.args.toolchain.now) c.args.path.now _ c.in_ok-paths.ensures

pub returns-then-not-opened : goal.returns-then-not-opened
returns-then-not-opened c =
    let filed = (state_of c.args.book.now).filed in
    let layer = layer_at c.args.when c.args.toolchain.now in
    let opened = c.in_ok-opened.ensures c.args.path.now c.loop-at.invariant in
    let last = subst (OpensNext filed layer c.args.path.now c.open_next.new.paths.keys c.loop-at.at) c.if-not-opened.true opened in
    none_counted filed layer c.args.path.now c.closed_imports_are_all.ensures.all c.open_next.new.paths.keys c.loop-at.at last (omega (arith, c.loop-at-test.true))

pub returns : goal.returns
returns c =
    many_counted (state_of c.args.book.now).filed (layer_at c.args.when c.args.toolchain.now) c.args.path.now c.closed_imports_are_all.ensures.all c.closed_imports_are_all.ensures.many
    c.loop-at.paths.keys c.loop-at.at c.loop-at.invariant c.len.ensures.unique (omega (arith, c.loop-at-test.false)) c.len.result c.len.ensures.len

use Rattle.std.proofs.Common.{◌<◌, sym, subst, length, arith}
use Rattle.gn_book.specs.Graphs.{UnitsHaveNumbers}
use Rattle.gn_book.specs.Logs.{Log}
use Rattle.gn_load.proofs.FoundLemmas.{each_on, found_on, stops_on, nothing_found}
use Rattle.gn_load.proofs.found.find_from.Goals as goal

pub numbers-init : goal.numbers-init
numbers-init g c = λ known before is. nothing_found known before (g.S.Source.state c.args.source.now) c.args.driver.now c.args.total.now _ c.no_files-found.ensures is

pub find_at-requires-clause-goes : goal.find_at-requires-clause-goes
find_at-requires-clause-goes g c = (c.requires.goes.0, c.requires.goes.1, (c.numbers.invariant c.requires.goes.0 c.requires.goes.1 c.requires.goes.2).goes)

pub find_at-requires-clause-numbers : goal.find_at-requires-clause-numbers
find_at-requires-clause-numbers g c = subst UnitsHaveNumbers (sym (c.numbers.invariant c.requires.goes.0 c.requires.goes.1 c.requires.goes.2).book) c.requires.numbers

pub find_at-requires-clause-number : goal.find_at-requires-clause-number
find_at-requires-clause-number g c =
    subst (λ (l : Log). c.numbers.number < length l.keys) (sym (c.numbers.invariant c.requires.goes.0 c.requires.goes.1 c.requires.goes.2).book) (omega (arith, c.requires.end, c.numbers-test.true))

pub numbers-preserved : goal.numbers-preserved
numbers-preserved g c = λ known before is.
    let has = c.numbers.invariant known before is in
    found_on known before (g.S.Source.state c.numbers.source) c.args.driver.now c.numbers.driver c.numbers.total c.numbers.found has (g.S.Source.state c.find_at.new.source) c.find_at.new.driver c.find_at.new.total c.find_at.new.found
    (c.in_ok-find_at.ensures known before has.goes (each_on known before (g.S.Source.state c.numbers.source) c.args.driver.now c.numbers.driver c.numbers.total c.numbers.found has))

pub returns-in_err-find_at : goal.returns-in_err-find_at
returns-in_err-find_at g c = λ known before is.
    let has = c.numbers.invariant known before is in
    stops_on known before (g.S.Source.state c.numbers.source) c.args.driver.now c.numbers.driver c.numbers.total c.numbers.found has (g.S.Source.state c.find_at.new.source) c.find_at.new.driver c.find_at.new.total c.from_residual.result _ c.from_residual.ensures.1
    (c.in_err-find_at.ensures known before has.goes (each_on known before (g.S.Source.state c.numbers.source) c.args.driver.now c.numbers.driver c.numbers.total c.numbers.found has))

use Rattle.std.proofs.Common.{◌≤◌, length, [], ℕ, sym, ap, subst}
use Rattle.gn_book.specs.Graphs.{UnitsHaveNumbers}
use Rattle.gn_book.specs.Logs.{Log}
use Rattle.gn_load.specs.Rebased.{IsRebased}
use Rattle.gn_load.proofs.RebasedDriver.{rebased}
use Rattle.gn_load.proofs.StageLemmas.{rebased_finds}
use Rattle.gn_load.proofs.round.find_round.Goals as goal

pub count_reads-requires : goal.count_reads-requires
count_reads-requires g c = c.requires.few

pub find_from-requires-clause-goes : goal.find_from-requires-clause-goes
find_from-requires-clause-goes g c =
    let counts = c.count_reads.ensures in
    let now = g.S.Source.state c.args.source.now in (
      c.requires.goes.0,
      c.requires.goes.1,
      subst (λ (n : ℕ). IsRebased c.requires.goes.0 c.requires.goes.1 now c.count_reads.new.driver [] n) (sym counts.total)
          (rebased c.requires.goes.0 c.requires.goes.1 now c.args.driver.now [] c.args.ahead.now.total c.requires.goes.2 c.count_reads.new.driver counts.base counts.book (ap (λ m. m.entries) counts.known) counts.reads c.requires.few),
    )

pub find_from-requires-clause-numbers : goal.find_from-requires-clause-numbers
find_from-requires-clause-numbers g c = subst (λ (l : Log). UnitsHaveNumbers l) (sym c.count_reads.ensures.book) c.requires.numbers

pub find_from-requires-clause-end : goal.find_from-requires-clause-end
find_from-requires-clause-end g c = subst (λ (l : Log). c.round_end-end.result ≤ length l.keys) (sym c.count_reads.ensures.book) (subst (λ (n : ℕ). c.round_end-end.result ≤ n) c.len.ensures c.round_end-end.ensures)

pub returns : goal.returns
returns g c = λ known before goes.
    let counts = c.count_reads.ensures in
    let was = g.S.Source.state c.args.source.now in
    let mid = c.count_reads.new.driver in
    rebased_finds known before (g.S.Source.state c.find_from.new.source) c.args.driver.now mid c.find_from.new.driver c.find_from.new.total counts.base counts.book counts.waiting c.find_from.result
    (c.find_from.ensures known before
    (subst (λ (n : ℕ). IsRebased known before was mid [] n) (sym counts.total) (rebased known before was c.args.driver.now [] c.args.ahead.now.total goes mid counts.base counts.book (ap (λ m. m.entries) counts.known) counts.reads c.requires.few)))

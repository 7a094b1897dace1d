use Rattle.std.proofs.Common.{◌<◌, [], List, length, sym, subst, arith}
use Rattle.gn_outside.specs.Lists.{Each}
use Rattle.gn_book.specs.Logs.{state_of}
use Rattle.gn_load.specs.Rounds.{WillBeRight}
use Rattle.gn_load.specs.declared.ready.Ready.{Ready}
use Rattle.gn_load.proofs.RoundLemmas.{gone_nowhere, goes_on_on, loads_stop, right_on}
use Rattle.gn_load.proofs.round.load_all.Goals as goal

pub files-init : goal.files-init
files-init g c = record {
  on = λ known before goes. gone_nowhere known before (g.S.Source.state c.args.source.now) c.args.driver.now c.args.units.now goes c.requires.counted;
  waiting = c.requires.waiting;
  right = c.requires.right;
}

pub load_ready-requires-clause-goes : goal.load_ready-requires-clause-goes
load_ready-requires-clause-goes g c = (c.requires.goes.0, c.requires.goes.1, (c.files.invariant.on c.requires.goes.0 c.requires.goes.1 c.requires.goes.2).goes)

pub load_ready-requires-clause-waiting : goal.load_ready-requires-clause-waiting
load_ready-requires-clause-waiting g c = c.files.invariant.waiting

pub load_ready-requires-clause-counted : goal.load_ready-requires-clause-counted
load_ready-requires-clause-counted g c = (c.files.invariant.on c.requires.goes.0 c.requires.goes.1 c.requires.goes.2).counted

pub load_ready-requires-clause-right : goal.load_ready-requires-clause-right
load_ready-requires-clause-right g c =
    (subst (λ (rs : List Ready). Each (WillBeRight c.files.driver.base.start (state_of c.files.driver.book).filed) rs) c.in-Some.ensures.items c.files.invariant.right).0

pub returns-in_err-load_ready : goal.returns-in_err-load_ready
returns-in_err-load_ready g c = λ known before goes.
    let on = c.files.invariant.on known before goes in
    loads_stop known before (g.S.Source.state c.load_ready.new.source) c.args.driver.now c.files.driver c.load_ready.new.driver c.load_ready.new.units c.from_residual.result _ on.start c.from_residual.ensures.1
    (c.in_err-load_ready.ensures known before on.goes)

pub files-preserved : goal.files-preserved
files-preserved g c =
    let known = c.requires.goes.0 in
    let before = c.requires.goes.1 in
    let now = g.S.Source.state c.load_ready.new.source in
    let more = c.in_ok-load_ready.ensures known before (c.files.invariant.on known before c.requires.goes.2).goes in
    let each = subst (λ (rs : List Ready). Each (WillBeRight c.files.driver.base.start (state_of c.files.driver.book).filed) rs) c.in-Some.ensures.items c.files.invariant.right in
    record {
      on = λ known before goes.
          let on = c.files.invariant.on known before goes in
          goes_on_on known before (g.S.Source.state c.files.source) now c.args.driver.now c.files.driver c.load_ready.new.driver c.files.units c.load_ready.new.units [] [] on (c.in_ok-load_ready.ensures known before on.goes).0;
      waiting = more.1;
      right = right_on known before now c.files.driver c.load_ready.new.driver c.load_ready.new.units [] more.0 c.pop_front.new.self.items each.1;
    }

pub files-smaller : goal.files-smaller
files-smaller g c = subst (λ (rs : List Ready). length c.pop_front.new.self.items < length rs) (sym c.in-Some.ensures.items) (omega arith)

pub returns : goal.returns
returns g c = λ known before goes. (c.files.invariant.on known before goes, c.files.invariant.waiting)

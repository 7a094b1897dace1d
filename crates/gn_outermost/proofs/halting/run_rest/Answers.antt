use Rattle.std.proofs.Common.{◌+◌}
use Rattle.gn_tree.specs.Views.{statement_of}
use Rattle.gn_meaning.specs.Meaning.{whole_block_runs}
use Rattle.gn_eval.specs.Telling.{told_before, goes_on_further}
use Rattle.gn_outermost.specs.Rests.{behind}
use Rattle.gn_outermost.proofs.RestLemmas.{behind_next, behind_all, statement_within, pauses, steps, fails, ended}
use Rattle.gn_outermost.proofs.halting.run_rest.Goals as goal

pub returns-then-lacks_import : goal.returns-then-lacks_import
returns-then-lacks_import g c =
    let block = c.args.block.now in
    let statement = c.index-statements-next.result in
    let before = g.L.Library.state c.args.library.now in
    let now = g.L.Library.state c.rest.library in
    let after = g.L.Library.state c.lacks_import.new.library in
    record {
      so = pauses before now (λ a. whole_block_runs a (behind c.args.from block) c.args.env.now c.args.out.now) (behind c.rest.next block) (statement_of statement) (behind (c.rest.next + 1) block) c.rest.env c.rest.out
          c.rest.invariant.goes c.rest.invariant.runs (behind_next c.statements-statements.result.now block c.rest.next statement c.statements-statements.ensures.statements c.rest-test.true c.index-statements-next.is)
          after c.lacks_import.ensures.goes (c.lacks_import.ensures.rose c.if-lacks_import.true) (λ a told. c.lacks_import.ensures.needs c.if-lacks_import.true a c.rest.out told);
      goes = goes_on_further before now after c.rest.invariant.goes c.lacks_import.ensures.goes;
    }

pub run_outermost-requires : goal.run_outermost-requires
run_outermost-requires g c = record {
  shallow = statement_within c.statements-statements.result.now c.args.block.now c.rest.next c.index-statements-next.result c.statements-statements.ensures.statements c.rest-test.true c.index-statements-next.is c.requires.shallow;
}

pub rest-preserved : goal.rest-preserved
rest-preserved g c =
    let block = c.args.block.now in
    let statement = c.index-statements-next.result in
    let before = g.L.Library.state c.args.library.now in
    let now = g.L.Library.state c.lacks_import.new.library in
    let asked = g.L.Library.state c.rest.library in
    let after = g.L.Library.state c.run_outermost.new.library in
    let goes = goes_on_further asked now after c.lacks_import.ensures.goes c.in-Ok.ensures.goes in
    record {
      runs = λ a h.
          steps before now (λ a. whole_block_runs a (behind c.args.from block) c.args.env.now c.args.out.now) (behind c.rest.next block) (statement_of statement) (behind (c.rest.next + 1) block) c.rest.env c.rest.out
          (goes_on_further before asked now c.rest.invariant.goes c.lacks_import.ensures.goes) (λ a told. c.rest.invariant.runs a (told_before c.lacks_import.ensures.goes a told))
          (behind_next c.statements-statements.result.now block c.rest.next statement c.statements-statements.ensures.statements c.rest-test.true c.index-statements-next.is)
          after c.in-Ok.ensures.goes c.run_outermost.new.env c.run_outermost.new.out c.in-Ok.ensures a h;
      goes = goes_on_further before asked after c.rest.invariant.goes goes;
    }

pub returns-in-Err : goal.returns-in-Err
returns-in-Err g c =
    let block = c.args.block.now in
    let statement = c.index-statements-next.result in
    let before = g.L.Library.state c.args.library.now in
    let now = g.L.Library.state c.lacks_import.new.library in
    let asked = g.L.Library.state c.rest.library in
    let after = g.L.Library.state c.run_outermost.new.library in
    let goes = goes_on_further asked now after c.lacks_import.ensures.goes c.in-Err.ensures.goes in
    record {
      so = fails before now (λ a. whole_block_runs a (behind c.args.from block) c.args.env.now c.args.out.now) (behind c.rest.next block) (statement_of statement) (behind (c.rest.next + 1) block) c.rest.env c.rest.out
          (goes_on_further before asked now c.rest.invariant.goes c.lacks_import.ensures.goes) (λ a told. c.rest.invariant.runs a (told_before c.lacks_import.ensures.goes a told))
          (behind_next c.statements-statements.result.now block c.rest.next statement c.statements-statements.ensures.statements c.rest-test.true c.index-statements-next.is)
          after c.in-Err.ensures.goes c.in-Err.end c.run_outermost.new.env c.run_outermost.new.out c.in-Err.ensures;
      goes = goes_on_further before asked after c.rest.invariant.goes goes;
    }

pub returns : goal.returns
returns g c =
    let block = c.args.block.now in
    record {
      so = ended (g.L.Library.state c.rest.library) (λ a. whole_block_runs a (behind c.args.from block) c.args.env.now c.args.out.now) (behind c.rest.next block) c.rest.env c.rest.out c.rest.invariant.runs
          (behind_all c.statements-statements.result.now block c.rest.next c.statements-statements.ensures.statements c.rest-test.false);
      goes = c.rest.invariant.goes;
    }

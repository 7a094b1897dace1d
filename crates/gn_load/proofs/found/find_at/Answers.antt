use Rattle.gn_load.proofs.FoundLemmas.{found_lost, find_stops, one_found, one_found_lost, rebased_still}
use Rattle.gn_load.proofs.found.find_at.Goals as goal

pub returns-in_err-key : goal.returns-in_err-key
returns-in_err-key g c = λ known before is each.
    found_lost known before (g.S.Source.state c.args.source.now) c.args.driver.now c.args.total.now is c.args.found.now each (g.S.Source.state c.wanted_at.new.source) c.wanted_at.ensures.source c.args.driver.now c.args.total.now c.args.found.now c.from_residual.result c.from_residual.ensures.1

pub returns-in_err-wanted-in-Some : goal.returns-in_err-wanted-in-Some
returns-in_err-wanted-in-Some g c = λ known before is each.
    find_stops known before (g.S.Source.state c.read_wanted.new.source) c.args.driver.now c.read_wanted.new.driver c.read_wanted.new.total c.args.found.now c.from_residual-in_err-wanted-in-Some.result _ c.from_residual-in_err-wanted-in-Some.ensures.1
    (c.in_err-wanted-in-Some.ensures known before (rebased_still known before (g.S.Source.state c.args.source.now) (g.S.Source.state c.wanted_at.new.source) c.args.driver.now c.args.total.now c.wanted_at.ensures.source is))

pub returns-in_err-add-in-Some : goal.returns-in_err-add-in-Some
returns-in_err-add-in-Some g c = λ known before is each.
    one_found_lost known before (g.S.Source.state c.args.source.now) c.args.driver.now c.args.total.now is c.args.found.now each (g.S.Source.state c.read_wanted.new.source) c.read_wanted.new.driver c.read_wanted.new.total c.in_ok-wanted-in-Some.wanted c.add.new.found c.from_residual-in_err-add-in-Some.result
    (c.in_ok-wanted-in-Some.ensures known before (rebased_still known before (g.S.Source.state c.args.source.now) (g.S.Source.state c.wanted_at.new.source) c.args.driver.now c.args.total.now c.wanted_at.ensures.source is))
    c.from_residual-in_err-add-in-Some.ensures.1

pub returns-in_ok-add-in-Some : goal.returns-in_ok-add-in-Some
returns-in_ok-add-in-Some g c = λ known before is each.
    one_found known before (g.S.Source.state c.args.source.now) c.args.driver.now c.args.total.now is c.args.found.now each (g.S.Source.state c.read_wanted.new.source) c.read_wanted.new.driver c.read_wanted.new.total c.in_ok-wanted-in-Some.wanted c.add.new.found
    (c.in_ok-wanted-in-Some.ensures known before (rebased_still known before (g.S.Source.state c.args.source.now) (g.S.Source.state c.wanted_at.new.source) c.args.driver.now c.args.total.now c.wanted_at.ensures.source is))
    c.in_ok-add-in-Some.ensures

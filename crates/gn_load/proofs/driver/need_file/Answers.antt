use Rattle.gn_load.proofs.TurnLemmas.{turn_stops, read_turns}
use Rattle.gn_load.proofs.driver.need_file.Goals as goal

pub returns-in_err-need_content : goal.returns-in_err-need_content
returns-in_err-need_content g c = λ known before asked goes need.
    turn_stops known before (g.S.Source.state c.need_content.new.source) c.args.driver.now _ c.from_residual.result _ c.from_residual.ensures.1 (c.in_err-need_content.ensures known before asked goes need)

pub returns : goal.returns
returns g c = λ known before asked goes need.
    read_turns known before (g.S.Source.state c.need_content.new.source) c.args.driver.now c.need_content.new.driver c.args.claim c.requires.work (c.in_ok-need_content.ensures known before asked goes need)

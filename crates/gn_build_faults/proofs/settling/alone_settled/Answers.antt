use Rattle.std.proofs.Common.{Bool, List, ap, sym, ◌∙◌}
use Rattle.gn_basics.proofs.Results.{if_ok}
use Rattle.gn_build_faults.specs.Settling.{is_settled}
use Rattle.gn_build_faults.proofs.Marked.{alone_marked, none_is_settled}
use Rattle.gn_build_faults.proofs.settling.alone_settled.Goals as goal

pub returns-then-is_settled : goal.returns-then-is_settled
returns-then-is_settled c =
    let items = c.args.items.now in
    let t = c.args.target.now in
    let marks = c.args.settled.now.marks.items in
    let marked = sym (c.is_settled.ensures ∙ ap (λ (ms : List Bool). is_settled items ms t) c.as_slice.ensures.value) ∙ c.if-is_settled.true in
    if_ok c.alone.result (λ labels is. alone_marked items marks t labels c.requires marked is) c.alone.ensures

pub returns-else-is_settled : goal.returns-else-is_settled
returns-else-is_settled c = none_is_settled c.args.items.now c.new.result c.new.ensures

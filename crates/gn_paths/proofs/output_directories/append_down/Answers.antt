use Rattle.gn_paths.proofs.OutputLemmas.{down_done, down_on}
use Rattle.gn_paths.proofs.output_directories.append_down.Goals as goal

pub returns-then-is_empty : goal.returns-then-is_empty
returns-then-is_empty c =
    down_done c.args.text.now.items c.components.text.items c.components.rest.now c.args.path.now c.if-is_empty.ensures c.components.invariant.1

pub components-preserved : goal.components-preserved
components-preserved c =
    (c.split_first.ensures.more, down_on c.args.text.now.items c.components.text.items _ c.split_first.result.0.now c.components.rest.now c.split_first.result.1.now c.args.path.now c.split_first.ensures.value c.in_ok-append_if_down.ensures c.components.invariant.1)

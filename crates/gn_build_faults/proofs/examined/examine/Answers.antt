use Rattle.std.proofs.Common.{List, sym, ◌∙◌, subst}
use Rattle.gn_basics.proofs.Results.{if_ok}
use Rattle.gn_cycles.specs.Settled.{AreSettled}
use Rattle.gn_items.specs.declared.item.Item.{Item}
use Rattle.gn_labelled.specs.Graphs.{shape_of}
use Rattle.gn_toolchains.specs.Frames.{known_of}
use Rattle.gn_build_faults.specs.Examined.{examined_of}
use Rattle.gn_build_faults.proofs.examined.examine.Goals as goal

pub examine_beside-found-requires : goal.examine_beside-found-requires
examine_beside-found-requires c = subst (λ (xs : List Item). AreSettled (shape_of xs) c.in_ok-free.free) (sym c.beside-graph.ensures.items) c.in_ok-free.ensures

pub returns : goal.returns
returns c =
    if_ok c.examine_beside-found.result
    (λ found is. is ∙ (λ i. examined_of (c.beside-graph.ensures.default i) (c.beside-graph.ensures.items i) (known_of c.args.frames.now) c.args.target.now))
    c.examine_beside-found.ensures

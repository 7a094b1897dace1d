use Rattle.gn_rows.specs.declared.variable.Variable.TheVariants.{PublicDeps, Deps}
use Rattle.gn_labelled.specs.Graphs.{shape_of}
use Rattle.gn_resolve.proofs.DoneLists.{both}
use Rattle.gn_resolve.proofs.dones.near_dones.Goals as goal

pub returns : goal.returns
returns c =
    let g = shape_of c.args.graph.now.items in
    let t = c.args.target.now in
    both c.args.graph.now.records (g.lists t PublicDeps) (g.lists t Deps) c.labels-public.result.now c.labels-private.result.now
    c.new-out.result c.add_dones.new.out c.add_dones-2.new.out c.new-out.ensures c.in_ok-add_dones.ensures c.labels-public.ensures c.in_ok-add_dones-2.ensures c.labels-private.ensures

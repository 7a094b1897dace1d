use Rattle.std.proofs.Common.{List, subst}
use Rattle.gn_labels.specs.declared.label.Label.{Label}
use Rattle.gn_records.specs.Around.{around}
use Rattle.gn_resolve.specs.Table.{unboxed, IsKnown}
use Rattle.gn_resolve.proofs.making.made.Goals as goal

pub returns : goal.returns
returns c = record {
  pushed = c.in_ok-pushed.ensures;
  pushed_public = c.in_ok-pushed_public.ensures;
  hard = c.in_ok-hard.ensures;
  known =
      subst (λ (z : List Label). IsKnown (around c.args.context.now) c.args.graph.now.default.now c.args.graph.now.items c.args.graph.now.records c.args.target.now z (unboxed c.in_ok-known.known))
      c.as_slice.ensures.value c.in_ok-known.ensures;
}

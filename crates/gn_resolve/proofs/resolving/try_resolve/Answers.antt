use Rattle.std.proofs.Common.{◌∙◌, sym, refl}
use Rattle.gn_resolve.proofs.PassLemmas.{left_resolved, left_waiting}
use Rattle.gn_resolve.proofs.resolving.try_resolve.Goals as goal

pub returns-then-has : goal.returns-then-has
returns-then-has c = record {
  step = left_resolved c.args.frames.now c.args.graph.now.items c.args.target.now c.args.graph.now.records c.requires.held (sym c.has.ensures ∙ c.if-has.true);
  same = (refl, refl);
}

pub resolve_ready-requires : goal.resolve_ready-requires
resolve_ready-requires c = record {
  fit = c.requires.fit;
  held = c.requires.held;
  ready = sym c.is_ready.ensures ∙ c.if-is_ready.true;
}

pub returns : goal.returns
returns c = record {
  step = left_waiting c.args.frames.now c.args.graph.now.items c.args.target.now c.args.graph.now.records c.requires.held (sym c.is_ready.ensures ∙ c.if-is_ready.false);
  same = (refl, refl);
}

use Rattle.std.proofs.Common.{sym, ◌∙◌}
use Rattle.gn_rules.proofs.Leasts.{replaced}
use Rattle.gn_rules.proofs.reaching.better.Goals as goal

pub returns-then-is_first : goal.returns-then-is_first
returns-then-is_first c =
    replaced c.args.default.now c.args.patterns.now c.args.labels.now c.args.place c.label_at.result.now c.label_at.ensures c.label_order_is_strict.ensures c.label_order_is_transitive.ensures
    c.args.best c.in-Some.other c.is_first.result c.in-Some.is c.requires.best (sym c.is_matched.ensures ∙ c.if-not-is_matched.false) c.is_first.ensures c.if-is_first.true

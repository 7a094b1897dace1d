use Rattle.std.proofs.Common.{Some, ap, sym, ◌∙◌}
use Rattle.gn_rules.proofs.Leasts.{none_matched, one_matched}
use Rattle.gn_rules.proofs.reaching.least_copied.Goals as goal

pub returns-in-None : goal.returns-in-None
returns-in-None c = none_matched c.args.default.now c.args.patterns.now c.args.labels.now c.in-None.ensures

pub returns-in_ok-copy-in-Some : goal.returns-in_ok-copy-in-Some
returns-in_ok-copy-in-Some c =
    one_matched c.args.default.now c.args.patterns.now c.args.labels.now c.in-Some.place c.in_ok-copy-in-Some.field-0 c.in-Some.ensures (c.label_at.ensures ∙ ap Some (sym c.in_ok-copy-in-Some.ensures))

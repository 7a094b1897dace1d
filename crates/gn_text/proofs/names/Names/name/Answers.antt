use Rattle.std.proofs.Common.{sym, ap, ◌∙◌, option_map}
use Rattle.gn_text.proofs.NamesLemmas.{different, slice_get-key}
use Rattle.gn_text.proofs.names.Names.name.Goals as goal

pub returns-in-Some-clause-different : goal.returns-in-Some-clause-different
returns-in-Some-clause-different c = rw (← c.self.view_is) (different c.self.inside c.self.invariant.distinct)

pub returns-in-None-clause-different : goal.returns-in-None-clause-different
returns-in-None-clause-different c = rw (← c.self.view_is) (different c.self.inside c.self.invariant.distinct)

pub returns-in-None-clause-value : goal.returns-in-None-clause-value
returns-in-None-clause-value c =
    rw (← c.self.view_is)
    (ap (option_map (λ v. v.items)) c.in-None.ensures.key ∙ sym (slice_get-key c.self.inside c.args.number))

use Rattle.gn_prepared.proofs.shared.scopes_are_sent.Goals as goal

pub returns : goal.returns
returns c = record { owned = λ x vs. c.is_sent.ensures.owned x vs; leaving = λ k d w. tt }

use Rattle.gn_prepared.proofs.shared.blocks_cross.Goals as goal

pub returns-clause-send : goal.returns-clause-send
returns-clause-send c = record { owned = λ x vs. c.is_sent.ensures.owned x vs; leaving = λ k d w. tt }

pub returns-clause-sync : goal.returns-clause-sync
returns-clause-sync c = record { shared = λ d b o κ. c.is_shared.ensures.shared d b o κ }

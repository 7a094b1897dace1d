use Rattle.std.proofs.Common.{List, [], length, subst}
use Rattle.std.proofs.lemmas.List.{append-nil}
use Rattle.gn_closure.specs.Closure.{Horn}
use Rattle.gn_closure.specs.Ground.{Step}
use Rattle.gn_basics.proofs.Results.{if_ok}
use Rattle.gn_graph.specs.Facts.{unit_rules_in}
use Rattle.gn_graph.specs.Kept.{state_of}
use Rattle.gn_graph.specs.States.{State, TookIn}
use Rattle.gn_graph.proofs.States.{grown_on, taken_on}
use Rattle.gn_graph.proofs.closure.take_in.Goals as goal

pub follow_waiting-requires : goal.follow_waiting-requires
follow_waiting-requires c = record { sound = c.in_ok-take_units.ensures.took.0 }

pub returns-clause-grown : goal.returns-clause-grown
returns-clause-grown c =
    grown_on (state_of c.args.parts.now) (state_of c.take_units.new.parts) (state_of c.follow_waiting.new.parts) c.take_units.ensures.grown c.follow_waiting.ensures.grown

pub returns-clause-took : goal.returns-clause-took
returns-clause-took c =
    let a : State = state_of c.args.parts.now in
    let d : State = state_of c.follow_waiting.new.parts in
    let hs : List (Horn Step) = unit_rules_in c.args.rules.now in
    if_ok c.follow_waiting.result (λ _ f. subst (λ (z : List (Horn Step)). TookIn (length c.follow_waiting.new.parts.held) a d z) (append-nil hs)
    (taken_on a (state_of c.take_units.new.parts) d c.args.start (length c.follow_waiting.new.parts.held) hs [] c.follow_waiting.ensures.grown c.in_ok-take_units.ensures.took f)) c.follow_waiting.ensures.took

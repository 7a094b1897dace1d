use Rattle.std.proofs.Common.{[], List, map, refl}
use Rattle.gn_closure.specs.Closure.{Horn}
use Rattle.gn_closure.specs.Ground.{Step}
use Rattle.gn_basics.proofs.Results.{if_ok}
use Rattle.gn_graph.specs.Facts.{unit_of, steps_in, rules_in, under}
use Rattle.gn_graph.specs.Kept.{state_of}
use Rattle.gn_graph.specs.States.{State, state}
use Rattle.gn_graph.proofs.States.{sound_table, took_table, grown_table, grown_on, taken_on}
use Rattle.gn_graph.proofs.taking.take_under.Goals as goal

pub returns-in_err-number-clause-grown : goal.returns-in_err-number-clause-grown
returns-in_err-number-clause-grown c =
    let a : State = state_of c.args.parts.now in
    grown_table a (steps_in c.number_of.new.facts.keys) a.rules a.found a.uses c.number_of.ensures.grows refl refl (λ q j m. m)

pub take_all_hung-requires-clause-sound : goal.take_all_hung-requires-clause-sound
take_all_hung-requires-clause-sound c =
    let a : State = state_of c.args.parts.now in
    sound_table a c.args.start c.requires.sound (steps_in c.number_of.new.facts.keys) a.uses c.number_of.ensures.grows (λ q j m. m)

pub returns-clause-grown : goal.returns-clause-grown
returns-clause-grown c =
    let a : State = state_of c.args.parts.now in
    let t : List Step = steps_in c.number_of.new.facts.keys in
    grown_on a (state t a.rules a.found a.uses) (state_of c.take_all_hung.new.parts) (grown_table a t a.rules a.found a.uses c.number_of.ensures.grows refl refl (λ q j m. m)) c.take_all_hung.ensures.grown

pub returns-clause-took : goal.returns-clause-took
returns-clause-took c =
    let a : State = state_of c.args.parts.now in
    let t : List Step = steps_in c.number_of.new.facts.keys in
    let hs : List (Horn Step) = map (under (unit_of c.args.unit.now)) (rules_in c.args.rules.now) in
    if_ok c.take_all_hung.result (λ _ f. taken_on a (state t a.rules a.found a.uses) (state_of c.take_all_hung.new.parts) c.args.start c.args.start [] hs c.take_all_hung.ensures.grown
    (sound_table a c.args.start c.requires.sound t a.uses c.number_of.ensures.grows (λ q j m. m), took_table a c.args.start c.requires.sound t a.uses c.number_of.ensures.grows.0) f) c.take_all_hung.ensures.took

use Rattle.std.proofs.Common.{◌≡◌, ◌+◌, ◌∷◌, ◌++◌, [], ℕ, List, take, sym, ap, subst, ◌∙◌, arith}
use Rattle.std.proofs.lemmas.List.{take_more, take_all, append-nil}
use Rattle.std.proofs.lemmas.List.Concat.{flat_map-append}
use Rattle.gn_closure.specs.Closure.{Horn}
use Rattle.gn_closure.specs.Ground.{Step}
use Rattle.gn_graph.specs.declared.rule.UnitRules.{UnitRules}
use Rattle.gn_graph.specs.Facts.{unit_horns, unit_rules_in}
use Rattle.gn_graph.specs.Kept.{state_of}
use Rattle.gn_graph.specs.States.{State, TookIn}
use Rattle.gn_graph.proofs.States.{grown_none, grown_on, took_nothing, taken_on}
use Rattle.gn_graph.proofs.taking.take_units.Goals as goal

pub loop-unit-init : goal.loop-unit-init
loop-unit-init c = record { grown = grown_none (state_of c.args.parts.now); took = (c.requires.sound, took_nothing (state_of c.args.parts.now)) }

pub take_unit-requires : goal.take_unit-requires
take_unit-requires c = record { sound = c.loop-unit.invariant.took.0 }

pub returns-in_err-take_unit-clause-grown : goal.returns-in_err-take_unit-clause-grown
returns-in_err-take_unit-clause-grown c =
    grown_on (state_of c.args.parts.now) (state_of c.loop-unit.parts) (state_of c.take_unit.new.parts) c.loop-unit.invariant.grown c.take_unit.ensures.grown

pub loop-unit-preserved : goal.loop-unit-preserved
loop-unit-preserved c =
    let a : State = state_of c.args.parts.now in
    let b : State = state_of c.loop-unit.parts in
    let d : State = state_of c.take_unit.new.parts in
    let rules : List UnitRules = c.args.rules.now in
    let k : ℕ = c.loop-unit.unit-index in
    let x : UnitRules = c.unit-item.result in
    let now : unit_rules_in (take (k + 1) rules) ≡ unit_rules_in (take k rules) ++ unit_horns x
    = ap unit_rules_in (take_more rules k x (omega arith) ∙ ap (λ (z : UnitRules). take k rules ++ z ∷ []) (sym c.unit-item.is))
    ∙ flat_map-append unit_horns (take k rules) (x ∷ []) ∙ ap (λ z. unit_rules_in (take k rules) ++ z) (append-nil (unit_horns x)) in
    record {
      grown = grown_on a b d c.loop-unit.invariant.grown c.take_unit.ensures.grown;
      took = subst (λ (z : List (Horn Step)). TookIn c.args.start a d z) (sym now)
          (taken_on a b d c.args.start c.args.start (unit_rules_in (take k rules)) (unit_horns x) c.take_unit.ensures.grown c.loop-unit.invariant.took c.in_ok-take_unit.ensures.took);
    }

pub returns-clause-took : goal.returns-clause-took
returns-clause-took c =
    let P : List UnitRules → Type 0 = λ z. TookIn c.args.start (state_of c.args.parts.now) (state_of c.loop-unit.parts) (unit_rules_in z) in
    subst P (take_all c.loop-unit.unit-index c.args.rules.now (omega arith)) c.loop-unit.invariant.took

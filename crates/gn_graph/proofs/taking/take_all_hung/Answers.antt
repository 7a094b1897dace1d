use Rattle.std.proofs.Common.{◌≡◌, ◌+◌, ◌∷◌, ◌++◌, [], ℕ, List, map, take, sym, ap, subst, ◌∙◌, arith}
use Rattle.std.proofs.lemmas.List.{take_more, take_all, map-append}
use Rattle.gn_closure.specs.Closure.{Horn}
use Rattle.gn_closure.specs.Ground.{Step}
use Rattle.gn_closure.specs.Computed.{is_reached}
use Rattle.gn_graph.specs.declared.rule.Rule.{Rule}
use Rattle.gn_graph.specs.Facts.{unit_of, rules_in, horn_in, under}
use Rattle.gn_graph.specs.Kept.{state_of}
use Rattle.gn_graph.specs.States.{State, TookIn}
use Rattle.gn_graph.proofs.States.{grown_none, grown_on, took_nothing, taken_on}
use Rattle.gn_graph.proofs.taking.take_all_hung.Goals as goal

pub loop-rule-init : goal.loop-rule-init
loop-rule-init c = record { grown = grown_none (state_of c.args.parts.now); took = (c.requires.sound, took_nothing (state_of c.args.parts.now)) }

pub take_hung-requires-clause-sound : goal.take_hung-requires-clause-sound
take_hung-requires-clause-sound c = c.loop-rule.invariant.took.0

pub take_hung-requires-clause-unit : goal.take_hung-requires-clause-unit
take_hung-requires-clause-unit c = c.loop-rule.invariant.grown.table.0 c.args.number (is_reached (unit_of c.args.unit.now)) c.requires.unit

pub returns-in_err-take_hung-clause-grown : goal.returns-in_err-take_hung-clause-grown
returns-in_err-take_hung-clause-grown c =
    grown_on (state_of c.args.parts.now) (state_of c.loop-rule.parts) (state_of c.take_hung.new.parts) c.loop-rule.invariant.grown c.take_hung.ensures.grown

pub loop-rule-preserved : goal.loop-rule-preserved
loop-rule-preserved c =
    let a : State = state_of c.args.parts.now in
    let b : State = state_of c.loop-rule.parts in
    let d : State = state_of c.take_hung.new.parts in
    let rules : List Rule = c.args.rules.now in
    let k : ℕ = c.loop-rule.rule-index in
    let x : Rule = c.rule-item.result in
    let f : Rule → Horn Step = λ r. under (unit_of c.args.unit.now) (horn_in r) in
    let all : List Rule → List (Horn Step) = λ rs. map (under (unit_of c.args.unit.now)) (rules_in rs) in
    let now : all (take (k + 1) rules) ≡ all (take k rules) ++ f x ∷ []
    = ap all (take_more rules k x (omega arith) ∙ ap (λ (z : Rule). take k rules ++ z ∷ []) (sym c.rule-item.is))
    ∙ ap (map (under (unit_of c.args.unit.now))) (map-append horn_in (take k rules) (x ∷ []))
    ∙ map-append (under (unit_of c.args.unit.now)) (rules_in (take k rules)) (horn_in x ∷ []) in
    record {
      grown = grown_on a b d c.loop-rule.invariant.grown c.take_hung.ensures.grown;
      took = subst (λ (z : List (Horn Step)). TookIn c.args.start a d z) (sym now)
          (taken_on a b d c.args.start c.args.start (all (take k rules)) (f x ∷ []) c.take_hung.ensures.grown c.loop-rule.invariant.took c.in_ok-take_hung.ensures.took);
    }

pub returns-clause-took : goal.returns-clause-took
returns-clause-took c =
    let P : List Rule → Type 0 = λ z. TookIn c.args.start (state_of c.args.parts.now) (state_of c.loop-rule.parts) (map (under (unit_of c.args.unit.now)) (rules_in z)) in
    subst P (take_all c.loop-rule.rule-index c.args.rules.now (omega arith)) c.loop-rule.invariant.took

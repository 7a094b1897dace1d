use Rattle.std.proofs.Common.{◌∷◌, [], ℕ, List, Option, refl, sym, subst}
use Rattle.gn_closure.specs.Closure.{Horn}
use Rattle.gn_closure.specs.Ground.{Step}
use Rattle.gn_basics.proofs.Results.{if_ok}
use Rattle.gn_graph.specs.Facts.{steps_in, horn_in}
use Rattle.gn_graph.specs.Clauses.{horn}
use Rattle.gn_graph.specs.Numbers.{StandsFor}
use Rattle.gn_graph.specs.Kept.{state_of}
use Rattle.gn_graph.specs.States.{State, state, IsSound, IsNumbered}
use Rattle.gn_graph.proofs.States.{sound_table, took_table, took_known, grown_table, grown_none, grown_on, taken_on}
use Rattle.gn_graph.proofs.taking.take_plain.Goals as goal

pub returns-in_err-gives-clause-grown : goal.returns-in_err-gives-clause-grown
returns-in_err-gives-clause-grown c =
    let a : State = state_of c.args.parts.now in
    grown_table a (steps_in c.number_rule.new.facts.keys) a.rules a.found a.uses c.number_rule.ensures.grows refl refl (λ q j m. m)

pub returns-in-None-clause-grown : goal.returns-in-None-clause-grown
returns-in-None-clause-grown c =
    let a : State = state_of c.args.parts.now in
    grown_table a (steps_in c.number_rule.new.facts.keys) a.rules a.found a.uses c.number_rule.ensures.grows refl refl (λ q j m. m)

pub returns-in-None-clause-took : goal.returns-in-None-clause-took
returns-in-None-clause-took c =
    let a : State = state_of c.args.parts.now in
    let t : List Step = steps_in c.number_rule.new.facts.keys in
    let b : State = state t a.rules a.found a.uses in
    let h : Horn Step = horn_in c.args.rule.now in
    let s : IsSound b c.args.start = sound_table a c.args.start c.requires.sound t a.uses c.number_rule.ensures.grows (λ q j m. m) in
    let n = subst (λ (o : Option ℕ). IsNumbered t a.found c.number_rule.new.needs.items h o) c.in-None.is c.in_ok-gives.ensures.numbered in
    taken_on a b b c.args.start c.args.start [] (h ∷ []) (grown_none b) (s, took_table a c.args.start c.requires.sound t a.uses c.number_rule.ensures.grows.0)
    (s, took_known b c.args.start s h n.0 n.1 n.2)

pub settle-requires-clause-sound : goal.settle-requires-clause-sound
settle-requires-clause-sound c =
    let a : State = state_of c.args.parts.now in
    sound_table a c.args.start c.requires.sound (steps_in c.number_rule.new.facts.keys) a.uses c.number_rule.ensures.grows (λ q j m. m)

pub settle-requires-clause-fresh : goal.settle-requires-clause-fresh
settle-requires-clause-fresh c =
    (subst (λ (o : Option ℕ). IsNumbered (steps_in c.number_rule.new.facts.keys) c.args.parts.now.held c.number_rule.new.needs.items (horn_in c.args.rule.now) o) c.in-Some.is c.in_ok-gives.ensures.numbered).0

pub returns-in-Some-clause-grown : goal.returns-in-Some-clause-grown
returns-in-Some-clause-grown c =
    let a : State = state_of c.args.parts.now in
    let b : State = state (steps_in c.number_rule.new.facts.keys) a.rules a.found a.uses in
    grown_on a b (state_of c.settle.new.parts) (grown_table a (steps_in c.number_rule.new.facts.keys) a.rules a.found a.uses c.number_rule.ensures.grows refl refl (λ q j m. m)) c.settle.ensures.grown

pub returns-in-Some-clause-took : goal.returns-in-Some-clause-took
returns-in-Some-clause-took c =
    let a : State = state_of c.args.parts.now in
    let t : List Step = steps_in c.number_rule.new.facts.keys in
    let b : State = state t a.rules a.found a.uses in
    let h : Horn Step = horn_in c.args.rule.now in
    let s : IsSound b c.args.start = sound_table a c.args.start c.requires.sound t a.uses c.number_rule.ensures.grows (λ q j m. m) in
    let n = subst (λ (o : Option ℕ). IsNumbered t a.found c.number_rule.new.needs.items h o) c.in-Some.is c.in_ok-gives.ensures.numbered in
    if_ok c.settle.result (λ _ f. taken_on a b (state_of c.settle.new.parts) c.args.start c.args.start [] (h ∷ []) c.settle.ensures.grown
    (s, took_table a c.args.start c.requires.sound t a.uses c.number_rule.ensures.grows.0) (f h (subst (λ (z : List ℕ). StandsFor t (horn z c.in-Some.gives) h) (sym c.deref.ensures.value) n.1))) c.settle.ensures.took

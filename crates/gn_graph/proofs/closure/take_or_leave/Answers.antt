use Rattle.std.proofs.Common.{◌≡◌, ℕ, take, length, ap, ◌∙◌, arith}
use Rattle.std.proofs.lemmas.List.{length-map}
use Rattle.gn_graph.specs.Clauses.{horn_of, horns}
use Rattle.gn_graph.specs.Facts.{unit_rules_in}
use Rattle.gn_graph.specs.Kept.{state_of}
use Rattle.gn_graph.specs.States.{State}
use Rattle.gn_graph.proofs.States.{has_added, horns_take, back_sound, back_known}
use Rattle.gn_graph.proofs.closure.take_or_leave.Goals as goal

pub returns-in-Ok-clause-added : goal.returns-in-Ok-clause-added
returns-in-Ok-clause-added c =
    has_added (state_of c.args.parts.now) (state_of c.take_in.new.parts) (length c.args.parts.now.held) (unit_rules_in c.args.rules.now) c.requires.sound c.take_in.ensures.grown c.in-Ok.ensures.took

pub returns-in-Err-clause-sound : goal.returns-in-Err-clause-sound
returns-in-Err-clause-sound c =
    let a : State = state_of c.args.parts.now in
    let b : State = state_of c.take_in.new.parts in
    let n : c.len-kept.result ≡ length a.rules = omega (arith, c.len-kept.ensures, c.args.parts.now.clauses.ok.0, length-map c.args.parts.now.clauses.items horn_of) in
    let e : horns c.take_back.new.clauses.items ≡ take (length a.rules) b.rules
    = ap horns c.take_back.ensures.clauses ∙ horns_take c.len-kept.result c.take_in.new.parts.clauses.items ∙ ap (λ (z : ℕ). take z b.rules) n in
    back_sound a b c.requires.sound c.take_in.ensures.grown (horns c.take_back.new.clauses.items) c.take_back.new.held e (c.take_back.ensures.held ∙ ap (λ (z : ℕ). take z b.found) c.len-start.ensures.len)

pub returns-in-Err-clause-err : goal.returns-in-Err-clause-err
returns-in-Err-clause-err c =
    let a : State = state_of c.args.parts.now in
    let b : State = state_of c.take_in.new.parts in
    let n : c.len-kept.result ≡ length a.rules = omega (arith, c.len-kept.ensures, c.args.parts.now.clauses.ok.0, length-map c.args.parts.now.clauses.items horn_of) in
    let e : horns c.take_back.new.clauses.items ≡ take (length a.rules) b.rules
    = ap horns c.take_back.ensures.clauses ∙ horns_take c.len-kept.result c.take_in.new.parts.clauses.items ∙ ap (λ (z : ℕ). take z b.rules) n in
    back_known a b c.requires.sound c.take_in.ensures.grown (horns c.take_back.new.clauses.items) c.take_back.new.held e (c.take_back.ensures.held ∙ ap (λ (z : ℕ). take z b.found) c.len-start.ensures.len)

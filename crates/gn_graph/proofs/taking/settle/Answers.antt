use Rattle.std.proofs.Common.{◌∷◌, [], ℕ, List, refl, sym, ap, subst, ◌∙◌, true≢false}
use Rattle.std.proofs.lemmas.List.{length-map}
use Rattle.gn_closure.specs.Closure.{Horn}
use Rattle.gn_basics.proofs.Results.{if_ok}
use Rattle.gn_graph.specs.Clauses.{has, horn, horn_of, waits_at}
use Rattle.gn_graph.specs.States.{State, state, TookIn}
use Rattle.gn_graph.specs.Kept.{state_of}
use Rattle.gn_graph.proofs.Results.{both_ok, more_none}
use Rattle.gn_graph.proofs.States.{sound_ready, took_ready, sound_waiting, took_waiting}
use Rattle.gn_graph.proofs.taking.settle.Goals as goal

pub returns-then-all_hold-clause-grown : goal.returns-then-all_hold-clause-grown
returns-then-all_hold-clause-grown c =
    let a : State = state_of c.args.parts.now in
    record { table = (λ n s e. e, λ t. t); rules = more_none a.rules a.rules refl; found = c.put.ensures.more; uses = λ q j m. m }

pub returns-then-all_hold-clause-took : goal.returns-then-all_hold-clause-took
returns-then-all_hold-clause-took c =
    let a : State = state_of c.args.parts.now in
    let r : Horn ℕ = horn c.args.needs.now c.args.gives in
    let ready = c.all_hold.ensures.0 c.if-all_hold.true in
    if_ok c.put.result (λ _ e h st. subst (λ (z : List ℕ). TookIn c.args.start a (state a.table a.rules z a.uses) (h ∷ [])) (sym e)
    (sound_ready a c.args.start c.requires.sound h r st ready c.requires.fresh, took_ready a c.args.start c.requires.sound h r st ready)) c.put.ensures.ok

pub returns-else-all_hold-clause-grown : goal.returns-else-all_hold-clause-grown
returns-else-all_hold-clause-grown c =
    let a : State = state_of c.args.parts.now in
    record { table = (λ n s e. e, λ t. t); rules = c.keep.ensures.more; found = more_none a.found a.found refl; uses = c.keep.ensures.kept }

pub returns-else-all_hold-clause-took : goal.returns-else-all_hold-clause-took
returns-else-all_hold-clause-took c =
    let a : State = state_of c.args.parts.now in
    let r : Horn ℕ = horn c.args.needs.now c.args.gives in
    let v : ℕ → List ℕ = waits_at c.keep.new.uses in
    both_ok c.keep.result (λ e own h st. subst (λ (z : List (Horn ℕ)). TookIn c.args.start a (state a.table z a.found v) (h ∷ [])) (sym e) (
      sound_waiting a c.args.start c.requires.sound h r st v (λ all. true≢false (sym (c.all_hold.ensures.1 all) ∙ c.if-all_hold.false)) c.keep.ensures.kept
          (λ p n m. ap (has (v p)) (length-map c.args.parts.now.clauses.items horn_of) ∙ own p n m),
      took_waiting a c.args.start c.requires.sound h r st v,
    )) c.keep.ensures.ok c.keep.ensures.added

use Rattle.std.proofs.Common.{◌≡◌, [], ◌∷◌, ◌++◌, append-nil, map, sym, ap, subst, ◌∙◌}
use Rattle.std.proofs.lemmas.List.{map-append}
use Rattle.std.specs.Arc.{arc_value}
use Rattle.gn_executions.specs.Base.{BaseState, beneath_in}
use Rattle.gn_evaluation_base.proofs.BuiltIn.{scope_beneath, nothing_beneath}
use Rattle.gn_evaluation_base.proofs.base.Base.share_beneath.Goals as goal
use Rattle.gn_evaluation_base.proofs.base.Base.share_beneath.Goals.{in-Some+in_ok-scope_in+in_ok-push, in_default}

pub returns : goal.returns
returns c =
    let inside = c.self.inside in
    let context = inside.context.value in
    let directory = c.args.directory.now in
    let held = map arc_value inside.beneath.items in
    let shared : map arc_value c.in_ok-beneath.beneath.items ≡ held = c.in_ok-beneath.ensures ∙ ap (map arc_value) c.deref.ensures.value in
    subst (λ (base : BaseState). map arc_value c.match-self.beneath.items ≡ beneath_in base directory) c.self.view_is
    (elim c.match-self.branch [
      | in-Some+in_ok-scope_in+in_ok-push w ↦
          (λ i. map arc_value (w.beneath-is i).items) ∙ ap (map arc_value) w.in_ok-push.ensures.items ∙ map-append arc_value c.in_ok-beneath.beneath.items _
          ∙ (λ i. shared i ++ w.in_ok-scope_in.ensures i ∷ []) ∙ ap (λ l. held ++ l) (scope_beneath inside.built_in w.in-Some.built_in context directory w.in-Some.is c.self.invariant)
      | in_default w ↦
          (λ i. map arc_value (w.beneath-is i).items) ∙ shared ∙ sym (append-nil held) ∙ ap (λ l. held ++ l) (nothing_beneath inside.built_in context directory w.in_default.is)
    ])

use Rattle.std.proofs.Common.{Bor, List, ℕ, Some, option_map, sym, ap, ◌∙◌, subst, IfOk}
use Rattle.gn_values.specs.declared.value.Value.{Value}
use Rattle.gn_values.specs.View.{val_of}
use Rattle.gn_environment.specs.Assigning.{element_changed}
use Rattle.gn_layers.specs.Errors.{element_refusal_of}
use Rattle.gn_layers.specs.Named.{named_chain, IsNumberedChain}
use Rattle.gn_scopes.proofs.NamedLayers.{named_answer, element_changed_named, element_changed_numbered}
use Rattle.gn_scopes.proofs.Interned.{named_by_interned, numbered_by_interned, ok_by_name, refused_by_name, of_ok}
use Rattle.gn_environment.proofs.Outcomes.{on_ok, on_err, if_err, always}
use Rattle.gn_scopes.proofs.named_scopes.NamedScopes.assign_element.Goals as goal

pub invariant_of-self-2 : goal.invariant_of-self-2
invariant_of-self-2 c =
    let scopes = c.self.inside.scopes in
    let names = c.intern.new.self in
    let told = c.in_ok-number.ensures in
    let found = told.found ∙ ap Some c.as_bytes.ensures in
    let numbered = numbered_by_interned c.self.inside.names names _ told.names told.different scopes c.self.invariant in
    let beneath = option_map (λ (v : Bor Value). val_of v.now) c.args.beneath in
    let left = subst (λ (k : List ℕ). IfOk (element_changed k (val_of c.args.at.now) c.args.op (val_of c.args.value) c.args.position beneath scopes) (IsNumberedChain names)) (sym c.new.ensures) (element_changed_numbered names told.different c.args.name.now c.in_ok-number.number found scopes numbered (val_of c.args.at.now) c.args.op (val_of c.args.value) c.args.position beneath) in
    always c.assign_element.result _
    (on_ok c.assign_element.result _ _ (of_ok (IsNumberedChain names) _ c.assign_element.new.self left) c.assign_element.ensures.ok)
    (on_err c.assign_element.result _ _ (λ e. subst (IsNumberedChain names) (sym e) numbered) c.assign_element.ensures.err)

pub returns-clause-ok : goal.returns-clause-ok
returns-clause-ok c =
    let scopes = c.self.inside.scopes in
    let names = c.intern.new.self in
    let told = c.in_ok-number.ensures in
    let found = told.found ∙ ap Some c.as_bytes.ensures in
    let numbered = numbered_by_interned c.self.inside.names names _ told.names told.different scopes c.self.invariant in
    let before = named_by_interned c.self.inside.names names _ told.names told.different scopes c.self.invariant ∙ c.self.view_is in
    let beneath = option_map (λ (v : Bor Value). val_of v.now) c.args.beneath in
    let same = ap (element_changed c.args.name.now (val_of c.args.at.now) c.args.op (val_of c.args.value) c.args.position beneath) (sym before) ∙ element_changed_named names told.different c.args.name.now c.in_ok-number.number found scopes numbered (val_of c.args.at.now) c.args.op (val_of c.args.value) c.args.position beneath ∙ ap (λ (k : List ℕ). named_answer names (element_changed k (val_of c.args.at.now) c.args.op (val_of c.args.value) c.args.position beneath scopes)) (sym c.new.ensures) in
    on_ok c.assign_element.result _ _ (ok_by_name names _ _ same c.assign_element.new.self) c.assign_element.ensures.ok

pub returns-clause-refused : goal.returns-clause-refused
returns-clause-refused c =
    let scopes = c.self.inside.scopes in
    let names = c.intern.new.self in
    let told = c.in_ok-number.ensures in
    let found = told.found ∙ ap Some c.as_bytes.ensures in
    let numbered = numbered_by_interned c.self.inside.names names _ told.names told.different scopes c.self.invariant in
    let before = named_by_interned c.self.inside.names names _ told.names told.different scopes c.self.invariant ∙ c.self.view_is in
    let beneath = option_map (λ (v : Bor Value). val_of v.now) c.args.beneath in
    let same = ap (element_changed c.args.name.now (val_of c.args.at.now) c.args.op (val_of c.args.value) c.args.position beneath) (sym before) ∙ element_changed_named names told.different c.args.name.now c.in_ok-number.number found scopes numbered (val_of c.args.at.now) c.args.op (val_of c.args.value) c.args.position beneath ∙ ap (λ (k : List ℕ). named_answer names (element_changed k (val_of c.args.at.now) c.args.op (val_of c.args.value) c.args.position beneath scopes)) (sym c.new.ensures) in
    if_err c.assign_element.result _ _ (λ e. refused_by_name names _ _ same (element_refusal_of e)) c.assign_element.ensures.refused

pub returns-clause-err : goal.returns-clause-err
returns-clause-err c =
    let names = c.intern.new.self in
    let told = c.in_ok-number.ensures in
    let before = named_by_interned c.self.inside.names names _ told.names told.different c.self.inside.scopes c.self.invariant ∙ c.self.view_is in
    on_err c.assign_element.result _ _ (λ e. ap (named_chain names) e ∙ before) c.assign_element.ensures.err

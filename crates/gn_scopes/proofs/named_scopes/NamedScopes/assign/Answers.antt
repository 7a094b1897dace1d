use Rattle.std.proofs.Common.{Bor, List, ℕ, Some, option_map, sym, ap, ◌∙◌, subst, IfOk}
use Rattle.gn_values.specs.declared.value.Value.{Value}
use Rattle.gn_values.specs.View.{val_of}
use Rattle.gn_environment.specs.Assigning.{assigned}
use Rattle.gn_layers.specs.Errors.{refusal_of}
use Rattle.gn_layers.specs.Named.{named_chain, IsNumberedChain}
use Rattle.gn_scopes.proofs.NamedLayers.{named_answer, assigned_named, assigned_numbered}
use Rattle.gn_scopes.proofs.Interned.{named_by_interned, numbered_by_interned, ok_by_name, refused_by_name, of_ok}
use Rattle.gn_environment.proofs.Outcomes.{on_ok, on_err, if_err, always}
use Rattle.gn_scopes.proofs.named_scopes.NamedScopes.assign.Goals as goal

pub invariant_of-self-2 : goal.invariant_of-self-2
invariant_of-self-2 c =
    let scopes = c.self.inside.scopes in
    let names = c.intern.new.self in
    let told = c.in_ok-number.ensures in
    let found = told.found ∙ ap Some c.as_bytes.ensures in
    let numbered = numbered_by_interned c.self.inside.names names _ told.names told.different scopes c.self.invariant in
    let beneath = option_map (λ (v : Bor Value). val_of v.now) c.args.beneath in
    let left = subst (λ (k : List ℕ). IfOk (assigned k c.args.op (val_of c.args.value) c.args.position beneath scopes) (IsNumberedChain names)) (sym c.new.ensures) (assigned_numbered names told.different c.args.name.now c.in_ok-number.number found scopes numbered c.args.op (val_of c.args.value) c.args.position beneath) in
    always c.assign.result _
    (on_ok c.assign.result _ _ (of_ok (IsNumberedChain names) _ c.assign.new.self left) c.assign.ensures.ok)
    (on_err c.assign.result _ _ (λ e. subst (IsNumberedChain names) (sym e) numbered) c.assign.ensures.err)

pub returns-clause-ok : goal.returns-clause-ok
returns-clause-ok c =
    let scopes = c.self.inside.scopes in
    let names = c.intern.new.self in
    let told = c.in_ok-number.ensures in
    let found = told.found ∙ ap Some c.as_bytes.ensures in
    let numbered = numbered_by_interned c.self.inside.names names _ told.names told.different scopes c.self.invariant in
    let before = named_by_interned c.self.inside.names names _ told.names told.different scopes c.self.invariant ∙ c.self.view_is in
    let beneath = option_map (λ (v : Bor Value). val_of v.now) c.args.beneath in
    let same = ap (assigned c.args.name.now c.args.op (val_of c.args.value) c.args.position beneath) (sym before) ∙ assigned_named names told.different c.args.name.now c.in_ok-number.number found scopes numbered c.args.op (val_of c.args.value) c.args.position beneath ∙ ap (λ (k : List ℕ). named_answer names (assigned k c.args.op (val_of c.args.value) c.args.position beneath scopes)) (sym c.new.ensures) in
    on_ok c.assign.result _ _ (ok_by_name names _ _ same c.assign.new.self) c.assign.ensures.ok

pub returns-clause-refused : goal.returns-clause-refused
returns-clause-refused c =
    let scopes = c.self.inside.scopes in
    let names = c.intern.new.self in
    let told = c.in_ok-number.ensures in
    let found = told.found ∙ ap Some c.as_bytes.ensures in
    let numbered = numbered_by_interned c.self.inside.names names _ told.names told.different scopes c.self.invariant in
    let before = named_by_interned c.self.inside.names names _ told.names told.different scopes c.self.invariant ∙ c.self.view_is in
    let beneath = option_map (λ (v : Bor Value). val_of v.now) c.args.beneath in
    let same = ap (assigned c.args.name.now c.args.op (val_of c.args.value) c.args.position beneath) (sym before) ∙ assigned_named names told.different c.args.name.now c.in_ok-number.number found scopes numbered c.args.op (val_of c.args.value) c.args.position beneath ∙ ap (λ (k : List ℕ). named_answer names (assigned k c.args.op (val_of c.args.value) c.args.position beneath scopes)) (sym c.new.ensures) in
    if_err c.assign.result _ _ (λ e. refused_by_name names _ _ same (refusal_of e)) c.assign.ensures.refused

pub returns-clause-err : goal.returns-clause-err
returns-clause-err c =
    let names = c.intern.new.self in
    let told = c.in_ok-number.ensures in
    let before = named_by_interned c.self.inside.names names _ told.names told.different c.self.inside.scopes c.self.invariant ∙ c.self.view_is in
    on_err c.assign.result _ _ (λ e. ap (named_chain names) e ∙ before) c.assign.ensures.err

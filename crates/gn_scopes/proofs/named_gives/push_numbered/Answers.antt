use Rattle.std.proofs.Common.{◌≡◌, ℕ, ◌∷◌, [], ◌++◌, List, sym, ap, ◌∙◌, subst}
use Rattle.std.specs.List.{AllByRecursion}
use Rattle.std.proofs.lemmas.List.{map-append}
use Rattle.gn_values.specs.Val.{Val}
use Rattle.gn_values.specs.View.{val_of}
use Rattle.gn_values.specs.declared.value.Value.{Value}
use Rattle.gn_values.specs.Tables.{Table}
use Rattle.gn_layers.specs.Named.{key, texted, IsNumber, IsLonger}
use Rattle.gn_layers.specs.View.{value_pairs}
use Rattle.gn_scopes.proofs.NamedGiven.{IsLonger-with_text, one_more_number, one_more_texted}
use Rattle.gn_scopes.proofs.named_gives.push_numbered.Goals as goal

pub returns-clause-values : goal.returns-clause-values
returns-clause-values c =
    let names = c.args.names.now in
    let new = c.intern.new.self in
    let name = c.as_bytes.result.now in
    let value = c.args.entry.value in
    let n = c.in_ok-number.number in
    let before = value_pairs c.args.values.now.items in
    let longer : IsLonger names new = subst (IsLonger names) (sym c.in_ok-number.ensures.names) (IsLonger-with_text names name) in
    let pairs : value_pairs c.push_reserved.new.self.items ≡ before ++ (key n, val_of value) ∷ [] = ap value_pairs (c.push_reserved.ensures.items ∙ ap (λ (es : List (List ℕ × Value)). es ++ (c.new.result, value) ∷ []) c.in_ok-reserve.ensures.items) ∙ map-append (λ (e : List ℕ × Value). (e.0, val_of e.1)) c.args.values.now.items ((c.new.result, value) ∷ []) ∙ ap (λ k. before ++ (k, val_of value) ∷ []) c.new.ensures in
    ap (texted new) pairs ∙ one_more_texted names new longer before c.requires.numbers name n c.in_ok-number.ensures.found (val_of value) ∙ ap (λ x. texted names before ++ (x, val_of value) ∷ []) c.as_bytes.ensures

pub returns-clause-numbers : goal.returns-clause-numbers
returns-clause-numbers c =
    let names = c.args.names.now in
    let new = c.intern.new.self in
    let name = c.as_bytes.result.now in
    let value = c.args.entry.value in
    let n = c.in_ok-number.number in
    let before = value_pairs c.args.values.now.items in
    let longer : IsLonger names new = subst (IsLonger names) (sym c.in_ok-number.ensures.names) (IsLonger-with_text names name) in
    let pairs : value_pairs c.push_reserved.new.self.items ≡ before ++ (key n, val_of value) ∷ [] = ap value_pairs (c.push_reserved.ensures.items ∙ ap (λ (es : List (List ℕ × Value)). es ++ (c.new.result, value) ∷ []) c.in_ok-reserve.ensures.items) ∙ map-append (λ (e : List ℕ × Value). (e.0, val_of e.1)) c.args.values.now.items ((c.new.result, value) ∷ []) ∙ ap (λ k. before ++ (k, val_of value) ∷ []) c.new.ensures in
    subst (λ (t : Table Val). AllByRecursion (λ e. IsNumber new e.0) t) (sym pairs) (one_more_number names new longer before c.requires.numbers name n c.in_ok-number.ensures.found (val_of value))

pub returns-clause-longer : goal.returns-clause-longer
returns-clause-longer c =
    subst (IsLonger c.args.names.now) (sym c.in_ok-number.ensures.names) (IsLonger-with_text c.args.names.now c.as_bytes.result.now)

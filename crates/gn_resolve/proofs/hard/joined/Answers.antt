use Rattle.std.proofs.Common.{◌≡◌, List, [], ap, sym, ◌∙◌}
use Rattle.std.specs.List.{flat_map}
use Rattle.std.proofs.lemmas.Grind.{flat_map-append}
use Rattle.std.proofs.lemmas.Result.{IfOk-weaker}
use Rattle.gn_labels.specs.declared.label.Label.{Label}
use Rattle.gn_rows.specs.declared.variable.Variable.TheVariants.{PublicDeps, Deps}
use Rattle.gn_dependencies.specs.Lists.{added}
use Rattle.gn_dependencies.specs.Shape.{near}
use Rattle.gn_dependencies.proofs.Joins.{then_two}
use Rattle.gn_labelled.specs.Graphs.{shape_of}
use Rattle.gn_resolve.specs.Table.{hard_along}
use Rattle.gn_resolve.proofs.hard.joined.Goals as goal

pub returns : goal.returns
returns c =
    let g = shape_of c.args.graph.now.items in
    let t = c.args.target.now in
    let f : Label → List Label = hard_along c.args.graph.now.items c.args.graph.now.records in
    let xs : List Label = g.lists t PublicDeps in
    let ys : List Label = g.lists t Deps in
    let one : c.add_each.new.out ≡ added [] (flat_map f xs)
    = c.in_ok-add_each.ensures ∙ ap (λ (z : List Label). added z (flat_map f c.labels.result.now)) c.new-out.ensures ∙ ap (λ (z : List Label). added [] (flat_map f z)) c.labels.ensures in
    let two : c.add_each-2.new.out ≡ added c.add_each.new.out (flat_map f ys)
    = c.in_ok-add_each-2.ensures ∙ ap (λ (z : List Label). added c.add_each.new.out (flat_map f z)) c.labels-2.ensures in
    let all : c.add_each-2.new.out ≡ added [] (flat_map f (near g t))
    = then_two [] c.add_each.new.out c.add_each-2.new.out (flat_map f xs) (flat_map f ys) one two ∙ ap (added []) (sym (flat_map-append f xs ys)) in
    IfOk-weaker c.into_vec.result (λ v. v.items ≡ c.add_each-2.new.out) (λ v. v.items ≡ added [] (flat_map f (near g t))) (λ v e. e ∙ all) c.into_vec.ensures

use Rattle.std.proofs.Common.{◌≡◌, List, ◌+◌, drop, option_map, ap, sym, ◌∙◌, arith}
use Rattle.gn_dependencies.proofs.Drops.{drop_next}
use Rattle.gn_labels.specs.declared.label.Label.{Label}
use Rattle.gn_labelled.specs.Graphs.{shape_of}
use Rattle.gn_records.specs.declared.inherited.Inherited.{Inherited}
use Rattle.gn_resolve.specs.Table.{known_in, with_library, with_libraries}
use Rattle.gn_resolve.proofs.libraries.taken.Goals as goal

pub loop-label-init : goal.loop-label-init
loop-label-init c = ap (λ (h : Inherited). with_libraries c.args.graph.now.items c.args.graph.now.records h c.args.labels.now) (sym c.nothing-out.ensures)

pub loop-label-preserved : goal.loop-label-preserved
loop-label-preserved c =
    let items = c.args.graph.now.items in
    let r = c.args.graph.now.records in
    let labels = c.args.labels.now in
    let i = c.loop-label.label-index in
    let out = c.loop-label.out in
    let x = c.label-item.result in
    let n : c.add_library.new.out ≡ with_library ((shape_of items).kind x) out (known_in r x)
    = c.in_ok-add_library.ensures ∙ ap (λ k. with_library k out (option_map (λ r. r.now) c.get.result)) c.kind.ensures ∙ ap (with_library ((shape_of items).kind x) out) c.get.ensures in
    c.loop-label.invariant ∙ ap (λ (z : List Label). with_libraries items r out z) (drop_next labels i x (omega arith) c.label-item.is)
    ∙ ap (λ (h : Inherited). with_libraries items r h (drop (i + 1) labels)) (sym n)

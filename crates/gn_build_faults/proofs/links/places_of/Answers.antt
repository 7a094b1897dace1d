use Rattle.std.proofs.Common.{ℕ, Option, refl, sym, ◌∙◌}
use Rattle.gn_basics.proofs.Results.{if_ok}
use denote.Param.Send.{sendable}
use Rattle.gn_labels.specs.declared.label.Label.{Label}
use Rattle.gn_labelled.specs.Index.{place_of}
use Rattle.gn_threads.proofs.Shown.{shown}
use Rattle.gn_build_faults.proofs.Linked.{map_same}
use Rattle.gn_build_faults.proofs.links.places_of.Goals as goal

pub deal-requires-sync-F : goal.deal-requires-sync-F
deal-requires-sync-F g c κs within = search (c.items_are_shared.ensures.finding, sendable) depth 20

pub returns : goal.returns
returns g c =
    let meant = λ (label : Label). place_of label c.args.items.now in
    if_ok c.deal.result
    (λ all made. sym (map_same all.items) ∙ shown (λ (place : Option ℕ). place) meant _ c.args.labels.now all.items refl made.0 made.1 (λ place y d within is. is d))
    c.deal.ensures

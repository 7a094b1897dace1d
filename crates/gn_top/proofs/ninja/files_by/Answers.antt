use Rattle.std.proofs.Common.{◌≡◌, List, None, true, sym, subst}
use Rattle.gn_labels.specs.declared.label.Label.{Label}
use Rattle.gn_dependencies.specs.Lists.{has}
use Rattle.gn_labelled.specs.Graphs.{shape_of}
use Rattle.gn_resolve.specs.Whole.{AllEnd}
use Rattle.gn_resolved_meant.specs.Laws.{IsClosed}
use Rattle.gn_toolchains.specs.Frames.{surroundings}
use Rattle.gn_build_faults.specs.Labels.{fault_of_labels}
use Rattle.gn_build_faults.specs.Reaching.{targets_of}
use Rattle.gn_top.proofs.ninja.files_by.Goals as goal

pub ninja_files-requires-clause-closed : goal.ninja_files-requires-clause-closed
ninja_files-requires-clause-closed g c = λ l lives.
    subst (IsClosed (shape_of c.args.items.now)) (sym c.requires.targets)
    (c.targets_have_their_dependencies.ensures.closed (surroundings c.args.surroundings).default c.args.items.now c.args.generated.now)

pub ninja_files-requires-clause-ends : goal.ninja_files-requires-clause-ends
ninja_files-requires-clause-ends g c = λ l lives.
    let s = surroundings c.args.surroundings in
    let items = c.args.items.now in
    let closed = c.targets_have_their_dependencies.ensures.closed s.default items c.args.generated.now in
    let none = subst (λ (ts : List Label). fault_of_labels s items ts ≡ None) c.requires.targets c.requires.faultless in
    subst (AllEnd items) (sym c.requires.targets)
    (λ t h. c.faultless_targets_can_be_resolved.ensures s items (targets_of s.default items c.args.generated.now) closed none t h)

pub ninja_files-requires-clause-among : goal.ninja_files-requires-clause-among
ninja_files-requires-clause-among g c = λ l lives t h.
    subst (λ (ts : List Label). has ts t ≡ true) (sym c.requires.targets)
    (c.targets_have_their_dependencies.ensures.generated (surroundings c.args.surroundings).default c.args.items.now c.args.generated.now t h)

use Rattle.std.proofs.Common.{◌≡◌, ◌<◌, ◌∙◌, length, Ok, refl, sym, ap, arith}
use Rattle.std.proofs.lemmas.List.{get_or-set_same}
use Rattle.gn_values.specs.Val.{depth_of, scope_depth, vscope, binds_of}
use Rattle.gn_values.specs.Limits.{max_depth}
use Rattle.gn_values.specs.Assigning.{combined}
use Rattle.gn_values.specs.View.{val_of, entries_in}
use Rattle.gn_values.proofs.Sorted.{place_at}
use Rattle.gn_values.proofs.Setting.{keeps_replaced}
use Rattle.gn_values.proofs.Elements.{entry_change_known, entry_shallow, found_at, within_at, changed_at, unchanged_at}
use Rattle.gn_values.proofs.Assigned.{put_shallow, entry_ok, entry_refused}
use Rattle.gn_values.proofs.value.elements.combine_among_entries.Goals as goal

pub combine_element-requires : goal.combine_element-requires
combine_element-requires c =
    let place = place_at c.args.name.now c.args.entries.now.items c.args.at c.requires.there in
    let found = found_at c.args.name.now _ _ _ _ c.index_mut.result.now refl refl c.requires.kept.limits.sorted place c.index_mut.ensures.value in
    entry_shallow c.args.entries.now.items c.args.entries.now.items c.args.name.now c.index_mut.result.now.value c.index_mut.result.now.value _ 0 0 found c.requires.kept

pub depth_of_changed_entries-requires-clause-before : goal.depth_of_changed_entries-requires-clause-before
depth_of_changed_entries-requires-clause-before c =
    let place = place_at c.args.name.now c.args.entries.now.items c.args.at c.requires.there in
    let found = found_at c.args.name.now _ _ _ _ c.index.result.now refl refl c.requires.kept.limits.sorted place c.index.ensures in
    let shallow = entry_shallow c.args.entries.now.items c.args.entries.now.items c.args.name.now c.index.result.now.value c.index.result.now.value _ 0 0 found c.requires.kept in
    omega (arith, c.depth-before.ensures.value)

pub depth_of_changed_entries-requires-clause-known : goal.depth_of_changed_entries-requires-clause-known
depth_of_changed_entries-requires-clause-known c =
    let place = place_at c.args.name.now c.args.entries.now.items c.args.at c.requires.there in
    let found = found_at c.args.name.now _ _ _ _ c.index.result.now refl refl c.requires.kept.limits.sorted place c.index.ensures in
    let changed = changed_at c.args.name.now _ _ _ _ c.index_mut.result.now refl refl c.requires.kept.limits.sorted place c.index_mut.ensures.value c.combine_element.new.self in
    let within : c.args.at < length c.args.entries.now.items = within_at c.args.name.now _ _ _ _ c.index.result.now refl refl c.requires.kept.limits.sorted place c.index.ensures in
    let new : val_of c.index-in-Ok.result.now.value ≡ val_of c.combine_element.new.self = ap (λ e. val_of e.value) (c.index-in-Ok.ensures ∙ get_or-set_same _ _ _ _ within) in
    rw c.as_slice.ensures.value
    (entry_change_known _ _ c.args.name.now c.index.result.now.value c.combine_element.new.self _ _ _ found changed c.requires.kept c.depth-before.ensures.value (c.depth-after.ensures.value ∙ ap depth_of new))

pub returns-in-Ok-clause-ok : goal.returns-in-Ok-clause-ok
returns-in-Ok-clause-ok c =
    let place = place_at c.args.name.now c.args.entries.now.items c.args.at c.requires.there in
    let found = found_at c.args.name.now _ _ _ _ c.index_mut.result.now refl refl c.requires.kept.limits.sorted place c.index_mut.ensures.value in
    let changed = changed_at c.args.name.now _ _ _ _ c.index_mut.result.now refl refl c.requires.kept.limits.sorted place c.index_mut.ensures.value c.combine_element.new.self in
    entry_ok (entries_in c.args.entries.now.items) c.args.name.now (val_of c.index_mut.result.now.value) (val_of c.args.value) c.args.op c.requires.kept.limits found (val_of c.combine_element.new.self) c.in-Ok.ensures.ok
    ∙ ap (λ bs. Ok (vscope (binds_of bs))) (sym changed)

pub returns-in-Ok-clause-kept : goal.returns-in-Ok-clause-kept
returns-in-Ok-clause-kept c =
    let place = place_at c.args.name.now c.args.entries.now.items c.args.at c.requires.there in
    let changed = changed_at c.args.name.now _ _ _ _ c.index_mut.result.now refl refl c.requires.kept.limits.sorted place c.index_mut.ensures.value c.combine_element.new.self in
    let shallow : depth_of (val_of c.combine_element.new.self) < max_depth = put_shallow (combined c.args.op (val_of c.index_mut.result.now.value) (val_of c.args.value)) _ c.in-Ok.ensures.ok in
    keeps_replaced _ _ c.args.name.now (val_of c.combine_element.new.self) _ _ c.requires.kept changed shallow
    (c.depth_of_changed_entries.ensures ∙ ap (λ es. scope_depth (entries_in es)) c.as_slice.ensures.value)

pub returns-in-Err-clause-refused : goal.returns-in-Err-clause-refused
returns-in-Err-clause-refused c = λ h.
    let place = place_at c.args.name.now c.args.entries.now.items c.args.at c.requires.there in
    let found = found_at c.args.name.now _ _ _ _ c.index_mut.result.now refl refl c.requires.kept.limits.sorted place c.index_mut.ensures.value in
    entry_refused (entries_in c.args.entries.now.items) c.args.name.now (val_of c.index_mut.result.now.value) (val_of c.args.value) c.args.op c.requires.kept.limits found c.in-Err.error (c.in-Err.ensures.refused h)

pub returns-in-Err-clause-err : goal.returns-in-Err-clause-err
returns-in-Err-clause-err c =
    let place = place_at c.args.name.now c.args.entries.now.items c.args.at c.requires.there in
    unchanged_at c.args.name.now _ _ _ _ c.index_mut.result.now refl refl c.requires.kept.limits.sorted place c.index_mut.ensures.value c.combine_element.new.self c.in-Err.ensures.err

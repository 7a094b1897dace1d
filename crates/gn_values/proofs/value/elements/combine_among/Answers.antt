use Rattle.std.proofs.Common.{◌≡◌, ◌<◌, ◌∙◌, length, ap, refl, arith}
use Rattle.std.proofs.Math.Seq.{map-set_same}
use Rattle.std.proofs.lemmas.List.{get_or-set_same}
use Rattle.gn_values.specs.Val.{depth_of, list_depth}
use Rattle.gn_values.specs.Limits.{max_depth}
use Rattle.gn_values.specs.Assigning.{combined}
use Rattle.gn_values.specs.View.{val_of, vals_in}
use Rattle.gn_values.proofs.Elements.{item_change_known, item_shallow, keeps_set, within_items}
use Rattle.gn_values.proofs.Assigned.{put_shallow, item_ok_there, item_refused_there}
use Rattle.gn_values.proofs.value.elements.combine_among.Goals as goal

pub combine_element-requires : goal.combine_element-requires
combine_element-requires c =
    let within : c.args.index < length c.args.items.now.items = within_items _ _ _ refl c.requires.within in
    item_shallow _ _ c.index_mut.result.now c.index_mut.result.now _ 0 0 0 within c.index_mut.ensures.value c.requires.kept

pub depth_of_changed_items-requires-clause-before : goal.depth_of_changed_items-requires-clause-before
depth_of_changed_items-requires-clause-before c =
    let within : c.args.index < length c.args.items.now.items = within_items _ _ _ refl c.requires.within in
    let shallow = item_shallow _ _ c.index.result.now c.index.result.now _ 0 0 0 within c.index.ensures c.requires.kept in
    omega (arith, c.depth-before.ensures.value)

pub depth_of_changed_items-requires-clause-known : goal.depth_of_changed_items-requires-clause-known
depth_of_changed_items-requires-clause-known c =
    let within : c.args.index < length c.args.items.now.items = within_items _ _ _ refl c.requires.within in
    let new : c.index-in-Ok.result.now ≡ c.combine_element.new.self = c.index-in-Ok.ensures ∙ get_or-set_same _ _ _ _ within in
    rw c.as_slice.ensures.value
    (item_change_known _ _ c.index.result.now c.combine_element.new.self _ 0 _ _ within c.index.ensures c.requires.kept c.depth-before.ensures.value (c.depth-after.ensures.value ∙ ap (λ v. depth_of (val_of v)) new))

pub returns-in-Ok-clause-kept : goal.returns-in-Ok-clause-kept
returns-in-Ok-clause-kept c =
    let within : c.args.index < length c.args.items.now.items = within_items _ _ _ refl c.requires.within in
    let shallow : depth_of (val_of c.combine_element.new.self) < max_depth = put_shallow (combined c.args.op (val_of c.index_mut.result.now) (val_of c.args.value)) _ c.in-Ok.ensures.ok in
    keeps_set _ _ c.index.result.now c.combine_element.new.self _ _ 0 0 within c.index.ensures c.requires.kept shallow
    (c.depth_of_changed_items.ensures ∙ ap (λ xs. list_depth (vals_in xs)) c.as_slice.ensures.value)

pub returns-in-Ok-clause-ok : goal.returns-in-Ok-clause-ok
returns-in-Ok-clause-ok c =
    let within : c.args.index < length c.args.items.now.items = within_items _ _ _ refl c.requires.within in
    (item_ok_there c.args.items.now.items c.args.index c.index_mut.result.now (val_of c.args.value) c.args.op c.args.depth c.requires.kept within c.index_mut.ensures.value c.combine_element.new.self c.in-Ok.ensures.ok)

pub returns-in-Err-clause-refused : goal.returns-in-Err-clause-refused
returns-in-Err-clause-refused c = λ h.
    let within : c.args.index < length c.args.items.now.items = within_items _ _ _ refl c.requires.within in
    (item_refused_there c.args.items.now.items c.args.index c.index_mut.result.now (val_of c.args.value) c.args.op c.args.depth c.requires.kept within c.index_mut.ensures.value c.in-Err.error (c.in-Err.ensures.refused h))

pub returns-in-Err-clause-err : goal.returns-in-Err-clause-err
returns-in-Err-clause-err c =
    map-set_same val_of _ _ _ c.index_mut.result.now (c.in-Err.ensures.err ∙ ap val_of c.index_mut.ensures.value)

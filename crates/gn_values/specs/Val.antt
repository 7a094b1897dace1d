-- The values that contracts see, as `gn_value_model` says them.
pub use Rattle.gn_value_model.specs.Val.{Val, vbool, vint, vstr, vlist, vscope, Vals, no_vals, val_then, Binds, no_binds, bind_then, vals_of, list_of, binds_of, entries_of, depth_of, deepest_item, deepest_entry, list_depth, scope_depth, names_of, IsSortedByName}

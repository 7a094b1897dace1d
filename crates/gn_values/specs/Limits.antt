-- How large values may be, as `gn_value_model` says it.
pub use Rattle.gn_value_model.specs.Limits.{max_depth, max_items, max_bytes, text_fits, list_fits, scope_fits, IsList, IsScope}

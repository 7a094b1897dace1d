-- Whether two values are equal, as `gn_value_model` says it.
pub use Rattle.gn_value_model.specs.Equal.{equals, all_equal, entries_equal}

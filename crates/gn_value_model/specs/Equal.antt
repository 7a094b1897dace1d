-- Whether two values are equal: they are of one type, and their content is equal.
use Rattle.std.specs.Prelude.{Bool, true, false, not, ◌&&◌, if◌then◌else◌}
use Rattle.std.specs.Ordering.{int_eq}
use Rattle.std.specs.Str.{bytes_eq}
use Rattle.gn_value_model.specs.Val.{Val, vbool, vint, vstr, vlist, vscope, Vals, no_vals, val_then, Binds, no_binds, bind_then}

abbrev mutual
  pub equals : Val → Val → Bool
  equals (vbool a) (vbool b) = if a then b else not b
  equals (vint a) (vint b) = int_eq a b
  equals (vstr s) (vstr t) = bytes_eq s t
  equals (vlist vs) (vlist ws) = all_equal vs ws
  equals (vscope bs) (vscope cs) = entries_equal bs cs
  equals _ _ = false

  pub all_equal : Vals → Vals → Bool
  all_equal no_vals no_vals = true
  all_equal (val_then v vs) (val_then w ws) = equals v w && all_equal vs ws
  all_equal _ _ = false

  pub entries_equal : Binds → Binds → Bool
  entries_equal no_binds no_binds = true
  entries_equal (bind_then m v bs) (bind_then n w cs) = bytes_eq m n && (equals v w && entries_equal bs cs)
  entries_equal _ _ = false

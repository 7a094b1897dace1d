use Rattle.std.proofs.Common.{◌≡◌, [], drop, map}
use Rattle.gn_values.specs.View.{val_of}
use Rattle.gn_define.specs.Files.{subst_as}
use Rattle.gn_define.specs.Reading.{all_read}
use Rattle.gn_define.proofs.strings.substs_in.Given as goal

abbrev pub invariant-loop-value : goal.invariant-loop-value
invariant-loop-value l =
    all_read (subst_as l.fn.place l.fn.form l.fn.sources) l.made.items (map val_of (drop l.value-index l.values)) ≡ all_read (subst_as l.fn.place l.fn.form l.fn.sources) [] (map val_of l.values)

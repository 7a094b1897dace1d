use Rattle.std.proofs.Common.{◌≡◌, [], drop, map}
use Rattle.gn_values.specs.View.{val_of}
use Rattle.gn_define.specs.Reading.{text_in, all_read}
use Rattle.gn_define.proofs.strings.texts_in.Given as goal

abbrev pub invariant-loop-value : goal.invariant-loop-value
invariant-loop-value l =
    all_read (text_in l.fn.place l.fn.form) l.made.items (map val_of (drop l.value-index l.values)) ≡ all_read (text_in l.fn.place l.fn.form) [] (map val_of l.values)

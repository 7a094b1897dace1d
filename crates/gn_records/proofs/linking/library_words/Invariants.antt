use Rattle.std.proofs.Common.{◌≡◌, take}
use Rattle.std.specs.List.{flat_map}
use Rattle.gn_records.specs.Flags.{lib_words}
use Rattle.gn_records.proofs.linking.library_words.Given as goal

abbrev pub invariant-loop-text : goal.invariant-loop-text
invariant-loop-text l = l.words ≡ flat_map (lib_words l.build l.switch) (take l.text-index l.texts)

-- How a fault is printed.
use Rattle.std.specs.Prelude.{ℕ, List, [], ◌∷◌, ◌++◌, codes, decimal}
use Rattle.std.specs.declared.option.Option.{Option}
use Rattle.std.specs.declared.option.Option.TheVariants.{None, Some}
use Rattle.gn_paths.specs.declared.place.Place.{Place}
use Rattle.gn_faults.specs.declared.fault.Fault.{Fault}
use Rattle.gn_faults.specs.Texts.{text_of}

-- the place behind the word `ERROR`, if there is one
abbrev pub place_text : Option Place → List ℕ
place_text None = []
place_text (Some place) = codes " at " ++ (place.file ++ (58 ∷ (decimal place.line ++ (58 ∷ decimal place.column))))

-- the line of a fault
unfoldable pub printed : Fault → List ℕ
printed fault = codes "ERROR" ++ (place_text fault.place ++ (codes ": " ++ (text_of fault.code fault.detail ++ 10 ∷ [])))

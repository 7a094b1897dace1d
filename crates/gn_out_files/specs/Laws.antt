-- What the laws of files speak of.
use Rattle.std.specs.Prelude.{◌≡◌, ℕ, Bool, false, List, [], ◌∷◌}
use Rattle.std.specs.Str.{bytes_eq}
use Rattle.gn_outside.specs.Lists.{Each}
use Rattle.gn_outside.specs.States.{PutFile}
use Rattle.gn_out_files.specs.Files.{stands_behind}

-- whether a file is at a path
abbrev pub is_at : List ℕ → PutFile → Bool
is_at path file = bytes_eq file.0 path

-- none stands behind one that comes later
abbrev pub AreInOrder : List PutFile → Type 0
AreInOrder [] = Unit {0}
AreInOrder (f ∷ fs) = Each (λ (g : PutFile). stands_behind f g ≡ false) fs × AreInOrder fs

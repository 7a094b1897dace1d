-- Lists of labels with later repeats dropped.
use Rattle.std.specs.Prelude.{List, [], ◌∷◌, ◌++◌, Bool, false, cond, ◌||◌, ◌&&◌}
use Rattle.std.specs.Str.{bytes_eq}
use Rattle.std.specs.List.{list_any}
use Rattle.gn_labels.specs.declared.label.Label.{Label}

-- whether two labels are equal
unfoldable pub same_label : Label → Label → Bool
same_label a b = bytes_eq a.dir b.dir && (bytes_eq a.name b.name && bytes_eq a.toolchain b.toolchain)

-- whether the list has the label
abbrev pub has : List Label → Label → Bool
has xs q = list_any (same_label q) xs

-- the labels that weren't seen before, each at its first place
abbrev pub kept : (Label → Bool) → List Label → List Label
kept seen [] = []
kept seen (x ∷ xs) = cond (seen x) (kept seen xs) (x ∷ kept (λ y. seen y || same_label y x) xs)

-- the list, later repeats dropped
abbrev pub firsts : List Label → List Label
firsts xs = kept (λ _. false) xs

-- the list, with those of others that it lacks at its end
abbrev pub added : List Label → List Label → List Label
added out xs = out ++ kept (has out) xs

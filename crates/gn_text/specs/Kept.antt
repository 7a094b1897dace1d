-- How a table keeps its names.
use Rattle.std.specs.Prelude.{ℕ, List, map}
use Rattle.std.specs.List.{IsDistinct}
use Rattle.std.specs.Str.{bytes_eq}
use Rattle.gn_text.specs.Marks.{AllMarked}
use Rattle.gn_text.specs.declared.names.Names.TheInside.{Inside}

-- the bytes of each name, in order
abbrev pub texts_of : Inside → List (List ℕ)
texts_of a = map (λ v. v.items) a.texts.keys

-- no key of the set is equal to another, and the mark of each is there
pub record KeepsNames (a : Inside) : Type 0 where
  pub distinct : IsDistinct (λ x y. bytes_eq x.items y.items) a.texts.keys
  pub marked : AllMarked a.marks (texts_of a)

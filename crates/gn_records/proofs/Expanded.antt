-- What stands for a substitution at a position, by the first of the position's substitutions that has its name.
use Rattle.std.proofs.Common.{◌≡◌, ℕ, suc, ◌+◌, Bool, true, false, List, [], ◌∷◌, Option, None, Some, if◌then◌else◌, map, option_map, slice_get, refl, ap, ◌∙◌, arith}
use Rattle.std.proofs.lemmas.Option.{slice_get-map}
use Rattle.std.specs.Str.{bytes_eq}
use Rattle.gn_substs.specs.declared.names.Substitution.{Substitution}
use Rattle.gn_substs.specs.declared.positions.Position.{Position}
use Rattle.gn_substs.specs.Expansions.{place_in, or_nothing, text_in}
use Rattle.gn_substs.specs.Names.{substitution_name}
use Rattle.gn_substs.specs.Positions.{names_at, first_named}

placed_by : (b : Bool) (n : Substitution) (more : List Substitution) (place : ℕ) (first : Option Substitution) → slice_get more place ≡ first → slice_get (n ∷ more) (if b then 0 else 1 + place) ≡ (if b then Some n else first)
placed_by true n more place first e = refl
placed_by false n more place first e = let next : 1 + place ≡ suc place = omega arith in rw next e

-- at its place stands the first that has its name
placed : (names : List Substitution) (s : Substitution) → slice_get names (place_in names s) ≡ first_named names (substitution_name s)
placed [] s = refl
placed (n ∷ more) s = placed_by (bytes_eq (substitution_name n) (substitution_name s)) n more (place_in more s) (first_named more (substitution_name s)) (placed more s)

pub text_at : (position : Position) (text : Substitution → List ℕ) (s : Substitution) → text_in (position, map text (names_at position)) s ≡ or_nothing (option_map text (first_named (names_at position) (substitution_name s)))
text_at position text s = ap or_nothing (slice_get-map text (names_at position) (place_in (names_at position) s) ∙ ap (option_map text) (placed (names_at position) s))

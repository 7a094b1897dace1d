-- Names that one place alone may use: a fault at each use of a name but the first one.
use Rattle.std.specs.Prelude.{ℕ, Bool, true, false, List, [], ◌∷◌, ◌&&◌, ◌||◌, Option, Some, None, option_map, if◌then◌else◌, map}
use Rattle.std.specs.Borrow.{Bor}
use Rattle.std.specs.List.{filter, list_any}
use Rattle.std.specs.declared.cmp.Ordering.{Ordering}
use Rattle.std.specs.Ordering.{nat_cmp, ordering_then, is_lt}
use Rattle.std.specs.Str.{bytes_eq}
use Rattle.std.specs.Cmp.Lexicographic.{slice_cmp}
use Rattle.indexmap.specs.IndexMap.{IndexMap, get_by}
use Rattle.gn_paths.specs.declared.place.Place.{Place}
use Rattle.gn_faults.specs.declared.code.Code.{Code}
use Rattle.gn_faults.specs.declared.fault.Fault.{Fault}
use Rattle.gn_faults.specs.declared.stage.Stage.TheVariants.{Graph}
use Rattle.gn_imports.specs.Causes.{place_cmp}
use Rattle.gn_file_faults.specs.declared.uses.NameUse.{NameUse}

-- A place that uses a name: a build argument that is declared there, or a path that is written. The toolchain is the empty text for the default one. The
-- number tells uses apart that are else alike, the lesser one first. A name is taken where something else has it, so that no place may use it.
pub record Use : Type 0 where
  pub name : List ℕ
  pub toolchain : List ℕ
  pub place : Place
  pub number : ℕ
  pub is_taken : Bool

-- uses go by toolchain, the default one first, then by place, and then by number
abbrev pub use_cmp : Use → Use → Ordering
use_cmp a b = ordering_then (slice_cmp nat_cmp a.toolchain b.toolchain) (ordering_then (place_cmp a.place b.place) (nat_cmp a.number b.number))

abbrev pub is_before : Use → Use → Bool
is_before a b = is_lt (use_cmp a b)

-- whether one use of the name stands before another
abbrev pub stands_behind : Use → Use → Bool
stands_behind a other = bytes_eq other.name a.name && is_before other a

-- whether a use is one too many
abbrev pub is_again : List Use → Use → Bool
is_again all a = a.is_taken || list_any (stands_behind a) all

-- the fault of a use, whose detail is the name
abbrev pub use_fault : Code → Use → Fault
use_fault code a = record { stage = Graph; place = Some a.place; toolchain = a.toolchain; code = code; detail = a.name ∷ [] }

-- a fault at each use that is one too many
unfoldable pub again_faults : Code → List Use → List Fault
again_faults code all = map (use_fault code) (filter (is_again all) all)

-- The same by the first use of each name: a use is one too many that stands behind it

-- whether a use stands before one that may have been found before
abbrev pub is_earlier : Option Use → Use → Bool
is_earlier None a = true
is_earlier (Some found) a = is_before a found

-- the first of the two
abbrev pub earlier : Option Use → Use → Option Use
earlier found a = if is_earlier found a then Some a else found

-- the first use of a name, behind one that may have been found before
abbrev pub first_from : List ℕ → Option Use → List Use → Option Use
first_from name found [] = found
first_from name found (a ∷ rest) = first_from name (if bytes_eq a.name name then earlier found a else found) rest

-- whether a use stands behind the first one, if there is one
abbrev pub stands_after : Option Use → Use → Bool
stands_after None a = false
stands_after (Some first) a = is_before first a

-- what the code has of a use
abbrev pub meant : NameUse → Use
meant a = record { name = a.name.now; toolchain = a.toolchain.now; place = a.place.now; number = a.number; is_taken = a.is_taken }

-- whether a key is the name
abbrev pub is_name : List ℕ → Bor (List ℕ) → Bool
is_name name key = bytes_eq name key.now

-- the use that a map has of a name
abbrev pub first_in : {S : Type 0} → IndexMap (Bor (List ℕ)) NameUse S → List ℕ → Option Use
first_in firsts name = option_map meant (get_by (is_name name) firsts)

-- whether a use is one too many, by the first use of each name
abbrev pub is_again_in : {S : Type 0} → IndexMap (Bor (List ℕ)) NameUse S → Use → Bool
is_again_in firsts a = a.is_taken || stands_after (first_in firsts a.name) a

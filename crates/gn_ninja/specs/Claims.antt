-- Which names targets may have besides their done files.
use Rattle.std.specs.Prelude.{ℕ, ◌≡◌, Bool, true, false, not, ◌&&◌, ◌||◌, List, [], ◌∷◌, ◌++◌, Option, None, Some, drop, map}
use Rattle.std.specs.List.{list_any, flat_map, filter}
use Rattle.std.specs.Str.{bytes_eq}
use Rattle.gn_paths.specs.Components.{two_slashes}
use Rattle.gn_paths.specs.Parts.{file_of}
use Rattle.gn_ninja.specs.declared.phony.Claim.{Claim}
use Rattle.gn_labels.specs.declared.label.Label.{Label}
use Rattle.gn_ninja.specs.declared.claims.Claimant.{Claimant as Lent}
use Rattle.gn_ninja.specs.declared.claims.Repeated.{Repeated}
use Rattle.gn_ninja.specs.declared.claims.Class.{Class}
use Rattle.gn_ninja.specs.declared.claims.Class.TheVariants.{OfRoot, OfItself, OnlyExecutable, OnlyTarget, WithDirectory, OfDirectory}
use Rattle.gn_ninja.specs.declared.claims.TheConstants.{CLASSES}

-- a generated target of the default toolchain, which may have names besides its done file
pub record Claimant : Type 0 where
  pub label : Label
  pub is_executable : Bool
  pub done : List ℕ

-- the same, where it is lent
abbrev pub claimant : Lent → Claimant
claimant t = record { label = t.label.now; is_executable = t.is_executable; done = t.done.now }

abbrev pub dir_of : Claimant → List ℕ
dir_of t = t.label.dir

abbrev pub name_of : Claimant → List ℕ
name_of t = t.label.name

-- a directory of the source tree without its `//`
abbrev pub bare : List ℕ → List ℕ
bare dir = drop 2 dir

-- whether a name stands at two places of a list
abbrev pub stands_twice : List (List ℕ) → List ℕ → Bool
stands_twice [] q = false
stands_twice (n ∷ names) q = (bytes_eq q n && list_any (bytes_eq q) names) || stands_twice names q

abbrev pub names_of : List Claimant → List (List ℕ)
names_of targets = map name_of targets

abbrev pub executable_names : List Claimant → List (List ℕ)
executable_names targets = map name_of (filter (λ t. t.is_executable) targets)

-- this name, where that holds
abbrev pub name_where : Bool → List ℕ → Option (List ℕ)
name_where true name = Some name
name_where false name = None

-- the name that a target has in a class: its own where it is a target of the root directory; where its directory stands in the
-- root and has that name; where it is an executable and no other has that name; where no other target has it; its directory
-- and its own for every target; its directory where that ends in its name. The tests say which names of executables, and
-- of targets, stand twice
abbrev pub name_in : (executables targets : List ℕ → Bool) → Class → Claimant → Option (List ℕ)
name_in executables targets OfRoot t = name_where (bytes_eq (dir_of t) two_slashes) (name_of t)
name_in executables targets OfItself t = name_where (bytes_eq (bare (dir_of t)) (name_of t)) (name_of t)
name_in executables targets OnlyExecutable t = name_where (t.is_executable && not (executables (name_of t))) (name_of t)
name_in executables targets OnlyTarget t = name_where (not (targets (name_of t))) (name_of t)
name_in executables targets WithDirectory t = Some (bare (dir_of t) ++ 58 ∷ name_of t)
name_in executables targets OfDirectory t = name_where (bytes_eq (file_of (dir_of t)) (name_of t)) (bare (dir_of t))

-- the claim to a name
abbrev pub claim_to : Claimant → Option (List ℕ) → List Claim
claim_to t None = []
claim_to t (Some name) = record { name = name; done = t.done } ∷ []

-- the claims of a class, in the order of the targets
abbrev pub claims_in : (executables targets : List ℕ → Bool) → List Claimant → Class → List Claim
claims_in executables targets ts class = flat_map (λ t. claim_to t (name_in executables targets class t)) ts

-- all claims, class by class
abbrev pub claims_of : List Claimant → List Claim
claims_of ts = flat_map (claims_in (stands_twice (executable_names ts)) (stands_twice (names_of ts)) ts) CLASSES

-- whether a name is one of these
abbrev pub is_one_of : List (List ℕ) → List ℕ → Bool
is_one_of names q = list_any (bytes_eq q) names

-- these tables have the names that stand in a list, and those that stand there twice
pub record AreNoted (names once again : List (List ℕ)) : Type 0 where
  pub stand : (q : List ℕ) → is_one_of once q ≡ is_one_of names q
  pub stand_twice : (q : List ℕ) → is_one_of again q ≡ stands_twice names q

-- these are the names of the targets, and of their executables, that stand twice
pub record IsRepeated (targets : List Claimant) (r : Repeated) : Type 0 where
  pub of_targets : (q : List ℕ) → is_one_of r.targets q ≡ stands_twice (names_of targets) q
  pub of_executables : (q : List ℕ) → is_one_of r.executables q ≡ stands_twice (executable_names targets) q

-- The libraries that a linked target inherits.
use Rattle.std.specs.Prelude.{◌≡◌, ℕ, List, [], Option, Some, Bool, true, false, filter}
use Rattle.gn_labels.specs.declared.label.Label.{Label}
use Rattle.gn_labels.specs.Labels.{is_before}
use Rattle.gn_rows.specs.declared.kinds.ItemKind.{ItemKind}
use Rattle.gn_rows.specs.declared.kinds.ItemKind.TheVariants.{Group, Executable, StaticLibrary, SharedLibrary, SourceSet, LoadableModule}
use Rattle.gn_dependencies.specs.Lists.{same_label}
use Rattle.gn_dependencies.specs.Shape.{Shape, near}
use Rattle.gn_dependencies.specs.Order.{IsOrderOf}
use Rattle.gn_dependencies.specs.Walks.{IsMet}

-- the kinds whose targets are linked
abbrev pub links : Option ItemKind → Bool
links (Some Executable) = true
links (Some SharedLibrary) = true
links (Some LoadableModule) = true
links _ = false

-- the kinds that a walk goes through
abbrev pub opens : Option ItemKind → Bool
opens (Some Group) = true
opens (Some SourceSet) = true
opens (Some StaticLibrary) = true
opens _ = false

-- the kinds that a walk meets: it stops at a shared library
abbrev pub walks : Option ItemKind → Bool
walks (Some SharedLibrary) = true
walks kind = opens kind

-- the kinds that are inherited
abbrev pub is_library : Option ItemKind → Bool
is_library (Some SourceSet) = true
is_library (Some StaticLibrary) = true
is_library (Some SharedLibrary) = true
is_library _ = false

-- the targets that a walk for libraries from t meets, by public and private dependencies
abbrev pub Walked : Shape → Label → Label → Type 0
Walked g t q = IsMet (near g) (λ d. walks (g.kind d)) (λ d. opens (g.kind d)) t q

-- the walked targets in their order: at each place the least label of those all of whose dependents are placed
abbrev pub IsOrder : List ℕ → Shape → Label → List Label → Type 0
IsOrder default g t xs = IsOrderOf same_label (near g) (is_before default) (Walked g t) xs

-- the inherited libraries: the libraries among the walked targets in their order; none where the target isn't linked
abbrev pub AreLibraries : List ℕ → Shape → Label → List Label → Type 0
AreLibraries default g t ls = (xs : List Label) × IsOrder default g t xs × (ls ≡ filter (λ q. is_library (g.kind q)) xs)

abbrev pub InheritedBy : Bool → List ℕ → Shape → Label → List Label → Type 0
InheritedBy true default g t ls = AreLibraries default g t ls
InheritedBy false default g t ls = ls ≡ []

abbrev pub IsInherited : List ℕ → Shape → Label → List Label → Type 0
IsInherited default g t ls = InheritedBy (links (g.kind t)) default g t ls

-- Layers whose variables stand by the numbers of their names, and the same layers by the names themselves.
use Rattle.std.specs.Prelude.{◌≡◌, ℕ, ◌<◌, T, List, [], ◌∷◌, ◌++◌, map, length, slice_get}
use Rattle.std.specs.Option.{unwrap_or}
use Rattle.std.specs.FinMap.{is_sorted}
use Rattle.std.specs.List.{AllByRecursion}
use Rattle.std.specs.Ordering.{nat_cmp}
use Rattle.std.specs.Cmp.Lexicographic.{slice_cmp}
use Rattle.gn_text.specs.Names.{AllDifferent}
use Rattle.gn_values.specs.Tables.{Table, with_name}
use Rattle.gn_environment.specs.Layers.{VariableState, LayerState, ChainState}
use Rattle.gn_environment.specs.Chains.{is_one_of, read_unless}

-- a number as a name of a table: the words on layers serve numbers and names alike
abbrev pub key : ℕ → List ℕ
key n = n ∷ []

-- the name that a key is the number of
abbrev pub numbered_name : List (List ℕ) → List ℕ → List ℕ
numbered_name names [] = []
numbered_name names (n ∷ ns) = unwrap_or (slice_get names n) []

-- a table by numbers, by the names that these are the numbers of, in the order of their bytes
abbrev pub named : {A : Type 0} → List (List ℕ) → Table A → Table A
named names [] = []
named names (e ∷ es) = with_name (numbered_name names e.0) e.1 (named names es)

abbrev pub named_layer : List (List ℕ) → LayerState → LayerState
named_layer names layer = record layer { variables = named names layer.variables }

abbrev pub named_chain : List (List ℕ) → ChainState → ChainState
named_chain names chain = record { inner = named_layer names chain.inner; outer = map (named_layer names) chain.outer }

-- a key is the number of one of the names
abbrev pub IsNumber : List (List ℕ) → List ℕ → Type 0
IsNumber names k = (n : ℕ) × (k ≡ key n) × (n < length names)

-- the keys of a table are numbers of names, and rise
pub record IsNumbered {A : Type 0} (names : List (List ℕ)) (table : Table A) : Type 0 where
  pub numbers : AllByRecursion (λ e. IsNumber names e.0) table
  pub rise : T (is_sorted (slice_cmp nat_cmp) table)

abbrev pub IsNumberedLayer : List (List ℕ) → LayerState → Type 0
IsNumberedLayer names layer = IsNumbered names layer.variables

-- names that are all different, and layers by their numbers
pub record IsNumberedChain (names : List (List ℕ)) (chain : ChainState) : Type 0 where
  pub different : AllDifferent names
  pub inner : IsNumberedLayer names chain.inner
  pub outer : AllByRecursion (IsNumberedLayer names) chain.outer

-- the entries of a table by numbers, each with the name of its number
abbrev pub texted : {A : Type 0} → List (List ℕ) → Table A → Table A
texted names table = map (λ e. (numbered_name names e.0, e.1)) table

-- a layer by numbers, each with its name
abbrev pub texted_layer : List (List ℕ) → LayerState → LayerState
texted_layer names layer = record layer { variables = texted names layer.variables }

-- a table of names with all names of another one in front
abbrev pub IsLonger : List (List ℕ) → List (List ℕ) → Type 0
IsLonger names longer = (more : List (List ℕ)) × (longer ≡ names ++ more)

-- a layer by numbers after a read of all its names but these
abbrev pub all_read_but_named : List (List ℕ) → List (List ℕ) → LayerState → LayerState
all_read_but_named names except layer = record layer { variables = map (λ (v : List ℕ × VariableState). (v.0, read_unless (is_one_of (numbered_name names v.0) except) v.1)) layer.variables }

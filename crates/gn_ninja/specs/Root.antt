-- build.ninja.
use Rattle.std.specs.Prelude.{ℕ, Bool, true, false, List, [], ◌∷◌, ◌++◌, map, codes}
use Rattle.std.specs.Fmt.{signed_decimal}
use Rattle.gn_writing.specs.Lines.{Line, plain, a_build, a_pool, a_binding, an_indented, a_subninja, a_default}
use Rattle.gn_ninja.specs.declared.phony.Claim.{Claim}
use Rattle.gn_ninja.specs.declared.root.Pool.{Pool}
use Rattle.gn_ninja.specs.declared.root.Root.{Root as Held}
use Rattle.gn_ninja.specs.Phony.{phony_block}

-- what is known of a build when build.ninja is written: the pools that are used, the files of toolchains, the done files of the default toolchain's targets,
-- and whether one of these is `//:default`
pub record Root : Type 0 where
  pub pools : List Pool
  pub toolchains : List (List ℕ)
  pub dones : List (List ℕ)
  pub has_default : Bool

-- the same, where it is held
abbrev pub root_of : Held → Root
root_of r = record { pools = r.pools.items; toolchains = r.toolchains; dones = r.dones; has_default = r.has_default }

-- the version of the format
abbrev pub version_block : List Line
version_block = a_binding (codes "ninja_required_version") (plain (codes "1.7.2")) ∷ []

-- `pool NAME` and its depth
abbrev pub pool_block : Pool → List Line
pool_block p = a_pool p.name ∷ an_indented (codes "depth") (plain (signed_decimal p.depth)) ∷ []

-- `build all: phony DONES`
abbrev pub all_block : List (List ℕ) → List Line
all_block dones = a_build (record { outs = codes "all" ∷ []; rule = codes "phony"; ins = dones; implicit = []; order = [] }) ∷ []

-- what is made where nothing is asked for: `default` where the project has such a target
abbrev pub default_name : Bool → List ℕ
default_name true = codes "default"
default_name false = codes "all"

-- build.ninja: its pools, the files of toolchains, the names of targets, and what is made by default
abbrev pub root_blocks : Root → List (List ℕ) → List Claim → List (List Line)
root_blocks r taken claims =
    version_block
    ∷ map pool_block r.pools
    ++ map (λ file. a_subninja file) r.toolchains
    ∷ phony_block taken claims
    ∷ all_block r.dones
    ∷ (a_default (default_name r.has_default) ∷ [])
    ∷ []

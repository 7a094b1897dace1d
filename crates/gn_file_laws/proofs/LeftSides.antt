-- The left sides of the build lines of a build's files.
use Rattle.std.proofs.Common.{◌≡◌, ℕ, List, [], ◌∷◌, ◌++◌, Option, None, Some, map, codes, refl, sym, ap, ◌∙◌, append-nil}
use Rattle.std.specs.List.{flat_map}
use Rattle.std.proofs.lemmas.List.Concat.{flat_map-append}
use Rattle.gn_labels.specs.declared.label.Label.{Label}
use Rattle.gn_items.specs.declared.item.Item.{Item}
use Rattle.gn_writing.specs.declared.records.Tool.{Tool}
use Rattle.gn_writing.specs.declared.records.Written.{Written}
use Rattle.gn_writing.specs.Kinds.{target_blocks, tool_block, toolchain_blocks}
use Rattle.gn_writing.specs.Lines.{Line, a_subninja, a_default, line_outs, made}
use Rattle.gn_ninja.specs.Phony.{winners, phony_line, phony_block}
use Rattle.gn_ninja.specs.Root.{Root, pool_block, version_block, all_block, default_name, root_blocks}
use Rattle.gn_ninja.specs.Taken.{made_by_all}
use Rattle.gn_records.specs.declared.records.Record.{Record}
use Rattle.gn_resolve.specs.Resolved.{record_at}
use Rattle.gn_toolchains.specs.Toolchains.{Surroundings}
use Rattle.gn_files.specs.Files.{toolchains_used, tools_in, files_under, written_in, all_written, claimants_of, root_of, meant}
use Rattle.gn_ninja.specs.Claims.{Claimant, claims_of}
use Rattle.gn_ninja.specs.Taken.{taken_by}
use Rattle.gn_file_laws.specs.Made.{blocks_in, blocks_of_target, made_of_target, made_of_targets, blocks_of_toolchain, blocks_of_build, made_of_build}
use Rattle.gn_file_laws.proofs.Names.{names}

-- Blocks without build lines make nothing

made_behind : {A : Type 0} (block : A → List Line) → ((x : A) → flat_map line_outs (block x) ≡ []) → (xs : List A) (rest : List (List Line))
    → made (map block xs ++ rest) ≡ made rest
unfolding made
made_behind block none [] rest = refl
made_behind block none (x ∷ xs) rest = ap (λ z. z ++ made (map block xs ++ rest)) (none x) ∙ made_behind block none xs rest

subninjas_make_nothing : (files : List (List ℕ)) → flat_map line_outs (map (λ file. a_subninja file) files) ≡ []
subninjas_make_nothing [] = refl
subninjas_make_nothing (file ∷ files) = subninjas_make_nothing files

one_block : (block : List Line) → made (block ∷ []) ≡ flat_map line_outs block
unfolding made
one_block block = append-nil (flat_map line_outs block)

first_block : (block : List Line) (rest : List (List Line)) → made (block ∷ rest) ≡ flat_map line_outs block ++ made rest
unfolding made
first_block block rest = refl

pub toolchains_make_nothing : (tools : List Tool) (files : List (List ℕ)) → made (toolchain_blocks tools files) ≡ []
toolchains_make_nothing tools files =
    made_behind tool_block (λ t. refl) tools (map (λ file. a_subninja file) files ∷ [])
    ∙ one_block (map (λ file. a_subninja file) files) ∙ subninjas_make_nothing files

-- What build.ninja makes: the names of its phony lines

phony_names : (es : List (List ℕ × List ℕ)) → flat_map line_outs (map phony_line es) ≡ names es
phony_names [] = refl
phony_names (e ∷ es) = ap (λ z. e.0 ∷ z) (phony_names es)

all_alone : (r : Root) → made (all_block r.dones ∷ (a_default (default_name r.has_default) ∷ []) ∷ []) ≡ codes "all" ∷ []
unfolding made
all_alone r = refl

pub root_makes_names : (r : Root) (taken : List (List ℕ)) (claimants : List Claimant) → made (root_blocks r taken (claims_of claimants)) ≡ names (winners taken (claims_of claimants)) ++ codes "all" ∷ []
root_makes_names r taken claimants =
    let last : List (List Line) = all_block r.dones ∷ (a_default (default_name r.has_default) ∷ []) ∷ [] in
    let files : List Line = map (λ file. a_subninja file) r.toolchains in
    let behind : List (List Line) = files ∷ phony_block taken (claims_of claimants) ∷ last in
    first_block version_block (map pool_block r.pools ++ behind)
    ∙ made_behind pool_block (λ p. refl) r.pools behind
    ∙ first_block files (phony_block taken (claims_of claimants) ∷ last)
    ∙ ap (λ z. z ++ made (phony_block taken (claims_of claimants) ∷ last)) (subninjas_make_nothing r.toolchains)
    ∙ first_block (phony_block taken (claims_of claimants)) last
    ∙ ap (λ z. z ++ made last) (phony_names (winners taken (claims_of claimants)))
    ∙ ap (λ z. names (winners taken (claims_of claimants)) ++ z) (all_alone r)

-- What all files make

nothing_of : (s : Surroundings) (items : List Item) (ts : List Label) (toolchains : List (List ℕ)) (rest : List (List (List Line)))
    → flat_map made (map (blocks_of_toolchain s items ts) toolchains ++ rest) ≡ flat_map made rest
nothing_of s items ts [] rest = refl
nothing_of s items ts (x ∷ xs) rest =
    ap (λ z. z ++ flat_map made (map (blocks_of_toolchain s items ts) xs ++ rest))
    (toolchains_make_nothing (tools_in ((meant s items).around x)) (files_under s (meant s items) ts x))
    ∙ nothing_of s items ts xs rest

of_targets : (s : Surroundings) (items : List Item) (ts : List Label) → flat_map made (map (blocks_of_target s items) ts) ≡ made_of_targets s items ts
of_targets s items [] = refl
of_targets s items (t ∷ ts) = ap (λ z. made_of_target s items t ++ z) (of_targets s items ts)

-- the names that build.ninja gives by phony lines
abbrev pub taken_in : Surroundings → List Item → List Label → List (List ℕ)
taken_in s items ts = taken_by (all_written (meant s items) ts)

abbrev pub claimants_in : Surroundings → List Item → List Label → List Claimant
claimants_in s items ts = claimants_of s.default (meant s items) items ts

pub left_sides : (s : Surroundings) (items : List Item) (ts : List Label)
    → made_of_build s items ts ≡ (names (winners (taken_in s items ts) (claims_of (claimants_in s items ts))) ++ codes "all" ∷ []) ++ made_of_targets s items ts
unfolding blocks_of_build
left_sides s items ts =
    ap (λ z. z ++ flat_map made (map (blocks_of_toolchain s items ts) (toolchains_used s.default ts) ++ map (blocks_of_target s items) ts))
    (root_makes_names (root_of s (meant s items) items ts) (taken_in s items ts) (claimants_in s items ts))
    ∙ ap (λ z. (names (winners (taken_in s items ts) (claims_of (claimants_in s items ts))) ++ codes "all" ∷ []) ++ z)
    (nothing_of s items ts (toolchains_used s.default ts) (map (blocks_of_target s items) ts) ∙ of_targets s items ts)

-- What names are taken by is what targets make

pub made_nothing : made [] ≡ []
unfolding made
made_nothing = refl

by_record : (known : Option Record) → made_by_all (written_in known) ≡ made (blocks_in known)
by_record None = sym made_nothing
by_record (Some r) = append-nil (made (target_blocks r.written))

pub taken_are_made : (s : Surroundings) (items : List Item) (ts : List Label) → made_by_all (all_written (meant s items) ts) ≡ made_of_targets s items ts
taken_are_made s items [] = refl
taken_are_made s items (t ∷ ts) =
    flat_map-append (λ (w : Written). made (target_blocks w)) (written_in (record_at s items t)) (all_written (meant s items) ts)
    ∙ ap (λ z. z ++ made_by_all (all_written (meant s items) ts)) (by_record (record_at s items t))
    ∙ ap (λ z. made_of_target s items t ++ z) (taken_are_made s items ts)

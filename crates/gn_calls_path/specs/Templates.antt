-- What `process_file_template` makes of its sources.
use Rattle.std.specs.Prelude.{ℕ, List, map, Result}
use Rattle.std.specs.List.{flat_map}
use Rattle.gn_faults.specs.declared.code.Code.{Code}
use Rattle.gn_faults.specs.declared.code.Code.TheVariants.{UnknownSubstitution}
use Rattle.gn_substs.specs.declared.positions.Position.{Position}
use Rattle.gn_substs.specs.declared.positions.Position.TheVariants.{FileTemplate}
use Rattle.gn_substs.specs.declared.subst.Subst.{Subst}
use Rattle.gn_substs.specs.Expansions.{expanded}
use Rattle.gn_substs.specs.Positions.{names_at}
use Rattle.gn_substs.specs.Reading.{subst_read}
use Rattle.gn_substs.specs.Sources.{source_text}
use Rattle.gn_calls_path.specs.declared.place.Where.{Where}
use Rattle.gn_calls_path.specs.Found.{coded}
use Rattle.gn_calls_path.specs.Directories.{root_out}

-- a template without a target
abbrev pub template_at : List ℕ → Result Subst Code
template_at text = coded (λ offset. UnknownSubstitution) (subst_read FileTemplate text)

-- what stands for the substitutions of a source, whose output directories are those of the current toolchain
abbrev pub source_given : Where → List ℕ → Position × List (List ℕ)
source_given w source =
    (FileTemplate, map (source_text FileTemplate w.directory w.build (root_out w) source) (names_at FileTemplate))

-- a template with the texts of a source
abbrev pub expanded_for : Where → List ℕ → Subst → List ℕ
expanded_for w source template = expanded (source_given w source) template

-- each source with each template, the templates of the first source first
abbrev pub expanded_all : Where → List (List ℕ) → List Subst → List (List ℕ)
expanded_all w sources templates = flat_map (λ source. map (expanded_for w source) templates) sources

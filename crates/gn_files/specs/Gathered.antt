-- What is gathered of the targets of a build, each of which is looked up once.
use Rattle.std.specs.Prelude.{◌≡◌, List, map}
use Rattle.gn_labels.specs.declared.label.Label.{Label}
use Rattle.gn_ninja.specs.Claims.{claimant}
use Rattle.gn_files.specs.declared.gathering.Gathered.{Gathered}
use Rattle.gn_files.specs.declared.project.Project.{Project}
use Rattle.gn_files.specs.Files.{pool_table, all_written, claimants_of, target_out}
use Rattle.gn_files.specs.Known.{surroundings_in, known}
use Rattle.gn_files.specs.Making.{file_of}

-- what is written of targets, those of the default toolchain with their done files, and what the files of all are made of
pub record AreGathered (p : Project) (ts : List Label) (g : Gathered) : Type 0 where
  pub written : map (λ w. w.now) g.written.items ≡ all_written (known p) ts
  pub claimants : map claimant g.claimants.items ≡ claimants_of p.surroundings.default.now (known p) p.items.now ts
  pub files : map file_of g.files.items ≡ map (target_out (surroundings_in p) (known p)) ts

-- the same of all that are generated, with the pools that they and their toolchains name
pub record IsGathered (p : Project) (g : Gathered) : Type 0 where
  pub pools : g.pools.entries ≡ pool_table p.surroundings.default.now (known p) p.items.now p.targets.now
  pub targets : AreGathered p p.targets.now g

-- How an import ends in the last round, by how it ends over the answers that everything gets.
use Rattle.std.proofs.Common.{◌≡◌, ℕ, List, Some, sym, ◌∙◌, ap, ◌⊎◌, inl, inr}
use Rattle.gn_paths.specs.declared.place.Place.{Place}
use Rattle.gn_definitions.specs.Imported.{ImportState}
use Rattle.gn_faults.specs.declared.fault.Fault.{Fault}
use Rattle.gn_runs.specs.Runs.{content_of, import_of, End, ended, wrong, spoiled, needs, Run}
use Rattle.gn_imports.specs.Rounds.{Project, knowing, values, final}
use Rattle.gn_imports.specs.Causes.{Link, outcome, link_of, link}
use Rattle.gn_imports.specs.Projects.{IsProject}
use Rattle.gn_imports.specs.Laws.{without_value}
use Rattle.gn_imports.proofs.Final.{final_run, unspoiled_last, spoiled_last}

-- what an execution needs in the last round is its link
pub needs_link : (project : Project) (path : List ℕ) (l : Link) → (outcome project path).end ≡ needs (import_of l.path) l.place → link project path ≡ Some l
needs_link project path l h = ap link_of h

-- the end of an execution that this import spoils
abbrev spoiled_by : Link → End ImportState
spoiled_by l = spoiled l.path l.place

spoiled_same : (k l : Link) → Some k ≡ Some l → spoiled_by k ≡ spoiled_by l
spoiled_same k l h = let same : k ≡ l = cc in ap spoiled_by same

-- an end with a link is spoiled by it, if what has no value can't be used
without_link : (end : End ImportState) (l : Link) → link_of end ≡ Some l → without_value end ≡ spoiled l.path l.place
without_link (ended x) l h = cc
without_link (wrong fault) l h = cc
without_link (spoiled path place) l h = spoiled_same _ l h
without_link (needs (content_of path) place) l h = cc
without_link (needs (import_of path) place) l h = spoiled_same _ l h

module _ (project : Project) (is : IsProject project) where
  -- a wrong one is wrong in the last round
  pub wrong_outcome : (path : List ℕ) (fault : Fault) → (project.execute path (final project)).end ≡ wrong fault → (outcome project path).end ≡ wrong fault
  unfolding outcome
  wrong_outcome path fault h =
      ap (λ (r : Run ImportState). r.end) (sym (unspoiled_last project (project.execute path) (is.trees path) (λ q p e. cc))) ∙ h

  -- and the other way round
  pub outcome_wrong : (path : List ℕ) (fault : Fault) → (outcome project path).end ≡ wrong fault → (project.execute path (final project)).end ≡ wrong fault
  unfolding outcome
  outcome_wrong path fault h =
      ap (λ (r : Run ImportState). r.end) (final_run project (project.execute path) (is.trees path)) ∙ ap without_value h

  -- one that has ended has ended in the last round
  pub ended_outcome : (path : List ℕ) (v : ImportState) → (project.execute path (final project)).end ≡ ended v → (outcome project path).end ≡ ended v
  unfolding outcome
  ended_outcome path v h =
      ap (λ (r : Run ImportState). r.end) (sym (unspoiled_last project (project.execute path) (is.trees path) (λ q p e. cc))) ∙ h

  -- what spoils one is its link
  pub spoiled_link : (path q : List ℕ) (place : Place) → (project.execute path (final project)).end ≡ spoiled q place → link project path ≡ Some (record { path = q; place = place })
  unfolding outcome
  spoiled_link path q place h = by (spoiled_last project (project.execute path) (is.trees path) q place h)
    where
      by : ((project.execute path (knowing project (values project))).end ≡ spoiled q place) ⊎ ((project.execute path (knowing project (values project))).end ≡ needs (import_of q) place) → link project path ≡ Some (record { path = q; place = place })
      by (inl e) = ap link_of e
      by (inr e) = ap link_of e

  -- and its link is what spoils it
  pub link_spoils : (path : List ℕ) (l : Link) → link project path ≡ Some l → (project.execute path (final project)).end ≡ spoiled l.path l.place
  unfolding outcome
  link_spoils path l h =
      ap (λ (r : Run ImportState). r.end) (final_run project (project.execute path) (is.trees path))
      ∙ without_link (project.execute path (knowing project (values project))).end l h

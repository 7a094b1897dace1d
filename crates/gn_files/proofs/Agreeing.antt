-- What is looked up of the targets of a build is what is meant, where frames were made for their toolchains and they were resolved.
use Rattle.std.proofs.Common.{◌≡◌, ℕ, zero, suc, List, [], ◌∷◌, Bool, true, false, ◌||◌, Some, slice_get, All, refl, sym, ap, ◌∙◌}
use Rattle.std.proofs.lemmas.List.Elements.{All-cons, All-nil}
use Rattle.gn_labels.specs.declared.label.Label.{Label}
use Rattle.gn_dependencies.specs.Lists.{same_label, has}
use Rattle.gn_dependencies.proofs.Same.{same}
use Rattle.gn_dependencies.proofs.Has.{has_own, or_true}
use Rattle.gn_items.specs.declared.item.Item.{Item}
use Rattle.gn_toolchains.specs.declared.frames.Frames.{Frames}
use Rattle.gn_toolchains.specs.Toolchains.{Surroundings}
use Rattle.gn_toolchains.specs.Frames.{IsOver}
use Rattle.gn_toolchains.specs.Laws.{is_around, its_toolchain_is_there, the_default_one_is_there}
use Rattle.gn_resolve.specs.declared.table.Resolved.{Resolved}
use Rattle.gn_resolve.specs.Whole.{AreResolved}
use Rattle.gn_files.specs.declared.project.Project.{Project}
use Rattle.gn_files.specs.Files.{meant, files_by, files_of_build}
use Rattle.gn_files.specs.Known.{surroundings_in, looked_up, known, AreAmong, IsProject}
use Rattle.gn_files.proofs.Knowing.{SameOf, all_same}

-- what is so of the labels that a list has is so of each of its elements
had : (P : Label → Type 0) (ts : List Label) → ((t : Label) → has ts t ≡ true → P t) → All P ts
had P [] h = All-nil P
had P (t ∷ ts) h =
    All-cons P t ts (h t (has_own t ts)) (had P ts (λ u e. h u (ap (λ b. same_label u t || b) e ∙ or_true (same_label u t))))

-- a label that a list has stands at a place: at the first one, or at one of the others
placed_by : (ts : List Label) (t x : Label) (b : Bool) → same_label t x ≡ b → (b || has ts t) ≡ true
    → (has ts t ≡ true → (k : ℕ) × (slice_get ts k ≡ Some t)) → (k : ℕ) × (slice_get (x ∷ ts) k ≡ Some t)
placed_by ts t x true e i others = (zero, ap Some (sym (same t x e)))
placed_by ts t x false e i others = let p = others i in (suc p.0, p.1)

placed : (ts : List Label) (t : Label) → has ts t ≡ true → (k : ℕ) × (slice_get ts k ≡ Some t)
placed [] t h = absurd (cc h)
placed (x ∷ ts) t h = placed_by ts t x (same_label t x) refl h (placed ts t)

module _ (s : Surroundings) (items : List Item) (reached ts : List Label) (frames : Frames) (r : Resolved) (over : IsOver s items reached frames)
    (resolved : AreResolved s items reached r) (among : AreAmong ts reached) where
  same_of : (t : Label) → has ts t ≡ true → SameOf s items (looked_up frames r) (meant s items) ts t
  same_of t h =
      let p = placed reached t (among t h) in
      (is_around s items reached frames over t.toolchain (its_toolchain_is_there s.default reached p.0 t p.1), resolved t (among t h))

  -- so the files by what is looked up are those of the build
  pub files_are_meant : files_by s (looked_up frames r) items ts ≡ files_of_build s items ts
  unfolding files_of_build
  files_are_meant =
      all_same s items (looked_up frames r) (meant s items) ts (had (SameOf s items (looked_up frames r) (meant s items) ts) ts same_of)
      (is_around s items reached frames over s.default (the_default_one_is_there s.default reached))

-- the same of what the files are made of
pub project_files : (s : Surroundings) (items : List Item) (reached ts : List Label) (p : Project) → IsProject s items reached ts p → AreAmong ts reached
    → files_by (surroundings_in p) (known p) p.items.now p.targets.now ≡ files_of_build s items ts
project_files s items reached ts p is among =
    ap (λ z. files_by z (known p) p.items.now p.targets.now) is.given ∙ ap (λ z. files_by s (known p) z p.targets.now) is.items
    ∙ ap (λ z. files_by s (known p) items z) is.targets ∙ files_are_meant s items reached ts p.frames p.resolved is.over is.resolved among

-- What is set at one path.
use Rattle.std.proofs.Common.{◌≡◌, ℕ, List, Bool, true, false, refl, if◌then◌else◌}
use Rattle.std.specs.Str.{bytes_eq}
use Rattle.std.proofs.lemmas.Slice.Eq.{bytes_eq-Decides}
use Rattle.gn_imports.specs.Projects.{set_at}

-- by whether it is that path
pub set_cases : {A : Type 0} (path : List ℕ) (x : A) (f : List ℕ → A) (q : List ℕ) (P : A → Type 0) → (path ≡ q → P x) → ((path ≡ q → ⊥) → P (f q)) → P (set_at path x f q)
set_cases path x f q P here other = by (bytes_eq path q) refl
  where
    by : (b : Bool) → bytes_eq path q ≡ b → P (if b then x else f q)
    by true e = here ((bytes_eq-Decides path q).0 e)
    by false e = other (λ same. let yes_there = (bytes_eq-Decides path q).1 same in cc)

pub set_here : {A : Type 0} (path : List ℕ) (x : A) (f : List ℕ → A) → set_at path x f path ≡ x
set_here path x f = rw ((bytes_eq-Decides path path).1 refl) refl

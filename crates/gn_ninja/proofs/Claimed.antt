-- Claims are the same where the same names stand twice.
use Rattle.std.proofs.Common.{◌≡◌, ℕ, Bool, not, ◌&&◌, List, [], ◌∷◌, ◌++◌, refl, ap, ◌∙◌}
use Rattle.std.specs.List.{flat_map}
use Rattle.gn_ninja.specs.declared.claims.Class.{Class}
use Rattle.gn_ninja.specs.declared.claims.Class.TheVariants.{OfRoot, OfItself, OnlyExecutable, OnlyTarget, WithDirectory, OfDirectory}
use Rattle.gn_ninja.specs.declared.claims.TheConstants.{CLASSES}
use Rattle.gn_ninja.specs.declared.claims.Repeated.{Repeated}
use Rattle.gn_ninja.specs.Claims.{Claimant, name_of, name_where, name_in, claim_to, claims_in, claims_of, is_one_of, stands_twice, names_of, executable_names, IsRepeated}

same_name : (e f t u : List ℕ → Bool) → ((q : List ℕ) → e q ≡ f q) → ((q : List ℕ) → t q ≡ u q) → (class : Class) (c : Claimant) → name_in e t class c ≡ name_in f u class c
same_name e f t u p q OfRoot c = refl
same_name e f t u p q OfItself c = refl
same_name e f t u p q OnlyExecutable c = ap (λ (v : Bool). name_where (c.is_executable && not v) (name_of c)) (p (name_of c))
same_name e f t u p q OnlyTarget c = ap (λ (v : Bool). name_where (not v) (name_of c)) (q (name_of c))
same_name e f t u p q WithDirectory c = refl
same_name e f t u p q OfDirectory c = refl

same_flat : {A B : Type 0} (g h : A → List B) → ((x : A) → g x ≡ h x) → (xs : List A) → flat_map g xs ≡ flat_map h xs
same_flat g h e [] = refl
same_flat g h e (x ∷ xs) = ap (λ z. z ++ flat_map g xs) (e x) ∙ ap (λ z. h x ++ z) (same_flat g h e xs)

pub claims_are : (targets : List Claimant) (r : Repeated) → IsRepeated targets r → flat_map (claims_in (is_one_of r.executables) (is_one_of r.targets) targets) CLASSES ≡ claims_of targets
claims_are targets r h =
    same_flat (claims_in (is_one_of r.executables) (is_one_of r.targets) targets) (claims_in (stands_twice (executable_names targets)) (stands_twice (names_of targets)) targets)
    (λ class.
    same_flat (λ t. claim_to t (name_in (is_one_of r.executables) (is_one_of r.targets) class t)) (λ t. claim_to t (name_in (stands_twice (executable_names targets)) (stands_twice (names_of targets)) class t))
    (λ t. ap (claim_to t) (same_name (is_one_of r.executables) (stands_twice (executable_names targets)) (is_one_of r.targets) (stands_twice (names_of targets)) h.of_executables h.of_targets class t))
    targets)
    CLASSES

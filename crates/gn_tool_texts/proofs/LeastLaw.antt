-- What is told is the least of the faults.
use Rattle.std.proofs.Common.{arith, ◌≡◌, ◌≤◌, ℕ, zero, suc, List, [], ◌∷◌, Option, None, Some, slice_get, refl, ap, sym, ◌∙◌}
use Rattle.gn_paths.specs.declared.error.PathFault.{PathFault}
use Rattle.gn_paths.specs.declared.error.PathFault.TheVariants.{AboveRoot, BadPath}
use Rattle.gn_faults.specs.Numbers.{code_number}
use Rattle.gn_tool_texts.specs.Least.{least, lesser, path_code}
use Rattle.gn_tool_texts.proofs.LeastLemmas.{least_nothing, least_one, least_joined}

least_first : (x : PathFault) (xs : List PathFault) → least (x ∷ xs) ≡ lesser (Some x) (least xs)
least_first x xs = least_joined (x ∷ []) xs ∙ ap (λ (z : Option PathFault). lesser z (least xs)) (least_one x)

-- where there is no least, there is none
pub none_at_all : (xs : List PathFault) → least xs ≡ None → xs ≡ []
none_at_all [] h = refl
none_at_all (x ∷ xs) h = absurd (by x (least xs) (sym (least_first x xs) ∙ h))
  where
    by : (y : PathFault) (o : Option PathFault) → lesser (Some y) o ≡ None → ⊥
    by AboveRoot o g = cc g
    by BadPath None g = cc g
    by BadPath (Some z) g = cc g

-- the least is one of them
pub least_in : (xs : List PathFault) (f : PathFault) → least xs ≡ Some f → (k : ℕ) × (slice_get xs k ≡ Some f)
least_in [] f h = absurd (cc (sym least_nothing ∙ h))
least_in (x ∷ xs) f h = by x (least xs) (least_in xs f) (sym (least_first x xs) ∙ h)
  where
    by : (y : PathFault) (o : Option PathFault) → (o ≡ Some f → (k : ℕ) × (slice_get xs k ≡ Some f)) → lesser (Some y) o ≡ Some f → (k : ℕ) × (slice_get (y ∷ xs) k ≡ Some f)
    by AboveRoot o ih g = (0, g)
    by BadPath None ih g = (0, g)
    by BadPath (Some z) ih g = let r = ih g in (suc r.0, r.1)

-- one that leads above the root is the least
above_there : (xs : List PathFault) (k : ℕ) → slice_get xs k ≡ Some AboveRoot → least xs ≡ Some AboveRoot
above_there [] k h = absurd (cc h)
above_there (x ∷ xs) zero h = let s : x ≡ AboveRoot = cc h in least_first x xs ∙ ap (λ (z : PathFault). lesser (Some z) (least xs)) s
above_there (x ∷ xs) (suc k) h = least_first x xs ∙ ap (lesser (Some x)) (above_there xs k h) ∙ by x
  where
    by : (y : PathFault) → lesser (Some y) (Some AboveRoot) ≡ Some AboveRoot
    by AboveRoot = refl
    by BadPath = refl

-- none of them has a lesser number
abbrev number : PathFault → ℕ
number f = code_number (path_code f)

above_first : (x : PathFault) → number AboveRoot ≤ number x
unfolding code_number
above_first AboveRoot = omega arith
above_first BadPath = omega arith

pub least_below : (xs : List PathFault) (f : PathFault) → least xs ≡ Some f → (k : ℕ) (x : PathFault) → slice_get xs k ≡ Some x → number f ≤ number x
least_below xs AboveRoot h k x e = above_first x
least_below xs BadPath h k BadPath e = omega arith
least_below xs BadPath h k AboveRoot e = absurd (cc (sym h ∙ above_there xs k e))

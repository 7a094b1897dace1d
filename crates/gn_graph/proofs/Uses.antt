-- One more rule in the list of those that use a fact.
use Rattle.std.proofs.Common.{◌≡◌, ℕ, zero, suc, ◌<◌, List, [], ◌∷◌, ◌++◌, length, get_or, set, true, ap, ◌∙◌, Vec, arith}
use Rattle.std.specs.List.{slice_get}
use Rattle.std.specs.declared.alloc.Global.{Global}
use Rattle.gn_graph.specs.Clauses.{has, items_of}
use Rattle.gn_graph.proofs.Has.{has-left, has-right, has_own}

module _ (old new : Vec ℕ Global) (i : ℕ) (pushed : new.items ≡ old.items ++ i ∷ []) where
  -- each list keeps what it has
  pub kept_at : (xs : List (Vec ℕ Global)) (p : ℕ) → p < length xs → old ≡ get_or xs p old → (q j : ℕ) → has (items_of (slice_get xs q)) j ≡ true → has (items_of (slice_get (set xs p new) q)) j ≡ true
  kept_at [] p l e q j h = absurd (omega (arith, l))
  kept_at (x ∷ xs) zero l e zero j h = ap (λ (z : List ℕ). has z j) pushed ∙ has-left old.items (i ∷ []) j (ap (λ (z : Vec ℕ Global). has z.items j) e ∙ h)
  kept_at (x ∷ xs) zero l e (suc q) j h = h
  kept_at (x ∷ xs) (suc p) l e zero j h = h
  kept_at (x ∷ xs) (suc p) l e (suc q) j h = kept_at xs p (omega (arith, l)) e q j h

  -- and the one has the rule
  pub added_at : (xs : List (Vec ℕ Global)) (p : ℕ) → p < length xs → has (items_of (slice_get (set xs p new) p)) i ≡ true
  added_at [] p l = absurd (omega (arith, l))
  added_at (x ∷ xs) zero l = ap (λ (z : List ℕ). has z i) pushed ∙ has-right old.items (i ∷ []) i (has_own i [])
  added_at (x ∷ xs) (suc p) l = added_at xs p (omega (arith, l))

use Rattle.std.proofs.Common.{◌≡◌, ℕ, Bool, true, false, not, IsTrue, ◌↔◌, List, [], ◌∷◌, refl}
use Rattle.gn_values.specs.Val.{Val, vscope, binds_of}
use Rattle.gn_environment.specs.Assigning.{replaces}
use Rattle.gn_environment.specs.Invoker.{invoker_entries}
use Rattle.gn_env.proofs.env.Env.replaces_invoker.Goals as goal

scopes_replace : (bs cs : List (List ℕ × Val)) (a b : Bool) → (IsTrue a ↔ (bs ≡ [])) → (IsTrue b ↔ (cs ≡ [])) → b ≡ false → not a ≡ replaces (vscope (binds_of bs)) (vscope (binds_of cs))
scopes_replace [] cs true b p q h = cc
scopes_replace [] cs false b p q h = absurd (let e : false ≡ true = p.1 refl in cc)
scopes_replace (v ∷ bs) [] a true p q h = absurd (cc)
scopes_replace (v ∷ bs) [] a false p q h = absurd (let e : false ≡ true = q.1 refl in cc)
scopes_replace (v ∷ bs) (w ∷ cs) true b p q h = absurd (let e : v ∷ bs ≡ [] = p.0 refl in cc)
scopes_replace (v ∷ bs) (w ∷ cs) false b p q h = refl

pub returns-in_ok-block_is_empty-in-Scope : goal.returns-in_ok-block_is_empty-in-Scope
unfolding invoker_entries
returns-in_ok-block_is_empty-in-Scope c =
    rw (c.in-Scope.is, ← c.self.view_is) (scopes_replace _ c.in-Scope.entries _ _ c.in_ok-block_is_empty-in-Scope.ensures c.is_empty.ensures c.if-not-is_empty.true)

use Rattle.std.proofs.Common.{◌≡◌, ℕ, Bool, true, false, not, IsTrue, ◌↔◌, List, [], ◌∷◌, refl}
use Rattle.gn_values.specs.Val.{Val, vlist, vscope, vals_of, binds_of}
use Rattle.gn_environment.specs.Assigning.{replaces}
use Rattle.gn_layers.proofs.variable.replaces.Goals as goal

lists_replace : (vs ws : List Val) (a b : Bool) → (IsTrue a ↔ (vs ≡ [])) → (IsTrue b ↔ (ws ≡ [])) → a ≡ false → not b ≡ replaces (vlist (vals_of vs)) (vlist (vals_of ws))
lists_replace [] ws true b p q h = cc
lists_replace [] ws false b p q h = absurd (let e : false ≡ true = p.1 refl in cc)
lists_replace (v ∷ vs) [] a true p q h = refl
lists_replace (v ∷ vs) [] a false p q h = absurd (let e : false ≡ true = q.1 refl in cc)
lists_replace (v ∷ vs) (w ∷ ws) a true p q h = absurd (let e : w ∷ ws ≡ [] = q.0 refl in cc)
lists_replace (v ∷ vs) (w ∷ ws) a false p q h = refl

scopes_replace : (bs cs : List (List ℕ × Val)) (a b : Bool) → (IsTrue a ↔ (bs ≡ [])) → (IsTrue b ↔ (cs ≡ [])) → a ≡ false → not b ≡ replaces (vscope (binds_of bs)) (vscope (binds_of cs))
scopes_replace [] cs true b p q h = cc
scopes_replace [] cs false b p q h = absurd (let e : false ≡ true = p.1 refl in cc)
scopes_replace (v ∷ bs) [] a true p q h = refl
scopes_replace (v ∷ bs) [] a false p q h = absurd (let e : false ≡ true = q.1 refl in cc)
scopes_replace (v ∷ bs) (w ∷ cs) a true p q h = absurd (let e : w ∷ cs ≡ [] = q.0 refl in cc)
scopes_replace (v ∷ bs) (w ∷ cs) a false p q h = refl

pub returns-then-not-is_empty : goal.returns-then-not-is_empty
returns-then-not-is_empty c =
    let i = c.in-List-List in
    rw (i.is-0, i.is-1) (lists_replace i.old i.new _ _ c.is_empty.ensures c.is_empty-then-not-is_empty.ensures c.if-not-is_empty.true)

pub returns-then-not-is_empty-2 : goal.returns-then-not-is_empty-2
returns-then-not-is_empty-2 c =
    let i = c.in-Scope-Scope in
    rw (i.is-0, i.is-1) (scopes_replace i.old i.new _ _ c.is_empty-in-Scope-Scope.ensures c.is_empty-then-not-is_empty-2.ensures c.if-not-is_empty-2.true)

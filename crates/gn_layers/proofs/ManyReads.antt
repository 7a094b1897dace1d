-- Reads of many names of a layer.
use Rattle.std.proofs.Common.{◌≡◌, ℕ, Bool, true, false, cond, List, [], ◌∷◌, map, None, refl, ap, ◌∙◌, subst}
use Rattle.std.specs.Map.Calls.{RetainsPairs}
use Rattle.gn_environment.specs.Layers.{VariableState}
use Rattle.gn_environment.specs.Chains.{is_one_of, read_variable, read_unless}
use Rattle.gn_layers.specs.Named.{numbered_name}
use Rattle.gn_layers.specs.View.{variable_state, variables_in}
use Rattle.gn_layers.specs.declared.variable.Variable.{Variable}

-- entries that a closure kept, where it wrote g of each key and value and stayed as it was
module _ {F K X : Type 0} (T : F → K → X → Bool → X → F → Type 0) where
  pub rewritten : (g : K → X → X) (f : F) → ((k : K) (v : X) (b : Bool) (w : X) (f' : F) → T f k v b w f' → (b ≡ true) × (w ≡ g k v) × (f' ≡ f)) → (es kept : List (K × X)) → RetainsPairs T f es kept → kept ≡ map (λ (e : K × X). (e.0, g e.0 e.1)) es
  rewritten g f h [] kept r = r
  rewritten g f h (e ∷ es) kept r =
      let a = h e.0 e.1 r.0 r.1 r.2 r.4 in
      let rest = rewritten g f h es r.3 (subst (λ u. RetainsPairs T u es r.3) a.2 r.5) in
      r.6 ∙ ap (λ b. cond b ((e.0, r.1) ∷ r.3) r.3) a.0 ∙ (λ i. (e.0, a.1 i) ∷ rest i)

-- a variable after a read, and after a read of all but these, whose numbers stand for these names
abbrev pub read : Variable → Variable
read v = record v { unread = None }

abbrev pub read_but_named : List (List ℕ) → List (List ℕ) → List ℕ → Variable → Variable
read_but_named names except number v = cond (is_one_of (numbered_name names number) except) v (read v)

pub all_seen : (es : List (List ℕ × Variable)) → variables_in (map (λ (e : List ℕ × Variable). (e.0, read e.1)) es) ≡ map (λ (v : List ℕ × VariableState). (v.0, read_variable v.1)) (variables_in es)
all_seen [] = refl
all_seen (e ∷ es) = ap (λ vs. (e.0, read_variable (variable_state e.1)) ∷ vs) (all_seen es)

one_seen : (v : Variable) (b : Bool) → variable_state (cond b v (read v)) ≡ read_unless b (variable_state v)
one_seen v true = refl
one_seen v false = refl

pub but_seen : (names except : List (List ℕ)) (es : List (List ℕ × Variable)) → variables_in (map (λ (e : List ℕ × Variable). (e.0, read_but_named names except e.0 e.1)) es) ≡ map (λ (v : List ℕ × VariableState). (v.0, read_unless (is_one_of (numbered_name names v.0) except) v.1)) (variables_in es)
but_seen names except [] = refl
but_seen names except (e ∷ es) =
    λ i. (e.0, one_seen e.1 (is_one_of (numbered_name names e.0) except) i) ∷ but_seen names except es i

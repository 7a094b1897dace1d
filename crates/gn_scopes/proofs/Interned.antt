-- Layers by the numbers of a table that takes names in.
use Rattle.std.proofs.Common.{◌≡◌, ℕ, true, false, if◌then◌else◌, List, [], ◌∷◌, ◌++◌, Option, Some, None, Result, Ok, Err, IfOk, IfSome, refl, sym, ap, ◌∙◌, subst}
use Rattle.std.specs.List.{list_any}
use Rattle.std.specs.Str.{bytes_eq}
use Rattle.std.proofs.lemmas.List.{append-nil}
use Rattle.gn_text.specs.Names.{AllDifferent, with_name}
use Rattle.gn_environment.specs.Layers.{LayerState, ChainState}
use Rattle.gn_layers.specs.Named.{named_chain, IsNumberedLayer, IsNumberedChain, IsLonger}
use Rattle.gn_scopes.proofs.NamedLayers.{named_answer, chain_longer, longer_numbered}

-- a name that is lacking, by a text that it is
pub lacking_as : (names : List (List ℕ)) (text name : List ℕ) → text ≡ name → list_any (bytes_eq text) names ≡ false → list_any (bytes_eq name) names ≡ false
lacking_as names text name is h = ap (λ x. list_any (bytes_eq x) names) (sym is) ∙ h

-- layers with another innermost one
pub inner_numbered : (names : List (List ℕ)) (c : ChainState) (l : LayerState) → IsNumberedChain names c → IsNumberedLayer names l → IsNumberedChain names (record c { inner = l })
inner_numbered names c l h g = record { different = h.different; inner = g; outer = h.outer }

-- a table that takes a name in keeps its names in front
pub IsLonger-with_name : (names : List (List ℕ)) (name : List ℕ) → IsLonger names (with_name names name)
IsLonger-with_name names name =
    elim (list_any (bytes_eq name) names) as (λ b. IsLonger names (if b then names else names ++ name ∷ [])) [ true ↦ ([], sym (append-nil names)) | false ↦ (name ∷ [], refl) ]

-- layers by the numbers of a table that got longer
module _ (names new : List (List ℕ)) (longer : IsLonger names new) (different : AllDifferent new) (c : ChainState) (numbered : IsNumberedChain names c) where
  pub named_by_longer : named_chain new c ≡ named_chain names c
  named_by_longer = ap (λ ns. named_chain ns c) longer.1 ∙ chain_longer names longer.0 c numbered

  pub numbered_by_longer : IsNumberedChain new c
  numbered_by_longer =
      subst (λ ns. IsNumberedChain ns c) (sym longer.1) (longer_numbered names longer.0 c (subst AllDifferent longer.1 different) numbered)

-- layers by the numbers of a table that took a name in
module _ (names new : List (List ℕ)) (name : List ℕ) (took : new ≡ with_name names name) (different : AllDifferent new) (c : ChainState) (numbered : IsNumberedChain names c) where
  longer : IsLonger names new
  longer = let more = IsLonger-with_name names name in (more.0, took ∙ more.1)

  pub named_by_interned : named_chain new c ≡ named_chain names c
  named_by_interned = named_by_longer names new longer different c numbered

  pub numbered_by_interned : IsNumberedChain new c
  numbered_by_interned = numbered_by_longer names new longer different c numbered

-- what an answer by numbers says of the answer by names
module _ {R : Type 0} (names : List (List ℕ)) (by_number by_name : Result ChainState R) (same : by_name ≡ named_answer names by_number) where
  pub ok_by_name : (c : ChainState) → by_number ≡ Ok c → by_name ≡ Ok (named_chain names c)
  ok_by_name c h = same ∙ ap (named_answer names) h

  pub refused_by_name : (o : Option R) → IfSome o (λ r. by_number ≡ Err r) → IfSome o (λ r. by_name ≡ Err r)
  refused_by_name (Some r) h = same ∙ ap (named_answer names) h
  refused_by_name None h = tt

-- what holds of an answer's layers
pub of_ok : {R : Type 0} (P : ChainState → Type 0) (r : Result ChainState R) (c : ChainState) → IfOk r P → r ≡ Ok c → P c
of_ok P r c h e = subst (λ x. IfOk x P) e h

-- The strings of a list, gathered one by one.
use Rattle.std.proofs.Common.{◌≡◌, ℕ, Bool, true, false, List, [], ◌∷◌, ◌++◌, refl, sym, ap, ◌∙◌, append_assoc}
use Rattle.std.specs.Prelude.{if◌then◌else◌, Option, None, Some, option_map}
use Rattle.std.specs.List.{list_all}
use Rattle.std.proofs.lemmas.List.{append-nil}
use Rattle.gn_values.specs.Val.{Val, vstr}
use Rattle.gn_meaning.specs.Items.{is_string}
use Rattle.gn_meaning.specs.Selections.{texts_in}
use Rattle.gn_calls_scopes.specs.Selected.{all_texts}

-- the strings of a list behind those that are there
abbrev pub gathered : List (List ℕ) → List Val → Option (List (List ℕ))
gathered ts [] = Some ts
gathered ts (vstr t ∷ vs) = gathered (ts ++ t ∷ []) vs
gathered ts (_ ∷ vs) = None

one_more : (b : Bool) (ts : List (List ℕ)) (t : List ℕ) (rest : List (List ℕ)) → option_map (λ (r : List (List ℕ)). (ts ++ t ∷ []) ++ r) (if b then Some rest else None) ≡ option_map (λ (r : List (List ℕ)). ts ++ r) (if b then Some (t ∷ rest) else None)
one_more true ts t rest = ap Some (append_assoc ts (t ∷ []) rest)
one_more false ts t rest = refl

gathered_behind : (ts : List (List ℕ)) (vs : List Val) → gathered ts vs ≡ option_map (λ (r : List (List ℕ)). ts ++ r) (all_texts vs)
gathered_behind ts [] = ap Some (sym (append-nil ts))
gathered_behind ts (vstr t ∷ vs) = gathered_behind (ts ++ t ∷ []) vs ∙ one_more (list_all is_string vs) ts t (texts_in vs)
gathered_behind ts (_ ∷ vs) = refl

option_same : (o : Option (List (List ℕ))) → option_map (λ (r : List (List ℕ)). [] ++ r) o ≡ o
option_same None = refl
option_same (Some r) = refl

-- behind none they are the strings of the list, if it is one of strings alone
pub gathered_all : (vs : List Val) → gathered [] vs ≡ all_texts vs
gathered_all vs = gathered_behind [] vs ∙ option_same (all_texts vs)

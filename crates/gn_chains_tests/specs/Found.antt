-- What a map of labels has stands among its keys.
use Rattle.std.proofs.Common.{◌≡◌, List, [], ◌∷◌, Bool, true, false, ◌||◌, cond, Option, Some, IsSome, option_map, refl, sym, ◌∙◌}
use Rattle.std.specs.List.{list_any}
use Rattle.std.specs.Map.{lookup, keys_of}
use Rattle.gn_labels.specs.declared.label.Label.{Label}
use Rattle.gn_labels.specs.contracts.label.LabelPartialEq.TheImpl.{eq-value}
use Rattle.gn_dependencies.specs.Lists.{has}
use Rattle.gn_dependencies.proofs.SameLabel.{tie}

module _ {V W : Type 0} (f : V → W) where
  found_by : (b : Bool) (v : V) (rest : Option V) (c : Bool) → IsSome (option_map f (cond b (Some v) rest)) → (IsSome (option_map f rest) → c ≡ true) → (b || c) ≡ true
  found_by true v rest c h g = refl
  found_by false v rest c h g = g h

  found : (q : Label) (es : List (Label × V)) → IsSome (option_map f (lookup (eq-value.it q) es)) → list_any (eq-value.it q) (keys_of es) ≡ true
  found q [] h = absurd (cc h)
  found q (e ∷ es) h = found_by (eq-value.it q e.0) e.1 (lookup (eq-value.it q) es) (list_any (eq-value.it q) (keys_of es)) h (found q es)

  -- a label at which a map has something is among its keys
  pub listed : (q : Label) (es : List (Label × V)) → IsSome (option_map f (lookup (eq-value.it q) es)) → has (keys_of es) q ≡ true
  listed q es h = sym (λ i. list_any (λ k. tie q k i) (keys_of es)) ∙ found q es h

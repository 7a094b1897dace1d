-- The set of the names of a list, when one is added.
use Rattle.std.proofs.Common.{◌≡◌, ℕ, ◌+◌, ◌<◌, true, false, ◌||◌, if◌then◌else◌, List, [], ◌∷◌, ◌++◌, length, take, get_or, slice_get, Option, Some, None, IfSome, IfNone, is_some, refl, sym, ap, ◌∙◌}
use Rattle.std.specs.Str.{bytes_eq}
use Rattle.std.proofs.Math.Bool.{or-false}
use Rattle.std.proofs.lemmas.List.Folds.{list_any-append, list_any_more}
use Rattle.std.proofs.lemmas.Slice.Eq.{bytes_eq-Decides}
use Rattle.gn_text.specs.Names.{with_name}
use Rattle.gn_environment.specs.Chains.{is_one_of}
use Rattle.gn_layers.specs.NameSets.{HasAll}
use Rattle.gn_environment.proofs.Names.{not_lacking}

-- whether a name has a number is whether it is one of the names
pub has_number : (table : List (List ℕ)) (name : List ℕ) (number : Option ℕ) → IfSome number (λ n. slice_get table n ≡ Some name) → IfNone number (is_one_of name table ≡ false) → is_some number ≡ is_one_of name table
has_number table name (Some n) found lacking = sym (not_lacking table name n found)
has_number table name None found lacking = sym lacking

-- a name that is one of the names adds none
one_again : (table : List (List ℕ)) (name q : List ℕ) → is_one_of name table ≡ true → (is_one_of q table || bytes_eq q name) ≡ is_one_of q table
one_again table name q h =
    elim (bytes_eq q name) as (λ b. bytes_eq q name ≡ b → (is_one_of q table || b) ≡ is_one_of q table) [
      | true ↦ λ e. let is : is_one_of q table ≡ true = ap (λ n. is_one_of n table) ((bytes_eq-Decides q name).0 e) ∙ h in ap (λ b. b || true) is ∙ sym is
      | false ↦ λ e. or-false (is_one_of q table)
    ] refl

-- the names of a table with one more
one_more : (table : List (List ℕ)) (name q : List ℕ) → is_one_of q (with_name table name) ≡ (is_one_of q table || bytes_eq q name)
one_more table name q =
    elim (is_one_of name table) as (λ b. is_one_of name table ≡ b → is_one_of q (if b then table else table ++ name ∷ []) ≡ (is_one_of q table || bytes_eq q name)) [
      | true ↦ λ e. sym (one_again table name q e)
      | false ↦ λ e. list_any-append (bytes_eq q) table (name ∷ []) ∙ ap (λ b. is_one_of q table || b) (or-false (bytes_eq q name))
    ] refl

-- one more of the names in the table
pub has_more : (table names : List (List ℕ)) (i : ℕ) (name : List ℕ) → i < length names → name ≡ get_or names i name → HasAll table (take i names) → HasAll (with_name table name) (take (i + 1) names)
has_more table names i name l is h q =
    one_more table name q ∙ (λ j. h q j || bytes_eq q (is j)) ∙ sym (list_any_more (bytes_eq q) names i name l)

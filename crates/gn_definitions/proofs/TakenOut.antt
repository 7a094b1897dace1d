-- Names that are set where a table has nothing at them, and are taken out again.
use Rattle.std.proofs.Common.{◌≡◌, ℕ, List, [], ◌∷◌, ◌++◌, None, refl, ap, ◌∙◌}
use Rattle.std.specs.Cmp.Lexicographic.{nat_list_cmp_total}
use Rattle.gn_values.specs.Tables.{Table, at_name, with_name, without_name}
use Rattle.gn_definitions.specs.TakenOut.{without_names}
use Rattle.gn_basics.proofs.Tables.{new_gone}

pub without_names-push : {A : Type 0} (names : List (List ℕ)) (name : List ℕ) (table : Table A) → without_names (names ++ name ∷ []) table ≡ without_names names (without_name name table)
without_names-push [] name table = refl
without_names-push (n ∷ names) name table = ap (without_name n) (without_names-push names name table)

-- one more new name that is set
pub one_more_added : {A : Type 0} (names : List (List ℕ)) (name : List ℕ) (a : A) (table : Table A) → at_name name table ≡ None → without_names (names ++ name ∷ []) (with_name name a table) ≡ without_names names table
one_more_added names name a table new =
    without_names-push names name (with_name name a table) ∙ ap (without_names names) (new_gone nat_list_cmp_total name a table new)

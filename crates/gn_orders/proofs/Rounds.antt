-- The answers that everything in a project gets are in order, by its rounds.
use Rattle.std.proofs.Common.{◌≡◌, ℕ, zero, suc, List, length, Option, Some, None, refl, sym, ap, subst}
use Rattle.gn_definitions.specs.Imported.{ImportState}
use Rattle.gn_items.specs.declared.key.When.{When}
use Rattle.gn_runs.specs.Runs.{Imported, has_value, is_unusable, Answers, End, ended, wrong, spoiled, needs}
use Rattle.gn_imports.specs.Rounds.{Project, knowing, imported_of, round, values, usable, final}
use Rattle.gn_executions.specs.Base.{BaseState}
use Rattle.gn_executions.specs.Units.{import_meaning}
use Rattle.gn_orders.specs.InOrder.{IsImportInOrder, IsBaseInOrder}
use Rattle.gn_orders.specs.Laws.{FinalAnswersAreInOrder}
use Rattle.gn_orders.proofs.Executions.{IsValueInOrder, value_or_nothing, meaning_so}

-- an answer with a value is of that value
same_value : (v value : ImportState) → Some (has_value v) ≡ Some (has_value value) → IsImportInOrder v → IsImportInOrder value
same_value v value e i =
    let same : v ≡ value = ap value_or_nothing e in
    subst (λ (x : ImportState). IsImportInOrder x) same i

imported_so : (end : End ImportState) (value : ImportState) → IsValueInOrder end → imported_of end ≡ Some (has_value value) → IsImportInOrder value
imported_so (ended v) value i e = same_value v value e i
imported_so (wrong fault) value i e = cc
imported_so (spoiled path place) value i e = cc
imported_so (needs question place) value i e = cc

usable_so : (o : Option Imported) (value : ImportState) → ((v : ImportState) → o ≡ Some (has_value v) → IsImportInOrder v) → Some (usable o) ≡ Some (has_value value) → IsImportInOrder value
usable_so None value k e = cc
usable_so (Some is_unusable) value k e = cc
usable_so (Some (has_value v)) value k e = same_value v value e (k v refl)

module _ (project : Project) (base : BaseState) (when : When) (toolchain : List ℕ) (same : (path : List ℕ) (answers : Answers) → (project.execute path answers).end ≡ (import_meaning base when toolchain path answers).end) (b : IsBaseInOrder base) where
  rounds_so : (n : ℕ) (path : List ℕ) (value : ImportState) → round project n path ≡ Some (has_value value) → IsImportInOrder value
  rounds_so zero path value e = cc
  rounds_so (suc n) path value e =
      let known : Answers = knowing project (round project n) in
      imported_so (project.execute path known).end value (subst IsValueInOrder (sym (same path known)) (meaning_so base when toolchain path known b (rounds_so n))) e

pub answers_so : FinalAnswersAreInOrder
unfolding final values
answers_so project base when toolchain same b path value e =
    usable_so (values project path) value (rounds_so project base when toolchain same b (suc (length project.paths)) path) e

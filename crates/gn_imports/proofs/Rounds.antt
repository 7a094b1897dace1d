-- Rounds grow, and come to rest at the count of the files plus one.
use Rattle.std.proofs.Common.{◌≡◌, ℕ, ◌+◌, ◌-◌, ◌≤◌, ◌<◌, suc, zero, length, List, Option, Some, refl, sym, ◌∙◌, ap, subst, ◌⊎◌, inl, inr, arith, zero-add, suc-add}
use Rattle.std.proofs.lemmas.Bool.{cases_lt}
use mathlib.Core.Path.{fun_ext}
use Rattle.gn_definitions.specs.Imported.{ImportState}
use Rattle.gn_runs.specs.Runs.{is_absent, Imported, is_unusable, End, ended, wrong, spoiled, needs, Run}
use Rattle.gn_runs.specs.Laws.{Below, IsSettled}
use Rattle.gn_runs.proofs.TreeLaws.{tree_stays_settled}
use Rattle.gn_imports.specs.Rounds.{Project, knowing, imported_of, round, values}
use Rattle.gn_imports.specs.Projects.{IsOneOf, IsWrong, IsProject}
use Rattle.gn_imports.proofs.Counts.{Within, known_of, known_le, known_same}

-- an execution that leaves something is settled
pub leaves_settled : (end : End ImportState) (y : Imported) → imported_of end ≡ Some y → IsSettled end
leaves_settled (ended value) y h = tt
leaves_settled (wrong fault) y h = tt
leaves_settled (spoiled path place) y h = tt
leaves_settled (needs question place) y h = cc

wrong_leaves : (end : End ImportState) → IsWrong end → imported_of end ≡ Some is_unusable
wrong_leaves (ended value) h = absurd h
wrong_leaves (wrong fault) h = refl
wrong_leaves (spoiled path place) h = absurd h
wrong_leaves (needs question place) h = absurd h

module _ (project : Project) where
  pub knowing_below : (f g : List ℕ → Option Imported) → Within f g → Below (knowing project f) (knowing project g)
  knowing_below f g le = record { contents = λ path y e. e; imports = le }

  module _ (is : IsProject project) where
    -- what one round knows, the next one knows
    pub rounds_grow : (n : ℕ) → Within (round project n) (round project (suc n))
    rounds_grow zero path y h = cc
    rounds_grow (suc n) path y h =
        ap (λ (r : Run ImportState). imported_of r.end)
        (tree_stays_settled (project.execute path) (is.trees path) (knowing project (round project n)) (knowing project (round project (suc n)))
        (knowing_below (round project n) (round project (suc n)) (rounds_grow n))
        (leaves_settled (project.execute path (knowing project (round project n))).end y h))
        ∙ h

    -- the round is the one before it
    abbrev pub Rests : ℕ → Type 0
    Rests n = round project (suc n) ≡ round project n

    absent_known : (n : ℕ) (path : List ℕ) → project.content path ≡ is_absent → round project (suc n) path ≡ Some is_unusable
    absent_known n path e =
        wrong_leaves (project.execute path (knowing project (round project n))).end (is.absent path (knowing project (round project n)) (ap Some e))

    -- a round that knows no more of the files than the one before it is that one
    same_at : (n : ℕ) → known_of (round project (suc (suc n))) project.paths ≤ known_of (round project (suc n)) project.paths → Rests (suc n)
    same_at n c = fun_ext (λ path. at path (is.listed path))
      where
        at : (path : List ℕ) → ((project.content path ≡ is_absent) ⊎ IsOneOf path project.paths) → round project (suc (suc n)) path ≡ round project (suc n) path
        at path (inl e) = absent_known (suc n) path e ∙ sym (absent_known n path e)
        at path (inr h) = known_same (round project (suc n)) (round project (suc (suc n))) (rounds_grow (suc n)) project.paths c path h

    -- what the executions over these imports leave
    abbrev left_over : (List ℕ → Option Imported) → List ℕ → Option Imported
    left_over f path = imported_of (project.execute path (knowing project f)).end

    rest_same : (n j : ℕ) → Rests n → round project (j + n) ≡ round project n
    rest_same n zero r = rw zero-add refl
    rest_same n (suc j) r = rw suc-add (ap left_over (rest_same n j r) ∙ r)

    rests_later : (n j : ℕ) → Rests n → Rests (j + n)
    rests_later n j r = ap left_over (rest_same n j r) ∙ r ∙ sym (rest_same n j r)

    -- up to each round, either one was at rest or each has known one more of the files
    abbrev Progress : ℕ → Type 0
    Progress n = ((m : ℕ) × (m ≤ n) × Rests m) ⊎ (n ≤ known_of (round project (suc n)) project.paths)

    progress : (n : ℕ) → Progress n
    progress zero = inr (omega arith)
    progress (suc n) =
        step (progress n) (cases_lt (known_of (round project (suc n)) project.paths) (known_of (round project (suc (suc n))) project.paths))
      where
        step : Progress n
            → ((known_of (round project (suc n)) project.paths < known_of (round project (suc (suc n))) project.paths)
            ⊎ (known_of (round project (suc (suc n))) project.paths ≤ known_of (round project (suc n)) project.paths))
            → Progress (suc n)
        step (inl (m, le, r)) c = inl (m, omega (arith, le), r)
        step (inr h) (inl c) = inr (omega (arith, h, c))
        step (inr h) (inr c) = inl (suc n, omega arith, same_at n c)

    last_rests : Rests (suc (length project.paths))
    last_rests = end (progress (suc (length project.paths)))
      where
        end : Progress (suc (length project.paths)) → Rests (suc (length project.paths))
        end (inl (m, le, r)) =
            let e : (suc (length project.paths) - m) + m ≡ suc (length project.paths) = omega (arith, le) in
            subst (λ n. Rests n) e (rests_later m (suc (length project.paths) - m) r)
        end (inr h) = absurd (omega (arith, h, known_le (round project (suc (suc (length project.paths)))) project.paths))

    -- the last round is what the executions over it leave
    pub values_rest : (path : List ℕ) → imported_of (project.execute path (knowing project (values project))).end ≡ values project path
    unfolding values
    values_rest path = ap (λ (f : List ℕ → Option Imported). f path) last_rests

    below_later : (n j : ℕ) → Within (round project n) (round project (j + n))
    below_later n zero path y h = rw zero-add h
    below_later n (suc j) path y h = rw suc-add (rounds_grow (j + n) path y (below_later n j path y h))

    -- what a round knows, the last one knows
    pub round_within : (n : ℕ) → Within (round project n) (values project)
    unfolding values
    round_within n path y h = step (cases_lt n (suc (length project.paths)))
      where
        step : ((n < suc (length project.paths)) ⊎ (suc (length project.paths) ≤ n)) → round project (suc (length project.paths)) path ≡ Some y
        step (inl lt) =
            let e : (suc (length project.paths) - n) + n ≡ suc (length project.paths) = omega (arith, lt) in
            subst (λ m. round project m path ≡ Some y) e (below_later n (suc (length project.paths) - n) path y h)
        step (inr le) =
            let e : (n - suc (length project.paths)) + suc (length project.paths) ≡ n = omega (arith, le) in
            ap (λ (f : List ℕ → Option Imported). f path) (sym (rest_same (suc (length project.paths)) (n - suc (length project.paths)) last_rests))
            ∙ subst (λ m. round project m path ≡ Some y) (sym e) h

  -- the last round is a round
  pub values_round : (n : ℕ) × (values project ≡ round project n)
  unfolding values
  values_round = (suc (length project.paths), refl)

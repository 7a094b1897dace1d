-- The rest of a block, a statement at a time.
use Rattle.std.proofs.Common.{◌≡◌, ◌<◌, ◌≤◌, ◌+◌, ℕ, zero, suc, List, [], ◌∷◌, length, get_or, Option, Some, Result, Ok, Err, refl, sym, ap, ◌∙◌, subst, add-one, arith}
use Rattle.gn_tree.specs.declared.tree.Statement.{Statement}
use Rattle.gn_tree.specs.Tree.{StatementTree, BlockTree, no_statements, statement_then}
use Rattle.gn_tree.specs.Depth.{statement_depth, block_depth, max_tree_depth}
use Rattle.gn_tree.specs.Views.{statement_of, block_of}
use Rattle.gn_items.specs.Effects.{Effects}
use Rattle.gn_runs.specs.Runs.{Answers, Run, needs}
use Rattle.gn_environment.specs.Environment.{Environment}
use Rattle.gn_meaning.specs.Steps.{Left, max_evaluation_depth, ends, then_do}
use Rattle.gn_meaning.specs.Meaning.{world, statement_runs, block_runs, whole_block_runs}
use Rattle.gn_eval.specs.Library.{LibraryState, Includes, GoesOn}
use Rattle.gn_eval.specs.Ends.{Covers, IsFailure, Evaluates, asked_until}
use Rattle.gn_eval.specs.Telling.{covered, told_included, told_before, goes_on_further, then_failed, covers_error}
use Rattle.gn_eval.specs.declared.ending.EvalEnd.{EvalEnd}
use Rattle.gn_eval.specs.declared.ending.EvalEnd.TheVariants.{Stopped}
use Rattle.gn_outermost.specs.Lacking.{NeedsOver}
use Rattle.gn_outermost.specs.Rests.{behind, Pauses, Fails, HasRun, Halts}

-- the next statement, and those behind it
behind_list : (ss : List Statement) (i : ℕ) (s : Statement) → i < length ss → s ≡ get_or ss i s → behind i (block_of ss) ≡ statement_then (statement_of s) (behind (suc i) (block_of ss))
behind_list [] i s h is = absurd (omega arith)
behind_list (x ∷ ss) zero s h is = ap (λ (y : Statement). statement_then (statement_of y) (block_of ss)) (sym is)
behind_list (x ∷ ss) (suc i) s h is = behind_list ss i s (omega arith) is

pub behind_next : (ss : List Statement) (block : BlockTree) (i : ℕ) (s : Statement) → block_of ss ≡ block → i < length ss → s ≡ get_or ss i s → behind i block ≡ statement_then (statement_of s) (behind (i + 1) block)
behind_next ss block i s same h is =
    rw add-one (subst (λ (b : BlockTree). behind i b ≡ statement_then (statement_of s) (behind (suc i) b)) same (behind_list ss i s h is))

-- none is left
all_list : (ss : List Statement) (i : ℕ) → length ss ≤ i → behind i (block_of ss) ≡ no_statements
all_list [] zero h = refl
all_list [] (suc i) h = refl
all_list (x ∷ ss) zero h = absurd (omega arith)
all_list (x ∷ ss) (suc i) h = all_list ss i (omega arith)

pub behind_all : (ss : List Statement) (block : BlockTree) (i : ℕ) → block_of ss ≡ block → length ss ≤ i → behind i block ≡ no_statements
behind_all ss block i same h = subst (λ (b : BlockTree). behind i b ≡ no_statements) same (all_list ss i h)

-- a statement is no deeper than its block
depth_list : (ss : List Statement) (i : ℕ) (s : Statement) → i < length ss → s ≡ get_or ss i s → statement_depth (statement_of s) ≤ block_depth (block_of ss)
depth_list [] i s h is = absurd (omega arith)
depth_list (x ∷ ss) zero s h is = rw is (omega arith)
depth_list (x ∷ ss) (suc i) s h is = omega (arith, depth_list ss i s (omega arith) is)

pub statement_within : (ss : List Statement) (block : BlockTree) (i : ℕ) (s : Statement) → block_of ss ≡ block → i < length ss → s ≡ get_or ss i s → block_depth block ≤ max_tree_depth → statement_depth (statement_of s) ≤ max_tree_depth
statement_within ss block i s same h is shallow = omega (arith, depth_list ss i s h is, ap block_depth same)

-- the run of a rest is that of its first statement, and then of the others
rest_steps : (a : Answers) (rest : BlockTree) (s : StatementTree) (more : BlockTree) (env : Environment) (out : Effects) → rest ≡ statement_then s more
    → whole_block_runs a rest env out ≡ then_do (statement_runs (world max_evaluation_depth a) 0 s env out) (λ _ env1 out1. whole_block_runs a more env1 out1)
unfolding whole_block_runs block_runs
rest_steps a rest s more env out is = rw is refl

module _ (before now : LibraryState) (run : Answers → Run (Left (Unit {0}))) (rest : BlockTree) (s : StatementTree) (more : BlockTree) (env : Environment) (out : Effects)
    (goes : GoesOn before now) (so : (a : Answers) → Includes now.told a → run a ≡ whole_block_runs a rest env out) (is : rest ≡ statement_then s more) where
  first : (a : Answers) → Includes now.told a → run a ≡ then_do (statement_runs (world max_evaluation_depth a) 0 s env out) (λ _ env1 out1. whole_block_runs a more env1 out1)
  first a h = so a h ∙ rest_steps a rest s more env out is

  module _ (after : LibraryState) (on : GoesOn now after) where
    -- the library lacks what the first statement needs
    pub pauses : now.stops < after.stops → ((a : Answers) → after.told ≡ Some a → NeedsOver after.need out.asked (statement_runs (world max_evaluation_depth a) 0 s env out)) → Pauses before after rest env out run
    pauses rose lacks = record {
      rest = λ a h. so a (told_before on a h);
      needs = λ a h. first a (told_before on a (told_included after.told a h))
          ∙ ap (λ (r : Run (Left (Unit {0}))). then_do r (λ _ env1 out1. whole_block_runs a more env1 out1)) (lacks a h);
      rose = omega (arith, goes.later, rose);
    }

    -- the first statement has run
    pub steps : (env1 : Environment) (out1 : Effects) → Evaluates {A = Unit {0}} {T = Unit {0}} (λ u. u) now after (Ok tt) env1 out1 (λ a. statement_runs (world max_evaluation_depth a) 0 s env out)
        → (a : Answers) → Includes after.told a → run a ≡ whole_block_runs a more env1 out1
    steps env1 out1 h a i = first a (told_before on a i) ∙ ap (λ (r : Run (Left (Unit {0}))). then_do r (λ _ env2 out2. whole_block_runs a more env2 out2)) (h.runs a i)

    -- it has no end
    pub fails : (e : EvalEnd) (env1 : Environment) (out1 : Effects) → Evaluates {A = Unit {0}} {T = Unit {0}} (λ u. u) now after (Err e) env1 out1 (λ a. statement_runs (world max_evaluation_depth a) 0 s env out)
        → Fails before after e out1 run
    fails e env1 out1 h = record {
      runs = λ a i.
          subst (IsFailure after.need e out1) (sym (first a (told_before on a (covered {T = Unit {0}} after.told (Err e) a i))))
          (then_failed after.need e out1 (statement_runs (world max_evaluation_depth a) 0 s env out) (λ _ env2 out2. whole_block_runs a more env2 out2) (h.runs a i));
      rose = λ k. omega (arith, goes.later, h.rose (ap Err k));
    }

-- nothing is left to run
pub ended : (now : LibraryState) (run : Answers → Run (Left (Unit {0}))) (rest : BlockTree) (env : Environment) (out : Effects) → ((a : Answers) → Includes now.told a → run a ≡ whole_block_runs a rest env out) → rest ≡ no_statements → HasRun now env out run
unfolding whole_block_runs block_runs
ended now run rest env out so is a h = so a h ∙ ap (λ (b : BlockTree). whole_block_runs a b env out) is

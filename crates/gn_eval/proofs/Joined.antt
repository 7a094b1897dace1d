-- The operators behind an operand, one after another.
use Rattle.std.proofs.Common.{◌≡◌, ℕ, ◌+◌, ◌≤◌, suc, max, List, [], ◌∷◌, ◌++◌, refl, sym, ap, subst, ◌∙◌, arith}
use Rattle.gn_items.specs.Effects.{Effects}
use Rattle.gn_tree.specs.Tree.{ExprTree, name_expr, integer_expr, string_expr, boolean_expr, call_expr, item_expr, entry_expr, scope_expr, parentheses_expr, list_expr, not_expr, binary_expr}
use Rattle.gn_tree.specs.Depth.{expr_depth}
use Rattle.gn_values.specs.Val.{Val}
use Rattle.gn_runs.specs.Runs.{Run}
use Rattle.gn_environment.specs.Environment.{Environment}
use Rattle.gn_meaning.specs.Steps.{Left, Steps, World, deeper, then_do, ends}
use Rattle.gn_meaning.specs.Meaning.{expr_runs, operator_runs, operators_in}
use Rattle.gn_eval.specs.declared.operations.Operation.{Operation}
use Rattle.gn_eval.specs.Operations.{IsOperand, joined}
use Rattle.gn_eval.specs.Library.{Need}
use Rattle.gn_eval.specs.Ends.{IsFailure}
use Rattle.gn_eval.specs.declared.ending.EvalEnd.{EvalEnd}
use Rattle.gn_eval.specs.Telling.{then_failed}

-- one operator more inside
pub joined_more : (e : ExprTree) (os : List Operation) (o : Operation) → joined e (os ++ o ∷ []) ≡ joined (binary_expr o.operator o.position e o.right.now) os
joined_more e [] o = refl
joined_more e (p ∷ os) o = ap (λ (x : ExprTree). binary_expr p.operator p.position x p.right.now) (joined_more e os o)

-- how many operators these are, with those of their right sides
abbrev pub operators_of : List Operation → ℕ
operators_of [] = 0
operators_of (o ∷ os) = operators_of os + 1 + operators_in o.right.now

-- an operand has none
pub operand_alone : (e : ExprTree) → IsOperand e → operators_in e ≡ 0
operand_alone (name_expr p m) h = refl
operand_alone (integer_expr p v) h = refl
operand_alone (string_expr p ps) h = refl
operand_alone (boolean_expr p b) h = refl
operand_alone (call_expr c) h = refl
operand_alone (item_expr p b k i) h = refl
operand_alone (entry_expr p b d n) h = refl
operand_alone (scope_expr p b) h = refl
operand_alone (parentheses_expr p e) h = refl
operand_alone (list_expr p es) h = refl
operand_alone (not_expr p e) h = refl
operand_alone (binary_expr o p l r) h = absurd h

operators_joined : (e : ExprTree) (os : List Operation) → IsOperand e → operators_in (joined e os) ≡ operators_of os
operators_joined e [] h = operand_alone e h
operators_joined e (o ∷ os) h = ap (λ n. n + 1 + operators_in o.right.now) (operators_joined e os h)

-- what one operator does behind its left side, where its right side nests so deep
abbrev pub operation_runs : World → ℕ → Operation → Val → Steps Val
operation_runs w n o x env out = operator_runs o.operator x (expr_runs w n o.right.now) o.position env out

-- what operators do behind their innermost left side, where the right side of the innermost one nests so deep
abbrev pub operations_run : World → ℕ → List Operation → Val → Steps Val
operations_run w n [] x env out = ends x env out
operations_run w n (o ∷ os) x env out = then_do (operations_run w n os x env out) (λ y env1 out1. operation_runs w (deeper n (operators_of os)) o y env1 out1)

deeper_twice : (n a b : ℕ) → deeper (deeper n a) b ≡ deeper n (b + a)
deeper_twice n a b = omega arith

-- the leftmost operand comes first: where it has its value, the operators go on from there
pub joined_ended : (w : World) (n : ℕ) (e : ExprTree) (os : List Operation) (env : Environment) (out : Effects) (x : Val) (env1 : Environment) (out1 : Effects) → IsOperand e → expr_runs w n e env out ≡ ends x env1 out1 → expr_runs w n (joined e os) env out ≡ operations_run w (deeper n 1) os x env1 out1
unfolding expr_runs
joined_ended w n e [] env out x env1 out1 o h = h
joined_ended w n e (p ∷ os) env out x env1 out1 o h =
    let at : deeper n (operators_in (joined e os) + 1) ≡ deeper (deeper n 1) (operators_of os) = ap (λ k. deeper n (k + 1)) (operators_joined e os o) ∙ sym (deeper_twice n 1 (operators_of os)) in
    ap (λ m. then_do (expr_runs w n (joined e os) env out) (λ y env2 out2. operation_runs w m p y env2 out2)) at
    ∙ ap (λ (r : Run (Left Val)). then_do r (λ y env2 out2. operation_runs w (deeper (deeper n 1) (operators_of os)) p y env2 out2)) (joined_ended w n e os env out x env1 out1 o h)

-- where it fails, all fails
pub joined_failed : (w : World) (n : ℕ) (e : ExprTree) (os : List Operation) (env : Environment) (out : Effects) (need : Need) (end : EvalEnd) (out1 : Effects) → IsFailure need end out1 (expr_runs w n e env out) → IsFailure need end out1 (expr_runs w n (joined e os) env out)
unfolding expr_runs
joined_failed w n e [] env out need end out1 h = h
joined_failed w n e (p ∷ os) env out need end out1 h =
    then_failed need end out1 (expr_runs w n (joined e os) env out) (λ y env2 out2. operation_runs w (deeper n (operators_in (joined e os) + 1)) p y env2 out2) (joined_failed w n e os env out need end out1 h)

operators_more : (os : List Operation) (o : Operation) → operators_of (os ++ o ∷ []) ≡ operators_of os + (1 + operators_in o.right.now)
operators_more [] o = omega arith
operators_more (p ∷ os) o = omega (arith, operators_more os o)

-- the innermost operator comes next: where it has its value, the others go on from there
operations_ended : (w : World) (n : ℕ) (os : List Operation) (o : Operation) (x : Val) (env : Environment) (out : Effects) (y : Val) (env1 : Environment) (out1 : Effects) → n ≤ 400 → operation_runs w n o x env out ≡ ends y env1 out1 → operations_run w n (os ++ o ∷ []) x env out ≡ operations_run w (deeper n (1 + operators_in o.right.now)) os y env1 out1
operations_ended w n [] o x env out y env1 out1 capped h =
    let at : deeper n 0 ≡ n = omega arith in
    ap (λ m. operation_runs w m o x env out) at ∙ h
operations_ended w n (p ∷ os) o x env out y env1 out1 capped h =
    let at : deeper n (operators_of (os ++ o ∷ [])) ≡ deeper (deeper n (1 + operators_in o.right.now)) (operators_of os) = ap (deeper n) (operators_more os o) ∙ sym (deeper_twice n (1 + operators_in o.right.now) (operators_of os)) in
    ap (λ m. then_do (operations_run w n (os ++ o ∷ []) x env out) (λ z env2 out2. operation_runs w m p z env2 out2)) at
    ∙ ap (λ (r : Run (Left Val)). then_do r (λ z env2 out2. operation_runs w (deeper (deeper n (1 + operators_in o.right.now)) (operators_of os)) p z env2 out2)) (operations_ended w n os o x env out y env1 out1 capped h)

-- where it fails, all fails
operations_failed : (w : World) (n : ℕ) (os : List Operation) (o : Operation) (x : Val) (env : Environment) (out : Effects) (need : Need) (end : EvalEnd) (out1 : Effects) → n ≤ 400 → IsFailure need end out1 (operation_runs w n o x env out) → IsFailure need end out1 (operations_run w n (os ++ o ∷ []) x env out)
operations_failed w n [] o x env out need end out1 capped h =
    let at : deeper n 0 ≡ n = omega arith in
    subst (λ m. IsFailure need end out1 (operation_runs w m o x env out)) (sym at) h
operations_failed w n (p ∷ os) o x env out need end out1 capped h =
    then_failed need end out1 (operations_run w n (os ++ o ∷ []) x env out) (λ z env2 out2. operation_runs w (deeper n (operators_of (os ++ o ∷ []))) p z env2 out2) (operations_failed w n os o x env out need end out1 capped h)

module _ (w : World) (n : ℕ) (whole : Run (Left Val)) (all rest : List Operation) (o : Operation) (x : Val) (env : Environment) (out : Effects) (capped : n ≤ 400) (runs : whole ≡ operations_run w n all x env out) (last : all ≡ rest ++ o ∷ []) where
  -- the innermost operator is taken from the others, and has its value
  pub operation_done : (y : Val) (env1 : Environment) (out1 : Effects) → operation_runs w n o x env out ≡ ends y env1 out1 → whole ≡ operations_run w (deeper n (1 + operators_in o.right.now)) rest y env1 out1
  operation_done y env1 out1 h = runs ∙ ap (λ (os : List Operation). operations_run w n os x env out) last ∙ operations_ended w n rest o x env out y env1 out1 capped h

  -- or fails
  pub operation_failed : (need : Need) (end : EvalEnd) (out1 : Effects) → IsFailure need end out1 (operation_runs w n o x env out) → IsFailure need end out1 whole
  operation_failed need end out1 h =
      subst (λ (r : Run (Left Val)). IsFailure need end out1 r) (sym (runs ∙ ap (λ (os : List Operation). operations_run w n os x env out) last)) (operations_failed w n rest o x env out need end out1 capped h)

-- the operand and the right sides are less deep than the whole
abbrev pub right_depth : List Operation → ℕ
right_depth [] = 0
right_depth (o ∷ os) = max (suc (expr_depth o.right.now)) (right_depth os)

pub operand_within : (e : ExprTree) (os : List Operation) → expr_depth e ≤ expr_depth (joined e os)
operand_within e [] = omega arith
operand_within e (o ∷ os) = omega (arith, operand_within e os)

pub rights_within : (e : ExprTree) (os : List Operation) → right_depth os ≤ expr_depth (joined e os)
rights_within e [] = omega arith
rights_within e (o ∷ os) = omega (arith, rights_within e os)

pub right_depth-more : (os : List Operation) (o : Operation) → right_depth (os ++ o ∷ []) ≡ max (right_depth os) (suc (expr_depth o.right.now))
right_depth-more [] o = omega arith
right_depth-more (p ∷ os) o = omega (arith, right_depth-more os o)

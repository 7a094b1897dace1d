-- Trees as trees of numbers, one to one.
use Rattle.std.specs.Prelude.{◌≡◌, zero, suc, pos, refl}
use Rattle.std.proofs.Common.{sym, ◌∙◌, ap}
use Rattle.std.specs.Coded.{Coded}
use base.Stored.{Gv, gnil, gnum, gcons}
use Rattle.gn_tree.specs.PartsCode.{front, back, text_g, text_back, text_there, position_g, position_back, integer_g, integer_back, integer_there, boolean_g, boolean_back, boolean_there, assign_g, assign_back, assign_there, binary_g, binary_back, binary_there, pieces_g, pieces_back, pieces_there}
use Rattle.gn_tree.specs.Tree.{ExprTree, name_expr, integer_expr, string_expr, boolean_expr, call_expr, item_expr, entry_expr, scope_expr, parentheses_expr, list_expr, not_expr, binary_expr, ExprTrees, no_exprs, expr_then, CallTree, call_tree, BodyTree, no_body, some_body, TargetTree, name_target, item_target, entry_target, StatementTree, assign_statement, call_statement, condition_statement, ConditionTree, condition_tree, OtherwiseTree, no_otherwise, else_block, else_if, BlockTree, no_statements, statement_then}

abbrev mutual
  pub expr_g : ExprTree → Gv
  expr_g (name_expr p n) = gcons (gnum 0) (gcons (position_g p) (text_g n))
  expr_g (integer_expr p v) = gcons (gnum 1) (gcons (position_g p) (integer_g v))
  expr_g (string_expr p ps) = gcons (gnum 2) (gcons (position_g p) (pieces_g ps))
  expr_g (boolean_expr p v) = gcons (gnum 3) (gcons (position_g p) (boolean_g v))
  expr_g (call_expr c) = gcons (gnum 4) (call_g c)
  expr_g (item_expr p n b e) = gcons (gnum 5) (gcons (gcons (position_g p) (text_g n)) (gcons (position_g b) (expr_g e)))
  expr_g (entry_expr p n d e) = gcons (gnum 6) (gcons (gcons (position_g p) (text_g n)) (gcons (position_g d) (text_g e)))
  expr_g (scope_expr p b) = gcons (gnum 7) (gcons (position_g p) (block_g b))
  expr_g (parentheses_expr p e) = gcons (gnum 8) (gcons (position_g p) (expr_g e))
  expr_g (list_expr p es) = gcons (gnum 9) (gcons (position_g p) (exprs_g es))
  expr_g (not_expr p e) = gcons (gnum 10) (gcons (position_g p) (expr_g e))
  expr_g (binary_expr o p l r) = gcons (gnum 11) (gcons (gcons (binary_g o) (position_g p)) (gcons (expr_g l) (expr_g r)))

  pub exprs_g : ExprTrees → Gv
  exprs_g no_exprs = gnil
  exprs_g (expr_then e es) = gcons (expr_g e) (exprs_g es)

  pub call_g : CallTree → Gv
  call_g (call_tree p n es b) = gcons (gcons (position_g p) (text_g n)) (gcons (exprs_g es) (body_g b))

  pub body_g : BodyTree → Gv
  body_g no_body = gnil
  body_g (some_body b) = gcons gnil (block_g b)

  pub target_g : TargetTree → Gv
  target_g (name_target p n) = gcons (gnum 0) (gcons (position_g p) (text_g n))
  target_g (item_target p n b e) = gcons (gnum 1) (gcons (gcons (position_g p) (text_g n)) (gcons (position_g b) (expr_g e)))
  target_g (entry_target p n d e) = gcons (gnum 2) (gcons (gcons (position_g p) (text_g n)) (gcons (position_g d) (text_g e)))

  pub statement_g : StatementTree → Gv
  statement_g (assign_statement t o p e) = gcons (gnum 0) (gcons (gcons (assign_g o) (position_g p)) (gcons (target_g t) (expr_g e)))
  statement_g (call_statement c) = gcons (gnum 1) (call_g c)
  statement_g (condition_statement c) = gcons (gnum 2) (condition_g c)

  pub condition_g : ConditionTree → Gv
  condition_g (condition_tree e b o) = gcons (expr_g e) (gcons (block_g b) (otherwise_g o))

  pub otherwise_g : OtherwiseTree → Gv
  otherwise_g no_otherwise = gnil
  otherwise_g (else_block b) = gcons (gnum 0) (block_g b)
  otherwise_g (else_if c) = gcons (gnum 1) (condition_g c)

  pub block_g : BlockTree → Gv
  block_g no_statements = gnil
  block_g (statement_then s b) = gcons (statement_g s) (block_g b)

-- what a tree of numbers that stands for no tree is taken for
abbrev some_expr : ExprTree
some_expr = integer_expr (position_back gnil) (pos 0)

abbrev some_statement : StatementTree
some_statement = call_statement (call_tree (position_back gnil) (text_back gnil) no_exprs no_body)

abbrev some_condition : ConditionTree
some_condition = condition_tree some_expr no_statements no_otherwise

abbrev mutual
  pub expr_back : Gv → ExprTree
  expr_back (gcons (gnum zero) g) = name_expr (position_back (front g)) (text_back (back g))
  expr_back (gcons (gnum (suc zero)) g) = integer_expr (position_back (front g)) (integer_back (back g))
  expr_back (gcons (gnum (suc (suc zero))) g) = string_expr (position_back (front g)) (pieces_back (back g))
  expr_back (gcons (gnum (suc (suc (suc zero)))) g) = boolean_expr (position_back (front g)) (boolean_back (back g))
  expr_back (gcons (gnum (suc (suc (suc (suc zero))))) g) = call_expr (call_back g)
  expr_back (gcons (gnum (suc (suc (suc (suc (suc zero)))))) (gcons a (gcons b e))) = item_expr (position_back (front a)) (text_back (back a)) (position_back b) (expr_back e)
  expr_back (gcons (gnum (suc (suc (suc (suc (suc (suc zero))))))) g) = entry_expr (position_back (front (front g))) (text_back (back (front g))) (position_back (front (back g))) (text_back (back (back g)))
  expr_back (gcons (gnum (suc (suc (suc (suc (suc (suc (suc zero)))))))) (gcons p b)) = scope_expr (position_back p) (block_back b)
  expr_back (gcons (gnum (suc (suc (suc (suc (suc (suc (suc (suc zero))))))))) (gcons p e)) = parentheses_expr (position_back p) (expr_back e)
  expr_back (gcons (gnum (suc (suc (suc (suc (suc (suc (suc (suc (suc zero)))))))))) (gcons p es)) = list_expr (position_back p) (exprs_back es)
  expr_back (gcons (gnum (suc (suc (suc (suc (suc (suc (suc (suc (suc (suc zero))))))))))) (gcons p e)) = not_expr (position_back p) (expr_back e)
  expr_back (gcons (gnum (suc (suc (suc (suc (suc (suc (suc (suc (suc (suc (suc k)))))))))))) (gcons a (gcons l r))) = binary_expr (binary_back (front a)) (position_back (back a)) (expr_back l) (expr_back r)
  expr_back _ = some_expr

  pub exprs_back : Gv → ExprTrees
  exprs_back (gcons e es) = expr_then (expr_back e) (exprs_back es)
  exprs_back _ = no_exprs

  pub call_back : Gv → CallTree
  call_back (gcons a (gcons es b)) = call_tree (position_back (front a)) (text_back (back a)) (exprs_back es) (body_back b)
  call_back _ = call_tree (position_back gnil) (text_back gnil) no_exprs no_body

  pub body_back : Gv → BodyTree
  body_back (gcons a b) = some_body (block_back b)
  body_back _ = no_body

  pub target_back : Gv → TargetTree
  target_back (gcons (gnum zero) g) = name_target (position_back (front g)) (text_back (back g))
  target_back (gcons (gnum (suc zero)) (gcons a (gcons b e))) = item_target (position_back (front a)) (text_back (back a)) (position_back b) (expr_back e)
  target_back (gcons (gnum (suc (suc k))) g) = entry_target (position_back (front (front g))) (text_back (back (front g))) (position_back (front (back g))) (text_back (back (back g)))
  target_back _ = name_target (position_back gnil) (text_back gnil)

  pub statement_back : Gv → StatementTree
  statement_back (gcons (gnum zero) (gcons a (gcons t e))) = assign_statement (target_back t) (assign_back (front a)) (position_back (back a)) (expr_back e)
  statement_back (gcons (gnum (suc zero)) g) = call_statement (call_back g)
  statement_back (gcons (gnum (suc (suc k))) g) = condition_statement (condition_back g)
  statement_back _ = some_statement

  pub condition_back : Gv → ConditionTree
  condition_back (gcons e (gcons b o)) = condition_tree (expr_back e) (block_back b) (otherwise_back o)
  condition_back _ = some_condition

  pub otherwise_back : Gv → OtherwiseTree
  otherwise_back (gcons (gnum zero) b) = else_block (block_back b)
  otherwise_back (gcons (gnum (suc k)) c) = else_if (condition_back c)
  otherwise_back _ = no_otherwise

  pub block_back : Gv → BlockTree
  block_back (gcons s b) = statement_then (statement_back s) (block_back b)
  block_back _ = no_statements

mutual
  pub expr_there : (e : ExprTree) → expr_back (expr_g e) ≡ e
  expr_there (name_expr p n) = ap (name_expr p) (text_there n)
  expr_there (integer_expr p v) = ap (integer_expr p) (integer_there v)
  expr_there (string_expr p ps) = ap (string_expr p) (pieces_there ps)
  expr_there (boolean_expr p v) = ap (boolean_expr p) (boolean_there v)
  expr_there (call_expr c) = ap call_expr (call_there c)
  expr_there (item_expr p n b e) = λ i. item_expr p (text_there n i) b (expr_there e i)
  expr_there (entry_expr p n d e) = λ i. entry_expr p (text_there n i) d (text_there e i)
  expr_there (scope_expr p b) = ap (scope_expr p) (block_there b)
  expr_there (parentheses_expr p e) = ap (parentheses_expr p) (expr_there e)
  expr_there (list_expr p es) = ap (list_expr p) (exprs_there es)
  expr_there (not_expr p e) = ap (not_expr p) (expr_there e)
  expr_there (binary_expr o p l r) = λ i. binary_expr (binary_there o i) p (expr_there l i) (expr_there r i)

  pub exprs_there : (es : ExprTrees) → exprs_back (exprs_g es) ≡ es
  exprs_there no_exprs = refl
  exprs_there (expr_then e es) = λ i. expr_then (expr_there e i) (exprs_there es i)

  pub call_there : (c : CallTree) → call_back (call_g c) ≡ c
  call_there (call_tree p n es b) = λ i. call_tree p (text_there n i) (exprs_there es i) (body_there b i)

  pub body_there : (b : BodyTree) → body_back (body_g b) ≡ b
  body_there no_body = refl
  body_there (some_body b) = ap some_body (block_there b)

  pub target_there : (t : TargetTree) → target_back (target_g t) ≡ t
  target_there (name_target p n) = ap (name_target p) (text_there n)
  target_there (item_target p n b e) = λ i. item_target p (text_there n i) b (expr_there e i)
  target_there (entry_target p n d e) = λ i. entry_target p (text_there n i) d (text_there e i)

  pub statement_there : (s : StatementTree) → statement_back (statement_g s) ≡ s
  statement_there (assign_statement t o p e) = λ i. assign_statement (target_there t i) (assign_there o i) p (expr_there e i)
  statement_there (call_statement c) = ap call_statement (call_there c)
  statement_there (condition_statement c) = ap condition_statement (condition_there c)

  pub condition_there : (c : ConditionTree) → condition_back (condition_g c) ≡ c
  condition_there (condition_tree e b o) = λ i. condition_tree (expr_there e i) (block_there b i) (otherwise_there o i)

  pub otherwise_there : (o : OtherwiseTree) → otherwise_back (otherwise_g o) ≡ o
  otherwise_there no_otherwise = refl
  otherwise_there (else_block b) = ap else_block (block_there b)
  otherwise_there (else_if c) = ap else_if (condition_there c)

  pub block_there : (b : BlockTree) → block_back (block_g b) ≡ b
  block_there no_statements = refl
  block_there (statement_then s b) = λ i. statement_then (statement_there s i) (block_there b i)

pub expr_inj : (x y : ExprTree) → expr_g x ≡ expr_g y → x ≡ y
expr_inj x y p = sym (expr_there x) ∙ ap expr_back p ∙ expr_there y

abbrev pub expr_code : Coded ExprTree
expr_code = record { code = expr_g; inj = expr_inj }

pub exprs_inj : (x y : ExprTrees) → exprs_g x ≡ exprs_g y → x ≡ y
exprs_inj x y p = sym (exprs_there x) ∙ ap exprs_back p ∙ exprs_there y

abbrev pub exprs_code : Coded ExprTrees
exprs_code = record { code = exprs_g; inj = exprs_inj }

pub condition_inj : (x y : ConditionTree) → condition_g x ≡ condition_g y → x ≡ y
condition_inj x y p = sym (condition_there x) ∙ ap condition_back p ∙ condition_there y

abbrev pub condition_code : Coded ConditionTree
condition_code = record { code = condition_g; inj = condition_inj }

pub block_inj : (x y : BlockTree) → block_g x ≡ block_g y → x ≡ y
block_inj x y p = sym (block_there x) ∙ ap block_back p ∙ block_there y

abbrev pub block_code : Coded BlockTree
block_code = record { code = block_g; inj = block_inj }

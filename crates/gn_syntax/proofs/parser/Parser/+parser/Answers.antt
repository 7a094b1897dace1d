use Rattle.std.proofs.Common.{rules, ◌≡◌, ◌≢◌, ℕ, ◌+◌, ◌∷◌, max, List, length, Some, true, false, arith, subst, sym, ◌∙◌, ap, refl}
use Rattle.std.proofs.lemmas.Grind.{common_steps}
use Rattle.gn_tree.specs.declared.tree.Expr.{Expr}
use Rattle.gn_tree.specs.Tree.{ExprTree, ExprTrees, name_target, item_target, entry_target}
use Rattle.gn_tree.specs.Views.{expr_of, exprs_of}
use Rattle.gn_tokens.specs.declared.token.TokenKind.TheVariants as k
use Rattle.gn_syntax.specs.declared.parser.Parser.{Parser}
use Rattle.gn_syntax.specs.declared.error.Stop.TheVariants.{Fault}
use Rattle.gn_grammar.specs.Lexemes.{Lexeme}
use Rattle.gn_grammar.specs.Grammar.{priority, mark_of, assign_mark, Spells, SpellsList}
use Rattle.gn_grammar.specs.Machine.{Operand, Operators, Args, MoreArgs, Items, MoreItems, Test, Bad, verdict}
use Rattle.gn_syntax.specs.Parsing.{front, rest_of, position_at, level, refusal, sign_of, Begun}
use Rattle.gn_syntax.proofs.Steps.{arg_comes, item_comes}
use Rattle.gn_grammar.proofs.Longer.{Spells_weaker}
use Rattle.gn_syntax.proofs.Trees.{token_at, mark_at, kind_at, list_push, begun_push}
use Rattle.gn_syntax.proofs.Calls.{rest_shorter, inside_refused, sign_mark, assignment_read, binary_read, list_read, list_refused, statement_whole, begun_new, list_none, items_end, items_none, assigned_spelled, statements_grown}
use Rattle.gn_syntax.proofs.parser.Parser.+parser.Goals as goal
use Rattle.gn_syntax.proofs.parser.Parser.+parser.Goals.{statements-in-Some-Identifier+in_ok-statement-in-Some-Identifier, statements-in-Some-If+in_ok-condition-in-Some-If}

pub arguments-returns-then-eat-clause-spells : goal.arguments-returns-then-eat-clause-spells
arguments-returns-then-eat-clause-spells t c =
    let taken : (front c.args.self.now.ahead.tokens ≡ Some k.CloseParen) × (c.eat.new.self.ahead.tokens ≡ rest_of c.args.self.now.ahead.tokens) = c.eat.ensures.taken c.if-eat.true in
    (c.args.self.now.ahead.tokens, list_none c.from_vec.result c.new-arguments.result.items c.args.self.now.ahead.tokens c.from_vec.ensures c.new-arguments.ensures.items, kind_at k.CloseParen c.args.self.now.ahead.tokens c.eat.new.self.ahead.tokens taken.0 taken.1)

pub arguments-more-init : goal.arguments-more-init
arguments-more-init t c =
    let left : (front c.args.self.now.ahead.tokens ≢ Some k.CloseParen) × (c.eat.new.self.ahead.tokens ≡ c.args.self.now.ahead.tokens) = c.eat.ensures.left c.if-eat.false in
    record {
      begun = begun_new c.new-arguments.result.items c.args.self.now.ahead.tokens c.eat.new.self.ahead.tokens c.new-arguments.ensures.items left.1;
      reads = λ wanted. arg_comes c.eat.new.self.ahead.last c.args.self.now.nesting wanted c.args.self.now.ahead.tokens left.0 ∙ ap (verdict c.eat.new.self.ahead.last (Operand c.args.self.now.nesting c.args.self.now.nesting ∷ MoreArgs c.args.self.now.nesting ∷ wanted)) (sym left.1);
      nesting = c.eat.ensures.nesting;
      inside = refl;
      last = c.eat.ensures.last;
      shorter = omega (arith, ap length left.1);
    }

pub arguments-returns-then-not-eat-clause-spells : goal.arguments-returns-then-not-eat-clause-spells
arguments-returns-then-not-eat-clause-spells t c =
    let is : c.eat-in-more.result ≡ false = first_of ((cc), (search rules), (grind (arith, common_steps))) in
    let left : (front c.binary.new.self.ahead.tokens ≢ Some k.Comma) × (c.eat-in-more.new.self.ahead.tokens ≡ c.binary.new.self.ahead.tokens) = c.eat-in-more.ensures.left is in
    let whole : SpellsList (exprs_of c.push.new.self.items) c.args.self.now.ahead.tokens c.binary.new.self.ahead.tokens =
    subst (λ (x : List Expr). SpellsList (exprs_of x) c.args.self.now.ahead.tokens c.binary.new.self.ahead.tokens) (sym c.in_ok-push.ensures.items)
    (list_push c.more.arguments.items c.in_ok-argument.argument c.args.self.now.ahead.tokens c.more.self.ahead.tokens c.binary.new.self.ahead.tokens c.more.invariant.begun c.in_ok-argument.ensures.spells) in (
      c.eat-in-more.new.self.ahead.tokens,
      subst (λ (z : List Lexeme). SpellsList c.from_vec-then-not-eat.result c.args.self.now.ahead.tokens z) (sym left.1) (subst (λ (r : ExprTrees). SpellsList r c.args.self.now.ahead.tokens c.binary.new.self.ahead.tokens) (sym c.from_vec-then-not-eat.ensures) whole),
      kind_at k.CloseParen c.eat-in-more.new.self.ahead.tokens c.expect.new.self.ahead.tokens c.in_ok-expect.ensures.ok.0 c.in_ok-expect.ensures.ok.1,
    )

pub arguments-more-preserved : goal.arguments-more-preserved
arguments-more-preserved t c =
    let is : c.eat-in-more.result ≡ true = first_of ((cc), (search rules), (grind (arith, common_steps))) in
    let taken : (front c.binary.new.self.ahead.tokens ≡ Some k.Comma) × (c.eat-in-more.new.self.ahead.tokens ≡ rest_of c.binary.new.self.ahead.tokens) = c.eat-in-more.ensures.taken is in
    record {
      begun = subst (λ (x : List Expr). Begun (exprs_of x) c.args.self.now.ahead.tokens c.eat-in-more.new.self.ahead.tokens) (sym c.in_ok-push.ensures.items)
          (begun_push c.more.arguments.items c.in_ok-argument.argument c.args.self.now.ahead.tokens c.more.self.ahead.tokens c.binary.new.self.ahead.tokens c.eat-in-more.new.self.ahead.tokens c.more.invariant.begun c.in_ok-argument.ensures.spells (kind_at k.Comma c.binary.new.self.ahead.tokens c.eat-in-more.new.self.ahead.tokens taken.0 taken.1));
      reads = λ wanted. list_read c.more.self.ahead.last c.binary.new.self.ahead.last c.eat-in-more.new.self.ahead.last (Args c.args.self.now.nesting ∷ wanted) (MoreArgs c.args.self.now.nesting ∷ wanted) (Operand c.args.self.now.nesting c.args.self.now.nesting ∷ MoreArgs c.args.self.now.nesting ∷ wanted) c.args.self.now.nesting c.more.self.nesting c.binary.new.self.nesting k.Comma c.args.self.now.ahead.tokens c.more.self.ahead.tokens c.binary.new.self.ahead.tokens c.eat-in-more.new.self.ahead.tokens
          c.in_ok-argument.ensures.last c.eat-in-more.ensures.last (c.more.invariant.nesting ∙ c.more.invariant.inside)
          (c.more.invariant.reads wanted) (c.in_ok-argument.ensures.reads (MoreArgs c.args.self.now.nesting ∷ wanted)) taken.0 taken.1 refl;
      nesting = c.eat-in-more.ensures.nesting;
      inside = c.more.invariant.inside;
      last = c.eat-in-more.ensures.last ∙ c.in_ok-argument.ensures.last ∙ c.more.invariant.last;
      shorter = omega (arith, rest_shorter c.binary.new.self.ahead.tokens c.eat-in-more.new.self.ahead.tokens taken.1, c.in_ok-argument.ensures.shorter, c.more.invariant.shorter);
    }

pub assigned-returns-clause-spells : goal.assigned-returns-clause-spells
assigned-returns-clause-spells t c =
    let f : sign_of (front c.args.self.now.ahead.tokens) ≡ Some c.in-Some.operator = cc (ap sign_of c.peek.ensures) in (
      c.advance.new.self.ahead.tokens,
      mark_at (assign_mark c.in-Some.operator) c.position-position.result c.args.self.now.ahead.tokens c.advance.new.self.ahead.tokens (sign_mark (front c.args.self.now.ahead.tokens) c.in-Some.operator f) c.position-position.ensures c.advance.ensures.tokens,
      c.in_ok-value.ensures.spells,
    )

pub assigned-returns-clause-reads : goal.assigned-returns-clause-reads
assigned-returns-clause-reads t c =
    let f : sign_of (front c.args.self.now.ahead.tokens) ≡ Some c.in-Some.operator = cc (ap sign_of c.peek.ensures) in
    λ wanted. assignment_read c.args.self.now.ahead.last c.advance.new.self.ahead.last c.args.self.now.nesting c.advance.new.self.nesting c.binary.new.self.nesting wanted c.in-Some.operator c.args.self.now.ahead.tokens c.advance.new.self.ahead.tokens c.binary.new.self.ahead.tokens c.advance.ensures.last c.advance.ensures.nesting f c.advance.ensures.tokens c.in_ok-value.ensures.reads c.in_ok-value.ensures.stops

pub assignment-returns-in-Ok-clause-spells : goal.assignment-returns-in-Ok-clause-spells
assignment-returns-in-Ok-clause-spells t c =
    let a = c.in-Ok.ensures.spells in
    λ s h. (c.args.self.now.ahead.tokens, a.0, h, a.1, a.2)

pub binary-loop-operator-preserved : goal.binary-loop-operator-preserved
binary-loop-operator-preserved t c =
    record {
      spells = subst (λ (x : ExprTree). Spells (max c.args.least (level c.binary.new.self.ahead.tokens)) x c.args.self.now.ahead.tokens c.binary.new.self.ahead.tokens) (sym c.in_ok-whole.ensures) (
        c.loop-operator.self.ahead.tokens,
        c.deepen.new.self.ahead.tokens,
        omega (arith, c.in-Some.ensures, c.in_ok-right.ensures.stops, c.priority.ensures),
        (Spells_weaker (max c.args.least (level c.loop-operator.self.ahead.tokens)) (priority c.in-Some.operator) (expr_of c.loop-operator.left) c.args.self.now.ahead.tokens c.loop-operator.self.ahead.tokens (omega (arith, c.in-Some.ensures)) c.loop-operator.invariant.spells),
        mark_at (mark_of c.in-Some.operator) c.position-position.result c.loop-operator.self.ahead.tokens c.deepen.new.self.ahead.tokens c.in-Some.ensures.3 c.position-position.ensures c.in_ok-deepen.ensures.tokens,
        (subst (λ (n : ℕ). Spells (n + 1) (expr_of c.in_ok-right.right) c.deepen.new.self.ahead.tokens c.binary.new.self.ahead.tokens) c.priority.ensures c.in_ok-right.ensures.spells),
      );
      reads = λ wanted. binary_read c.loop-operator.self.ahead.last c.deepen.new.self.ahead.last c.binary.new.self.ahead.last (Operand c.args.self.now.nesting c.args.self.now.nesting ∷ wanted) wanted c.loop-operator.self.nesting c.deepen.new.self.nesting c.binary.new.self.nesting c.in-Some.operator c.args.self.now.ahead.tokens c.loop-operator.self.ahead.tokens c.deepen.new.self.ahead.tokens c.binary.new.self.ahead.tokens
          c.in_ok-deepen.ensures.last c.in_ok-right.ensures.last c.in_ok-deepen.ensures.nesting.0 c.in_ok-deepen.ensures.nesting.1 c.in-Some.ensures.3 c.in_ok-deepen.ensures.tokens
          (c.loop-operator.invariant.reads wanted) (c.in_ok-right.ensures.reads wanted);
      last = c.in_ok-right.ensures.last ∙ c.in_ok-deepen.ensures.last ∙ c.loop-operator.invariant.last;
      shorter = omega (arith, c.in_ok-right.ensures.shorter, rest_shorter c.loop-operator.self.ahead.tokens c.deepen.new.self.ahead.tokens c.in_ok-deepen.ensures.tokens);
    }

pub block-returns-clause-spells : goal.block-returns-clause-spells
block-returns-clause-spells t c =
    let f : front c.args.self.now.ahead.tokens ≡ Some k.OpenBrace = first_of ((search rules), (grind (arith, common_steps)), (cc)) in (
      position_at c.args.self.now.ahead.tokens,
      (
        c.deepen.new.self.ahead.tokens,
        c.statements.new.self.ahead.tokens,
        mark_at k.OpenBrace (position_at c.args.self.now.ahead.tokens) c.args.self.now.ahead.tokens c.deepen.new.self.ahead.tokens f refl c.in_ok-deepen.ensures.tokens,
        c.in_ok-block.ensures.spells,
        kind_at k.CloseBrace c.statements.new.self.ahead.tokens c.expect.new.self.ahead.tokens c.in_ok-expect.ensures.ok.0 c.in_ok-expect.ensures.ok.1,
      ),
    )

pub index-returns-clause-spells : goal.index-returns-clause-spells
index-returns-clause-spells t c =
    (c.binary.new.self.ahead.tokens, c.in_ok-index.ensures.spells, kind_at k.CloseBracket c.binary.new.self.ahead.tokens c.expect.new.self.ahead.tokens c.in_ok-expect.ensures.ok.0 c.in_ok-expect.ensures.ok.1)

pub items-more-init : goal.items-more-init
items-more-init t c =
    record {
      begun = begun_new c.new-items.result.items c.args.self.now.ahead.tokens c.args.self.now.ahead.tokens c.new-items.ensures.items refl;
      reads = λ wanted. refl;
      nesting = refl;
      inside = refl;
      last = refl;
      shorter = omega arith;
    }

pub items-returns-then-eat-clause-spells : goal.items-returns-then-eat-clause-spells
items-returns-then-eat-clause-spells t c =
    let taken : (front c.more.self.ahead.tokens ≡ Some k.CloseBracket) × (c.eat.new.self.ahead.tokens ≡ rest_of c.more.self.ahead.tokens) = c.eat.ensures.taken c.if-eat.true in
    let h = items_end c.from_vec.result c.more.items.items c.args.self.now.ahead.tokens c.more.self.ahead.tokens c.from_vec.ensures c.more.invariant.begun in
    (h.0, c.more.self.ahead.tokens, h.1, h.2, kind_at k.CloseBracket c.more.self.ahead.tokens c.eat.new.self.ahead.tokens taken.0 taken.1)

pub items-returns-in_err-expect-clause-reads : goal.items-returns-in_err-expect-clause-reads
items-returns-in_err-expect-clause-reads t c =
    let before : (front c.more.self.ahead.tokens ≢ Some k.CloseBracket) × (c.eat.new.self.ahead.tokens ≡ c.more.self.ahead.tokens) = c.eat.ensures.left c.if-eat.false in
    let is : c.eat-in-more.result ≡ false = first_of ((cc), (search rules), (grind (arith, common_steps))) in
    let left : (front c.binary.new.self.ahead.tokens ≢ Some k.Comma) × (c.eat-in-more.new.self.ahead.tokens ≡ c.binary.new.self.ahead.tokens) = c.eat-in-more.ensures.left is in
    let err : (c.in_err-expect.field-0.0 ≡ Fault (refusal c.eat-in-more.new.self.ahead.last c.eat-in-more.new.self.ahead.tokens)) × (front c.eat-in-more.new.self.ahead.tokens ≢ Some k.CloseBracket) = c.in_err-expect.ensures.err in
    let close : front c.binary.new.self.ahead.tokens ≢ Some k.CloseBracket = λ h. err.1 (ap front left.1 ∙ h) in
    λ wanted.
    let e : verdict c.eat.new.self.ahead.last (Items c.args.self.now.nesting ∷ wanted) c.args.self.now.ahead.tokens ≡ Bad (refusal c.eat.new.self.ahead.last c.binary.new.self.ahead.tokens) =
    list_refused c.eat.new.self.ahead.last wanted (Items c.args.self.now.nesting ∷ wanted) c.args.self.now.nesting c.eat.new.self.nesting c.binary.new.self.nesting c.args.self.now.ahead.tokens c.eat.new.self.ahead.tokens c.binary.new.self.ahead.tokens (c.eat.ensures.nesting ∙ c.more.invariant.nesting ∙ c.more.invariant.inside) (subst (λ l. verdict l (Items c.args.self.now.nesting ∷ wanted) c.args.self.now.ahead.tokens ≡ verdict l (Operand c.args.self.now.nesting c.args.self.now.nesting ∷ MoreItems c.args.self.now.nesting ∷ wanted) c.eat.new.self.ahead.tokens) (sym c.eat.ensures.last) (c.more.invariant.reads wanted ∙ item_comes c.more.self.ahead.last c.args.self.now.nesting wanted c.more.self.ahead.tokens before.0 ∙ ap (verdict c.more.self.ahead.last (Operand c.args.self.now.nesting c.args.self.now.nesting ∷ MoreItems c.args.self.now.nesting ∷ wanted)) (sym before.1)))
    (c.in_ok-item.ensures.reads (MoreItems c.args.self.now.nesting ∷ wanted)) c.in_ok-item.ensures.stops close left.0 in
    let same : c.eat.new.self.ahead.last ≡ c.args.self.now.ahead.last = c.eat.ensures.last ∙ c.more.invariant.last in
    let e2 : verdict c.args.self.now.ahead.last (Items c.args.self.now.nesting ∷ wanted) c.args.self.now.ahead.tokens ≡ Bad (refusal c.args.self.now.ahead.last c.binary.new.self.ahead.tokens) = subst (λ l. verdict l (Items c.args.self.now.nesting ∷ wanted) c.args.self.now.ahead.tokens ≡ Bad (refusal l c.binary.new.self.ahead.tokens)) same e in
    let e3 : verdict c.args.self.now.ahead.last (Items c.args.self.now.nesting ∷ wanted) c.args.self.now.ahead.tokens ≡ Bad (refusal c.eat-in-more.new.self.ahead.last c.eat-in-more.new.self.ahead.tokens) = first_of ((cc), (grind (arith, common_steps))) in
    first_of ((search rules), (grind (arith, common_steps)))

pub items-returns-then-not-eat-clause-spells : goal.items-returns-then-not-eat-clause-spells
items-returns-then-not-eat-clause-spells t c =
    let before : (front c.more.self.ahead.tokens ≢ Some k.CloseBracket) × (c.eat.new.self.ahead.tokens ≡ c.more.self.ahead.tokens) = c.eat.ensures.left c.if-eat.false in
    let is : c.eat-in-more.result ≡ false = first_of ((cc), (search rules), (grind (arith, common_steps))) in
    let left : (front c.binary.new.self.ahead.tokens ≢ Some k.Comma) × (c.eat-in-more.new.self.ahead.tokens ≡ c.binary.new.self.ahead.tokens) = c.eat-in-more.ensures.left is in
    let whole : SpellsList (exprs_of c.push.new.self.items) c.args.self.now.ahead.tokens c.binary.new.self.ahead.tokens =
    subst (λ (x : List Expr). SpellsList (exprs_of x) c.args.self.now.ahead.tokens c.binary.new.self.ahead.tokens) (sym c.in_ok-push.ensures.items)
    (list_push c.more.items.items c.in_ok-item.item c.args.self.now.ahead.tokens c.eat.new.self.ahead.tokens c.binary.new.self.ahead.tokens (subst (λ (z : List Lexeme). Begun (exprs_of c.more.items.items) c.args.self.now.ahead.tokens z) (sym before.1) c.more.invariant.begun) c.in_ok-item.ensures.spells) in (
      c.eat-in-more.new.self.ahead.tokens,
      c.eat-in-more.new.self.ahead.tokens,
      subst (λ (z : List Lexeme). SpellsList c.from_vec-then-not-eat.result c.args.self.now.ahead.tokens z) (sym left.1) (subst (λ (r : ExprTrees). SpellsList r c.args.self.now.ahead.tokens c.binary.new.self.ahead.tokens) (sym c.from_vec-then-not-eat.ensures) whole),
      items_none c.from_vec-then-not-eat.result c.push.new.self.items c.eat-in-more.new.self.ahead.tokens c.from_vec-then-not-eat.ensures,
      kind_at k.CloseBracket c.eat-in-more.new.self.ahead.tokens c.expect.new.self.ahead.tokens c.in_ok-expect.ensures.ok.0 c.in_ok-expect.ensures.ok.1,
    )

pub items-more-preserved : goal.items-more-preserved
items-more-preserved t c =
    let before : (front c.more.self.ahead.tokens ≢ Some k.CloseBracket) × (c.eat.new.self.ahead.tokens ≡ c.more.self.ahead.tokens) = c.eat.ensures.left c.if-eat.false in
    let is : c.eat-in-more.result ≡ true = first_of ((cc), (search rules), (grind (arith, common_steps))) in
    let taken : (front c.binary.new.self.ahead.tokens ≡ Some k.Comma) × (c.eat-in-more.new.self.ahead.tokens ≡ rest_of c.binary.new.self.ahead.tokens) = c.eat-in-more.ensures.taken is in
    record {
      begun = subst (λ (x : List Expr). Begun (exprs_of x) c.args.self.now.ahead.tokens c.eat-in-more.new.self.ahead.tokens) (sym c.in_ok-push.ensures.items)
          (begun_push c.more.items.items c.in_ok-item.item c.args.self.now.ahead.tokens c.eat.new.self.ahead.tokens c.binary.new.self.ahead.tokens c.eat-in-more.new.self.ahead.tokens (subst (λ (z : List Lexeme). Begun (exprs_of c.more.items.items) c.args.self.now.ahead.tokens z) (sym before.1) c.more.invariant.begun) c.in_ok-item.ensures.spells (kind_at k.Comma c.binary.new.self.ahead.tokens c.eat-in-more.new.self.ahead.tokens taken.0 taken.1));
      reads = λ wanted. list_read c.eat.new.self.ahead.last c.binary.new.self.ahead.last c.eat-in-more.new.self.ahead.last (Items c.args.self.now.nesting ∷ wanted) (MoreItems c.args.self.now.nesting ∷ wanted) (Items c.args.self.now.nesting ∷ wanted) c.args.self.now.nesting c.eat.new.self.nesting c.binary.new.self.nesting k.Comma c.args.self.now.ahead.tokens c.eat.new.self.ahead.tokens c.binary.new.self.ahead.tokens c.eat-in-more.new.self.ahead.tokens
          c.in_ok-item.ensures.last c.eat-in-more.ensures.last (c.eat.ensures.nesting ∙ c.more.invariant.nesting ∙ c.more.invariant.inside)
          (subst (λ l. verdict l (Items c.args.self.now.nesting ∷ wanted) c.args.self.now.ahead.tokens ≡ verdict l (Operand c.args.self.now.nesting c.args.self.now.nesting ∷ MoreItems c.args.self.now.nesting ∷ wanted) c.eat.new.self.ahead.tokens) (sym c.eat.ensures.last) (c.more.invariant.reads wanted ∙ item_comes c.more.self.ahead.last c.args.self.now.nesting wanted c.more.self.ahead.tokens before.0 ∙ ap (verdict c.more.self.ahead.last (Operand c.args.self.now.nesting c.args.self.now.nesting ∷ MoreItems c.args.self.now.nesting ∷ wanted)) (sym before.1))) (c.in_ok-item.ensures.reads (MoreItems c.args.self.now.nesting ∷ wanted)) taken.0 taken.1 refl;
      nesting = c.eat-in-more.ensures.nesting;
      inside = c.more.invariant.inside;
      last = c.eat-in-more.ensures.last ∙ c.in_ok-item.ensures.last ∙ (c.eat.ensures.last ∙ c.more.invariant.last);
      shorter = omega (arith, rest_shorter c.binary.new.self.ahead.tokens c.eat-in-more.new.self.ahead.tokens taken.1, ap length before.1, c.in_ok-item.ensures.shorter, c.more.invariant.shorter);
    }

pub list-returns-clause-spells : goal.list-returns-clause-spells
list-returns-clause-spells t c =
    let h = c.in_ok-items.ensures.spells in
    (c.deepen.new.self.ahead.tokens, h.1, mark_at k.OpenBracket c.position-position.result c.args.self.now.ahead.tokens c.deepen.new.self.ahead.tokens c.requires c.position-position.ensures c.in_ok-deepen.ensures.tokens, (h.0, h.2, h.3), h.4)

pub named-returns-in_ok-call-in-Some-OpenParen-clause-spells : goal.named-returns-in_ok-call-in-Some-OpenParen-clause-spells
named-returns-in_ok-call-in-Some-OpenParen-clause-spells t c =
    let f : front c.take_text.new.self.ahead.tokens ≡ Some k.OpenParen = cc in
    c.in_ok-call-in-Some-OpenParen.ensures.spells c.args.self.now.ahead.tokens c.take_text.new.self.ahead.tokens (token_at k.Identifier c.position-position.result c.in_ok-name.name c.args.self.now.ahead.tokens c.take_text.new.self.ahead.tokens c.requires c.position-position.ensures (c.in_ok-name.ensures.text) c.in_ok-name.ensures.tokens) (kind_at k.OpenParen c.take_text.new.self.ahead.tokens c.deepen.new.self.ahead.tokens f c.in_ok-deepen-in-Some-OpenParen.ensures.tokens)

pub statement-returns-in_ok-call-in-Some-OpenParen-clause-spells : goal.statement-returns-in_ok-call-in-Some-OpenParen-clause-spells
statement-returns-in_ok-call-in-Some-OpenParen-clause-spells t c =
    let f : front c.take_text.new.self.ahead.tokens ≡ Some k.OpenParen = cc in
    c.in_ok-call-in-Some-OpenParen.ensures.spells c.args.self.now.ahead.tokens c.take_text.new.self.ahead.tokens (token_at k.Identifier c.position-position.result c.in_ok-name.name c.args.self.now.ahead.tokens c.take_text.new.self.ahead.tokens c.requires c.position-position.ensures (c.in_ok-name.ensures.text) c.in_ok-name.ensures.tokens) (kind_at k.OpenParen c.take_text.new.self.ahead.tokens c.deepen.new.self.ahead.tokens f c.in_ok-deepen-in-Some-OpenParen.ensures.tokens)

pub named-returns-in_ok-new-in-Some-OpenBracket-clause-spells : goal.named-returns-in_ok-new-in-Some-OpenBracket-clause-spells
named-returns-in_ok-new-in-Some-OpenBracket-clause-spells t c =
    let f : front c.take_text.new.self.ahead.tokens ≡ Some k.OpenBracket = cc in
    let h = c.in_ok-index-in-Some-OpenBracket.ensures.spells in
    (c.take_text.new.self.ahead.tokens, token_at k.Identifier c.position-position.result c.name-in-Some-OpenBracket.inside.bytes.items c.args.self.now.ahead.tokens c.take_text.new.self.ahead.tokens c.requires c.position-position.ensures (c.name-in-Some-OpenBracket.view_is ∙ c.in_ok-name.ensures.text) c.in_ok-name.ensures.tokens, (c.deepen-in-Some-OpenBracket.new.self.ahead.tokens, h.0, mark_at k.OpenBracket c.position-behind.result c.take_text.new.self.ahead.tokens c.deepen-in-Some-OpenBracket.new.self.ahead.tokens f c.position-behind.ensures c.in_ok-deepen-in-Some-OpenBracket.ensures.tokens, subst (λ (x : ExprTree). Spells 1 x c.deepen-in-Some-OpenBracket.new.self.ahead.tokens h.0) (sym c.in_ok-new-in-Some-OpenBracket.ensures) h.1, h.2))

pub named-returns-in_ok-entry-in-Some-Dot-clause-spells : goal.named-returns-in_ok-entry-in-Some-Dot-clause-spells
named-returns-in_ok-entry-in-Some-Dot-clause-spells t c =
    let f : front c.take_text.new.self.ahead.tokens ≡ Some k.Dot = cc in
    let h = c.in_ok-entry-in-Some-Dot.ensures.spells in
    (c.take_text.new.self.ahead.tokens, c.advance.new.self.ahead.tokens, h.0, token_at k.Identifier c.position-position.result c.name-in-Some-Dot.inside.bytes.items c.args.self.now.ahead.tokens c.take_text.new.self.ahead.tokens c.requires c.position-position.ensures (c.name-in-Some-Dot.view_is ∙ c.in_ok-name.ensures.text) c.in_ok-name.ensures.tokens, mark_at k.Dot c.position-behind.result c.take_text.new.self.ahead.tokens c.advance.new.self.ahead.tokens f c.position-behind.ensures c.advance.ensures.tokens, h.1)

pub named-returns-in_default-clause-spells : goal.named-returns-in_default-clause-spells
named-returns-in_default-clause-spells t c =
    token_at k.Identifier c.position-position.result c.in_ok-name.name c.args.self.now.ahead.tokens c.take_text.new.self.ahead.tokens c.requires c.position-position.ensures (c.in_ok-name.ensures.text) c.in_ok-name.ensures.tokens

pub negation-returns-clause-spells : goal.negation-returns-clause-spells
negation-returns-clause-spells t c = (
  c.deepen.new.self.ahead.tokens,
  mark_at k.Not c.position-position.result c.args.self.now.ahead.tokens c.deepen.new.self.ahead.tokens c.requires c.position-position.ensures c.in_ok-deepen.ensures.tokens,
  subst (λ (x : ExprTree). Spells 6 x c.deepen.new.self.ahead.tokens c.unary.new.self.ahead.tokens) (sym c.in_ok-operand-2.ensures) c.in_ok-operand.ensures.spells,
)

pub parentheses-returns-in_err-expect-clause-reads : goal.parentheses-returns-in_err-expect-clause-reads
parentheses-returns-in_err-expect-clause-reads t c =
    let f : front c.args.self.now.ahead.tokens ≡ Some k.OpenParen = c.requires in
    let err : (c.in_err-expect.field-0.0 ≡ Fault (refusal c.binary.new.self.ahead.last c.binary.new.self.ahead.tokens)) × (front c.binary.new.self.ahead.tokens ≢ Some k.CloseParen) = c.in_err-expect.ensures.err in
    let same : c.binary.new.self.ahead.last ≡ c.args.self.now.ahead.last = c.in_ok-inner.ensures.last ∙ c.in_ok-deepen.ensures.last in
    λ after wanted.
    let e : verdict c.args.self.now.ahead.last (Operand after c.args.self.now.nesting ∷ wanted) c.args.self.now.ahead.tokens ≡ Bad (refusal c.args.self.now.ahead.last c.binary.new.self.ahead.tokens) =
    inside_refused c.args.self.now.ahead.last c.deepen.new.self.ahead.last c.args.self.now.nesting c.deepen.new.self.nesting c.binary.new.self.nesting (Operand after c.args.self.now.nesting ∷ wanted) (Operators after ∷ wanted) c.args.self.now.ahead.tokens c.deepen.new.self.ahead.tokens c.binary.new.self.ahead.tokens c.in_ok-deepen.ensures.last c.in_ok-deepen.ensures.nesting.0 c.in_ok-deepen.ensures.nesting.1 f c.in_ok-deepen.ensures.tokens refl
    c.in_ok-inner.ensures.reads c.in_ok-inner.ensures.stops err.1 in
    let e2 : verdict c.args.self.now.ahead.last (Operand after c.args.self.now.nesting ∷ wanted) c.args.self.now.ahead.tokens ≡ Bad (refusal c.binary.new.self.ahead.last c.binary.new.self.ahead.tokens) = subst (λ l. verdict c.args.self.now.ahead.last (Operand after c.args.self.now.nesting ∷ wanted) c.args.self.now.ahead.tokens ≡ Bad (refusal l c.binary.new.self.ahead.tokens)) (sym same) e in
    first_of ((search rules), (grind (arith, common_steps)))

pub test-returns-in_err-expect-clause-reads : goal.test-returns-in_err-expect-clause-reads
test-returns-in_err-expect-clause-reads t c =
    let f : front c.args.self.now.ahead.tokens ≡ Some k.OpenParen = first_of ((search rules), (grind (arith, common_steps)), (cc)) in
    let err : (c.in_err-expect.field-0.0 ≡ Fault (refusal c.binary.new.self.ahead.last c.binary.new.self.ahead.tokens)) × (front c.binary.new.self.ahead.tokens ≢ Some k.CloseParen) = c.in_err-expect.ensures.err in
    let same : c.binary.new.self.ahead.last ≡ c.args.self.now.ahead.last = c.in_ok-test.ensures.last ∙ c.in_ok-deepen.ensures.last in
    λ wanted.
    let e : verdict c.args.self.now.ahead.last (Test c.args.self.now.nesting ∷ wanted) c.args.self.now.ahead.tokens ≡ Bad (refusal c.args.self.now.ahead.last c.binary.new.self.ahead.tokens) =
    inside_refused c.args.self.now.ahead.last c.deepen.new.self.ahead.last c.args.self.now.nesting c.deepen.new.self.nesting c.binary.new.self.nesting (Test c.args.self.now.nesting ∷ wanted) (wanted) c.args.self.now.ahead.tokens c.deepen.new.self.ahead.tokens c.binary.new.self.ahead.tokens c.in_ok-deepen.ensures.last c.in_ok-deepen.ensures.nesting.0 c.in_ok-deepen.ensures.nesting.1 f c.in_ok-deepen.ensures.tokens refl
    c.in_ok-test.ensures.reads c.in_ok-test.ensures.stops err.1 in
    let e2 : verdict c.args.self.now.ahead.last (Test c.args.self.now.nesting ∷ wanted) c.args.self.now.ahead.tokens ≡ Bad (refusal c.binary.new.self.ahead.last c.binary.new.self.ahead.tokens) = subst (λ l. verdict c.args.self.now.ahead.last (Test c.args.self.now.nesting ∷ wanted) c.args.self.now.ahead.tokens ≡ Bad (refusal l c.binary.new.self.ahead.tokens)) (sym same) e in
    first_of ((search rules), (grind (arith, common_steps)))

pub parentheses-returns-clause-spells : goal.parentheses-returns-clause-spells
parentheses-returns-clause-spells t c = (
  c.deepen.new.self.ahead.tokens,
  c.binary.new.self.ahead.tokens,
  mark_at k.OpenParen c.position-position.result c.args.self.now.ahead.tokens c.deepen.new.self.ahead.tokens c.requires c.position-position.ensures c.in_ok-deepen.ensures.tokens,
  subst (λ (x : ExprTree). Spells 1 x c.deepen.new.self.ahead.tokens c.binary.new.self.ahead.tokens) (sym c.in_ok-inner-2.ensures) c.in_ok-inner.ensures.spells,
  kind_at k.CloseParen c.binary.new.self.ahead.tokens c.expect.new.self.ahead.tokens c.in_ok-expect.ensures.ok.0 c.in_ok-expect.ensures.ok.1,
)

pub scope-returns-clause-spells : goal.scope-returns-clause-spells
scope-returns-clause-spells t c = (
  c.deepen.new.self.ahead.tokens,
  c.statements.new.self.ahead.tokens,
  mark_at k.OpenBrace c.position-position.result c.args.self.now.ahead.tokens c.deepen.new.self.ahead.tokens c.requires c.position-position.ensures c.in_ok-deepen.ensures.tokens,
  c.in_ok-block.ensures.spells,
  kind_at k.CloseBrace c.statements.new.self.ahead.tokens c.expect.new.self.ahead.tokens c.in_ok-expect.ensures.ok.0 c.in_ok-expect.ensures.ok.1,
)

pub test-returns-clause-spells : goal.test-returns-clause-spells
test-returns-clause-spells t c =
    let f : front c.args.self.now.ahead.tokens ≡ Some k.OpenParen = first_of ((search rules), (grind (arith, common_steps)), (cc)) in (
      position_at c.args.self.now.ahead.tokens,
      (
        c.deepen.new.self.ahead.tokens,
        c.binary.new.self.ahead.tokens,
        mark_at k.OpenParen (position_at c.args.self.now.ahead.tokens) c.args.self.now.ahead.tokens c.deepen.new.self.ahead.tokens f refl c.in_ok-deepen.ensures.tokens,
        c.in_ok-test.ensures.spells,
        kind_at k.CloseParen c.binary.new.self.ahead.tokens c.expect.new.self.ahead.tokens c.in_ok-expect.ensures.ok.0 c.in_ok-expect.ensures.ok.1,
      ),
    )

pub statement-returns-in_ok-index-in-Some-OpenBracket-clause-spells : goal.statement-returns-in_ok-index-in-Some-OpenBracket-clause-spells
statement-returns-in_ok-index-in-Some-OpenBracket-clause-spells t c =
    let f : front c.take_text.new.self.ahead.tokens ≡ Some k.OpenBracket = cc in
    let h = c.in_ok-index-in-Some-OpenBracket.ensures.spells in
    assigned_spelled c.assignment.result (item_target c.position-position.result c.in_ok-name.name c.position-behind.result (expr_of c.in_ok-index-in-Some-OpenBracket.index)) c.args.self.now.ahead.tokens c.index.new.self.ahead.tokens c.assignment.new.self.ahead.tokens c.assignment.ensures.spells ((c.take_text.new.self.ahead.tokens, token_at k.Identifier c.position-position.result c.in_ok-name.name c.args.self.now.ahead.tokens c.take_text.new.self.ahead.tokens c.requires c.position-position.ensures (c.in_ok-name.ensures.text) c.in_ok-name.ensures.tokens, (c.deepen-in-Some-OpenBracket.new.self.ahead.tokens, h.0, mark_at k.OpenBracket c.position-behind.result c.take_text.new.self.ahead.tokens c.deepen-in-Some-OpenBracket.new.self.ahead.tokens f c.position-behind.ensures c.in_ok-deepen-in-Some-OpenBracket.ensures.tokens, h.1, h.2)))

pub statement-returns-in_ok-entry-in-Some-Dot-clause-spells : goal.statement-returns-in_ok-entry-in-Some-Dot-clause-spells
statement-returns-in_ok-entry-in-Some-Dot-clause-spells t c =
    let f : front c.take_text.new.self.ahead.tokens ≡ Some k.Dot = cc in
    let h = c.in_ok-entry-in-Some-Dot.ensures.spells in
    assigned_spelled c.assignment-in-Some-Dot.result (entry_target c.position-position.result c.in_ok-name.name c.position-behind.result c.in_ok-entry-in-Some-Dot.entry) c.args.self.now.ahead.tokens c.entry.new.self.ahead.tokens c.assignment-in-Some-Dot.new.self.ahead.tokens c.assignment-in-Some-Dot.ensures.spells ((c.take_text.new.self.ahead.tokens, c.advance.new.self.ahead.tokens, h.0, token_at k.Identifier c.position-position.result c.in_ok-name.name c.args.self.now.ahead.tokens c.take_text.new.self.ahead.tokens c.requires c.position-position.ensures (c.in_ok-name.ensures.text) c.in_ok-name.ensures.tokens, mark_at k.Dot c.position-behind.result c.take_text.new.self.ahead.tokens c.advance.new.self.ahead.tokens f c.position-behind.ensures c.advance.ensures.tokens, h.1))

pub statement-returns-in_default-clause-spells : goal.statement-returns-in_default-clause-spells
statement-returns-in_default-clause-spells t c =
    assigned_spelled c.assignment-in_default.result (name_target c.position-position.result c.in_ok-name.name) c.args.self.now.ahead.tokens c.take_text.new.self.ahead.tokens c.assignment-in_default.new.self.ahead.tokens c.assignment-in_default.ensures.spells (token_at k.Identifier c.position-position.result c.in_ok-name.name c.args.self.now.ahead.tokens c.take_text.new.self.ahead.tokens c.requires c.position-position.ensures (c.in_ok-name.ensures.text) c.in_ok-name.ensures.tokens)

pub statement-returns-in_default-clause-reads : goal.statement-returns-in_default-clause-reads
statement-returns-in_default-clause-reads t c =
    first_of ((grind (arith, statement_whole)), (grind (arith, common_steps, statement_whole)), (search (rules, statement_whole)))

pub statements-more-preserved : goal.statements-more-preserved
statements-more-preserved t c =
    record {
      spells = elim c.match-peek-2.branch [
        | statements-in-Some-Identifier+in_ok-statement-in-Some-Identifier w ↦
            statements_grown c.more.statements.items c.push.new.self.items c.match-peek-2.statement _ c.args.self.now.ahead.tokens c.more.self.ahead.tokens c.match-peek-2.self.ahead.tokens _ c.in_ok-push.ensures.items w.statement-is (ap (λ (p : Parser). p.ahead.tokens) w.self-is)
            c.more.invariant.spells w.in_ok-statement-in-Some-Identifier.ensures.spells
        | statements-in-Some-If+in_ok-condition-in-Some-If w ↦
            (let f : front c.more.self.ahead.tokens ≡ Some k.If = first_of ((cc), (search rules), (grind (arith, common_steps))) in
            statements_grown c.more.statements.items c.push.new.self.items c.match-peek-2.statement _ c.args.self.now.ahead.tokens c.more.self.ahead.tokens c.match-peek-2.self.ahead.tokens _ c.in_ok-push.ensures.items w.statement-is (ap (λ (p : Parser). p.ahead.tokens) w.self-is)
            c.more.invariant.spells (w.in_ok-condition-in-Some-If.ensures.spells c.more.self.ahead.tokens (kind_at k.If c.more.self.ahead.tokens w.advance.new.self.ahead.tokens f w.advance.ensures.tokens)))
      ];
      reads = first_of ((search rules), (grind (arith, common_steps)));
      nesting = first_of ((search rules), (grind (arith, common_steps)));
      last = first_of ((search rules), (grind (arith, common_steps)));
      shorter = first_of ((search rules), (grind (arith, common_steps)));
    }

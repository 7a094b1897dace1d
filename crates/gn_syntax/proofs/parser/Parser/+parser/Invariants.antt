use Rattle.std.proofs.Common.{◌≡◌, ◌+◌, ◌*◌, ◌<◌, ◌≤◌, max, List, ◌∷◌, length}
use Rattle.gn_tree.specs.Views.{expr_of, exprs_of, block_of}
use Rattle.gn_grammar.specs.Grammar.{Spells, SpellsStatements}
use Rattle.gn_grammar.specs.Machine.{Symbol, Statements, Operand, Operators, Args, MoreArgs, Items, verdict}
use Rattle.gn_syntax.specs.Parsing.{level, Begun}
use Rattle.gn_syntax.proofs.parser.Parser.+parser.Given as goal

abbrev pub decreases-binary : goal.decreases-binary
decreases-binary l = 8 * length l.self.now.ahead.tokens + 2

abbrev pub decreases-unary : goal.decreases-unary
decreases-unary l = 8 * length l.self.now.ahead.tokens + 1

abbrev pub decreases-index : goal.decreases-index
decreases-index l = 8 * length l.self.now.ahead.tokens + 3

abbrev pub decreases-arguments : goal.decreases-arguments
decreases-arguments l = 8 * length l.self.now.ahead.tokens + 3

abbrev pub decreases-items : goal.decreases-items
decreases-items l = 8 * length l.self.now.ahead.tokens + 3

abbrev pub decreases-body : goal.decreases-body
decreases-body l = 8 * length l.self.now.ahead.tokens + 3

abbrev pub decreases-statements : goal.decreases-statements
decreases-statements l = 8 * length l.self.now.ahead.tokens + 3

abbrev pub decreases-call : goal.decreases-call
decreases-call l = 8 * length l.self.now.ahead.tokens + 4

abbrev pub decreases-named : goal.decreases-named
decreases-named l = 8 * length l.self.now.ahead.tokens + 0

abbrev pub decreases-negation : goal.decreases-negation
decreases-negation l = 8 * length l.self.now.ahead.tokens + 0

abbrev pub decreases-parentheses : goal.decreases-parentheses
decreases-parentheses l = 8 * length l.self.now.ahead.tokens + 0

abbrev pub decreases-list : goal.decreases-list
decreases-list l = 8 * length l.self.now.ahead.tokens + 0

abbrev pub decreases-scope : goal.decreases-scope
decreases-scope l = 8 * length l.self.now.ahead.tokens + 0

abbrev pub decreases-statement : goal.decreases-statement
decreases-statement l = 8 * length l.self.now.ahead.tokens + 0

abbrev pub decreases-condition : goal.decreases-condition
decreases-condition l = 8 * length l.self.now.ahead.tokens + 4

abbrev pub decreases-block : goal.decreases-block
decreases-block l = 8 * length l.self.now.ahead.tokens + 0

abbrev pub decreases-assignment : goal.decreases-assignment
decreases-assignment l = 8 * length l.self.now.ahead.tokens + 1

abbrev pub decreases-assigned : goal.decreases-assigned
decreases-assigned l = 8 * length l.self.now.ahead.tokens + 0

abbrev pub decreases-test : goal.decreases-test
decreases-test l = 8 * length l.self.now.ahead.tokens + 0

abbrev pub decreases-otherwise : goal.decreases-otherwise
decreases-otherwise l = 8 * length l.self.now.ahead.tokens + 0

abbrev pub invariant-binary-loop-operator : goal.invariant-binary-loop-operator
invariant-binary-loop-operator l = record {
  spells : Spells (max l.least (level l.self.ahead.tokens)) (expr_of l.left) l.fn.self.ahead.tokens l.self.ahead.tokens;
  reads : (wanted : List Symbol) → verdict l.self.ahead.last (Operand l.fn.self.nesting l.fn.self.nesting ∷ wanted) l.fn.self.ahead.tokens
      ≡ verdict l.self.ahead.last (Operators l.self.nesting ∷ wanted) l.self.ahead.tokens;
  last : l.self.ahead.last ≡ l.fn.self.ahead.last;
  shorter : length l.self.ahead.tokens < length l.fn.self.ahead.tokens;
}

abbrev pub decreases-binary-loop-operator : goal.decreases-binary-loop-operator
decreases-binary-loop-operator l = length l.self.ahead.tokens

abbrev pub invariant-items-more : goal.invariant-items-more
invariant-items-more l = record {
  begun : Begun (exprs_of l.items.items) l.fn.self.ahead.tokens l.self.ahead.tokens;
  reads : (wanted : List Symbol) → verdict l.self.ahead.last (Items l.inside ∷ wanted) l.fn.self.ahead.tokens
      ≡ verdict l.self.ahead.last (Items l.inside ∷ wanted) l.self.ahead.tokens;
  nesting : l.self.nesting ≡ l.inside;
  inside : l.inside ≡ l.fn.self.nesting;
  last : l.self.ahead.last ≡ l.fn.self.ahead.last;
  shorter : length l.self.ahead.tokens ≤ length l.fn.self.ahead.tokens;
}

abbrev pub decreases-items-more : goal.decreases-items-more
decreases-items-more l = length l.self.ahead.tokens

abbrev pub invariant-arguments-more : goal.invariant-arguments-more
invariant-arguments-more l = record {
  begun : Begun (exprs_of l.arguments.items) l.fn.self.ahead.tokens l.self.ahead.tokens;
  reads : (wanted : List Symbol) → verdict l.self.ahead.last (Args l.inside ∷ wanted) l.fn.self.ahead.tokens
      ≡ verdict l.self.ahead.last (Operand l.inside l.inside ∷ MoreArgs l.inside ∷ wanted) l.self.ahead.tokens;
  nesting : l.self.nesting ≡ l.inside;
  inside : l.inside ≡ l.fn.self.nesting;
  last : l.self.ahead.last ≡ l.fn.self.ahead.last;
  shorter : length l.self.ahead.tokens ≤ length l.fn.self.ahead.tokens;
}

abbrev pub decreases-arguments-more : goal.decreases-arguments-more
decreases-arguments-more l = length l.self.ahead.tokens

abbrev pub invariant-statements-more : goal.invariant-statements-more
invariant-statements-more l = record {
  spells : SpellsStatements (block_of l.statements.items) l.fn.self.ahead.tokens l.self.ahead.tokens;
  reads : (wanted : List Symbol) → verdict l.self.ahead.last (Statements l.self.nesting ∷ wanted) l.fn.self.ahead.tokens
      ≡ verdict l.self.ahead.last (Statements l.self.nesting ∷ wanted) l.self.ahead.tokens;
  nesting : l.self.nesting ≡ l.fn.self.nesting;
  last : l.self.ahead.last ≡ l.fn.self.ahead.last;
  shorter : length l.self.ahead.tokens ≤ length l.fn.self.ahead.tokens;
}

abbrev pub decreases-statements-more : goal.decreases-statements-more
decreases-statements-more l = length l.self.ahead.tokens

-- The nestings that the machine counts are those of the tree.
use Rattle.std.proofs.Common.{◌≡◌, ℕ, Bool, true, List, [], ◌∷◌, ◌++◌, Option, Some, None, refl, sym, ◌∙◌, ap, append-nil, true≢false, inl}
use Rattle.gn_tree.specs.Tree.{ExprTree, BlockTree}
use Rattle.gn_grammar.specs.Lexemes.{Lexeme}
use Rattle.gn_grammar.specs.Grammar.{Spells, SpellsStatements}
use Rattle.gn_grammar.specs.Machine.{Symbol, next}
use Rattle.gn_grammar.specs.Start.{Start, File, Expression, wanted_of}
use Rattle.gn_grammar.specs.Errors.{deep_after, nesting}
use Rattle.gn_grammar.specs.Nesting.{expr_nestings, block_nestings, counting, token_nestings}
use Rattle.gn_grammar.proofs.Fits.{fits, fits_after}
use Rattle.gn_grammar.proofs.Spelled.{run, run_after, read_expr, read_statements}
use Rattle.gn_grammar.proofs.Viable.{reads, reads_after, reads_push, nesting_push, fits_from_whole}

-- The nestings of the tokens are those of the machine.
along : (start : Start) (ts before : List Lexeme) (stack : List Symbol) → reads (wanted_of start) before ≡ Some stack → fits stack ts ≡ true →
    token_nestings start before ts ≡ (run stack ts).1
along start [] before stack h f = refl
along start (t ∷ ts) before stack h f = go (along start ts (before ++ t ∷ [])) (next stack t.kind) refl f
  where
    go : ((x : List Symbol) → reads (wanted_of start) (before ++ t ∷ []) ≡ Some x → fits x ts ≡ true → token_nestings start (before ++ t ∷ []) ts ≡ (run x ts).1) →
        (x : Option (ℕ × List Symbol)) → next stack t.kind ≡ x → fits_after x (λ v. fits v ts) ≡ true →
        counting (nesting start (before ++ t ∷ [])) (token_nestings start (before ++ t ∷ []) ts) ≡ (run_after x (λ v. run v ts)).1
    go again None e f = absurd (true≢false (sym f))
    go again (Some x) e f =
        let here : nesting start (before ++ t ∷ []) ≡ x.0 = nesting_push (wanted_of start) stack before t h ∙ ap (λ y. deep_after y (λ v. 0) []) e in
        ap (λ n. counting n (token_nestings start (before ++ t ∷ []) ts)) here
        ∙ ap (counting x.0) (again x.1 (reads_push (wanted_of start) stack before t h ∙ ap (λ y. reads_after y Some) e) f)

-- The nestings of the tokens of a file are those of the tree that they spell.
pub nestings_of_tree : (tree : BlockTree) (tokens : List Lexeme) → SpellsStatements tree tokens [] → token_nestings File [] tokens ≡ block_nestings tree 0
nestings_of_tree tree tokens h =
    along File tokens [] (wanted_of File) refl (fits_from_whole File tokens (tree, h)) ∙ ap (λ (r : Bool × List ℕ). r.1) (read_statements tree 0 [] tokens [] h refl) ∙ append-nil (block_nestings tree 0)

-- The nestings of the tokens of an expression are those of the tree that they spell.
pub nestings_of_expr : (tree : ExprTree) (tokens : List Lexeme) → Spells 1 tree tokens [] → token_nestings Expression [] tokens ≡ expr_nestings tree 0
nestings_of_expr tree tokens h =
    let x = read_expr tree 1 0 0 [] tokens [] h refl (inl refl) in
    along Expression tokens [] (wanted_of Expression) refl (fits_from_whole Expression tokens (tree, h)) ∙ ap (λ (r : Bool × List ℕ). r.1) x.2 ∙ append-nil (expr_nestings tree 0)

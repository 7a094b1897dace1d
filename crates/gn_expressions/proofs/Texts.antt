-- Where a text is forgotten that is too long, its string is too long once all pieces have their texts.
use Rattle.std.proofs.Common.{◌≡◌, ℕ, Bool, true, false, List, [], ◌∷◌, ◌++◌, Option, Some, None, refl, sym, ap, ◌∙◌}
use Rattle.gn_value_model.proofs.Within.{text_over}
use Rattle.gn_tree.specs.declared.position.Position.{Position}
use Rattle.gn_tree.specs.declared.piece.Piece.{Piece}
use Rattle.gn_values.specs.Val.{Val, vstr}
use Rattle.gn_values.specs.Limits.{text_fits}
use Rattle.gn_faults.specs.declared.code.Code.TheVariants as code
use Rattle.gn_items.specs.Effects.{Effects}
use Rattle.gn_runs.specs.Runs.{End, ended, wrong, spoiled, needs, Question}
use Rattle.gn_environment.specs.Environment.{Environment}
use Rattle.gn_meaning.specs.Steps.{Left, Steps, onward, then_do, ends}
use Rattle.gn_meaning.specs.Words.{fails_at, string_runs}
use Rattle.gn_meaning.specs.Pieces.{piece_runs, pieces_run}
use Rattle.gn_expressions.specs.Texts.{within, lengthened, pieces_added}

lengthened_within : (text more : List ℕ) → lengthened (within text) more ≡ within (text ++ more)
lengthened_within text more = by (text_fits text) refl
  where
    by : (b : Bool) → text_fits text ≡ b → lengthened (within text) more ≡ within (text ++ more)
    by true h = rw h refl
    by false h = rw (h, text_over text more h) refl

-- the string of a text, or its fault where it was forgotten
abbrev pub finished : Position → Option (List ℕ) → Steps Val
finished quote (Some text) env out = ends (vstr text) env out
finished quote None env out = fails_at code.TooLong quote [] env out

finished_within : (text : List ℕ) (quote : Position) (env : Environment) (out : Effects) → finished quote (within text) env out ≡ string_runs text quote env out
unfolding string_runs
finished_within text quote env out = by (text_fits text) refl
  where
    by : (b : Bool) → text_fits text ≡ b → finished quote (within text) env out ≡ string_runs text quote env out
    by true h = rw h refl
    by false h = rw h refl

pub pieces_finished : (pieces : List Piece) (text : List ℕ) (quote : Position) (env : Environment) (out : Effects) → then_do (pieces_added pieces (within text) env out) (finished quote) ≡ then_do (pieces_run pieces text env out) (λ whole env1 out1. string_runs whole quote env1 out1)
pieces_finished [] text quote env out = finished_within text quote env out
pieces_finished (piece ∷ pieces) text quote env out =
    by (piece_runs piece env out).end (piece_runs piece env out).asked (λ more env1 out1. pieces_finished pieces (text ++ more) quote env1 out1)
  where
    by : (end : End (Left (List ℕ))) (asked : List Question) → ((more : List ℕ) (env1 : Environment) (out1 : Effects) → then_do (pieces_added pieces (within (text ++ more)) env1 out1) (finished quote) ≡ then_do (pieces_run pieces (text ++ more) env1 out1) (λ whole env2 out2. string_runs whole quote env2 out2)) → then_do (then_do (onward end asked (λ more env1 out1. ends (lengthened (within text) more) env1 out1)) (pieces_added pieces)) (finished quote) ≡ then_do (onward end asked (λ more env1 out1. pieces_run pieces (text ++ more) env1 out1)) (λ whole env1 out1. string_runs whole quote env1 out1)
    by (ended l) asked again =
        ap (λ (all : Option (List ℕ)). then_do (pieces_added pieces all l.environment l.effects) (finished quote)) (lengthened_within text l.value)
        ∙ again l.value l.environment l.effects
    by (wrong fault) asked again = refl
    by (spoiled path place) asked again = refl
    by (needs question place) asked again = refl

pub pieces_whole : (pieces : List Piece) (quote : Position) (env : Environment) (out : Effects) → then_do (pieces_run pieces [] env out) (λ whole env1 out1. string_runs whole quote env1 out1) ≡ then_do (pieces_added pieces (Some []) env out) (finished quote)
pieces_whole pieces quote env out = sym (pieces_finished pieces [] quote env out)

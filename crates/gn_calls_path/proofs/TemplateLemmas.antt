-- How many texts the templates of some sources give.
use Rattle.std.proofs.Common.{◌≡◌, ℕ, suc, ◌+◌, ◌*◌, ◌-◌, ◌^◌, ◌<◌, min, List, [], ◌∷◌, length, map, ◌∙◌, arith, length-append}
use Rattle.std.proofs.lemmas.List.{length-map}
use Rattle.gn_substs.specs.declared.subst.Subst.{Subst}
use Rattle.gn_values.specs.Limits.{max_items}
use Rattle.gn_calls_text.specs.Answers.{too_long}
use Rattle.gn_calls_path.specs.declared.place.Where.{Where}
use Rattle.gn_calls_path.specs.Each.{texts_answer}
use Rattle.gn_calls_path.specs.Templates.{expanded_for, expanded_all}
use Rattle.gn_calls_path.proofs.AnswerLemmas.{too_many_texts}

none_times : (n : ℕ) → 0 ≡ 0 * n
none_times n = omega arith

more_times : (a n : ℕ) → n + a * n ≡ suc a * n
more_times a n = omega arith

pub expanded_count : (w : Where) (sources : List (List ℕ)) (templates : List Subst) → length (expanded_all w sources templates) ≡ length sources * length templates
expanded_count w [] templates = none_times (length templates)
expanded_count w (s ∷ ss) templates =
    let first = length-map templates (expanded_for w s) in
    let rest = expanded_count w ss templates in
    let both = length-append (map (expanded_for w s) templates) (expanded_all w ss templates) in
    let sum : length (expanded_all w (s ∷ ss) templates) ≡ length templates + length ss * length templates = omega arith in
    sum ∙ more_times (length ss) (length templates)

pub too_many : (w : Where) (sources : List (List ℕ)) (templates : List Subst) (product : ℕ) → product ≡ min (length sources * length templates) (2 ^ 64 - 1) → max_items < product → texts_answer (expanded_all w sources templates) ≡ too_long
too_many w sources templates product is h = too_many_texts (expanded_all w sources templates) (let count = expanded_count w sources templates in omega arith)

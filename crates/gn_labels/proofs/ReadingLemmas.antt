-- What code answers is what a text means.
use Rattle.std.proofs.Common.{◌≡◌, ◌⊎◌, inr, List, ℕ, Result, Ok, Err, sym, ap, ◌∙◌}
use Rattle.gn_labels.specs.declared.error.LabelFault.{LabelFault}
use Rattle.gn_labels.specs.declared.error.LabelError.{LabelError}
use Rattle.gn_labels.specs.declared.error.LabelError.TheVariants as errors
use Rattle.gn_labels.specs.declared.error.PatternFault.{PatternFault}
use Rattle.gn_labels.specs.declared.error.PatternError.{PatternError}
use Rattle.gn_labels.specs.declared.error.PatternError.TheVariants as pattern_errors
use Rattle.gn_labels.specs.declared.label.Label.{Label}
use Rattle.gn_labels.specs.declared.pattern.Pattern.{Pattern}
use Rattle.gn_labels.specs.Reading.{label_error, label_answered}
use Rattle.gn_labels.specs.Patterns.{pattern_error, pattern_answered}

pub meant_ok : (r : Result Label LabelFault) (label : Label) → Ok label ≡ r → r ≡ Ok label
meant_ok r label e = sym e

pub meant_err : (r : Result Label LabelFault) (fault : LabelFault) (error : LabelError) → error ≡ label_error fault → Err fault ≡ r → (error ≡ errors.Memory) ⊎ (label_answered r ≡ Err error)
meant_err r fault error h e = inr (ap label_answered (sym e) ∙ ap Err (sym h))

pub pattern_ok : (r : Result Pattern PatternFault) (pattern : Pattern) → Ok pattern ≡ r → r ≡ Ok pattern
pattern_ok r pattern e = sym e

pub pattern_err : (r : Result Pattern PatternFault) (fault : PatternFault) (error : PatternError) → error ≡ pattern_error fault → Err fault ≡ r → (error ≡ pattern_errors.Memory) ⊎ (pattern_answered r ≡ Err error)
pattern_err r fault error h e = inr (ap pattern_answered (sym e) ∙ ap Err (sym h))

-- What code answers is what a text means.
use Rattle.std.proofs.Common.{◌≡◌, ◌⊎◌, inl, inr, Result, Ok, Err, refl, sym, ap, subst}
use Rattle.gn_labels.specs.declared.error.LabelFault.{LabelFault}
use Rattle.gn_labels.specs.declared.error.LabelFault.TheVariants as label_faults
use Rattle.gn_labels.specs.declared.error.LabelError.{LabelError}
use Rattle.gn_labels.specs.declared.error.LabelError.TheVariants as label
use Rattle.gn_labels.specs.declared.error.PatternFault.{PatternFault}
use Rattle.gn_labels.specs.declared.error.PatternFault.TheVariants as pattern_faults
use Rattle.gn_labels.specs.declared.error.PatternError.{PatternError}
use Rattle.gn_labels.specs.declared.error.PatternError.TheVariants as pattern
use Rattle.gn_labels.specs.declared.label.Label.{Label}
use Rattle.gn_labels.specs.declared.pattern.Pattern.{Pattern}
use Rattle.gn_labels.specs.Reading.{label_answered}
use Rattle.gn_labels.specs.Patterns.{pattern_answered}
use Rattle.gn_paths.specs.declared.error.PathFault.TheVariants as path_faults
use Rattle.gn_paths.specs.declared.error.PathError.TheVariants as path
use Rattle.gn_calls_text.specs.declared.error.CallError.{CallError}
use Rattle.gn_calls_path.specs.Found.{label_code, pattern_code, coded}
use Rattle.gn_calls_path.specs.Views.{IsFound, label_refusal, pattern_refusal}

label_told : (fault : LabelFault) (error : LabelError) → label_answered (Err fault) ≡ Err error → IsFound {T = Label} {A = Label} (λ l. l) 0 (Err (label_refusal error)) (coded label_code (Err fault))
label_told label_faults.BadLabel label.BadLabel h = (refl, refl)
label_told label_faults.BadLabel label.Memory h = tt
label_told label_faults.BadLabel (label.Path path.AboveRoot) h = absurd cc
label_told label_faults.BadLabel (label.Path path.BadPath) h = absurd cc
label_told label_faults.BadLabel (label.Path path.Memory) h = tt
label_told (label_faults.Path path_faults.AboveRoot) label.BadLabel h = absurd cc
label_told (label_faults.Path path_faults.AboveRoot) label.Memory h = tt
label_told (label_faults.Path path_faults.AboveRoot) (label.Path path.AboveRoot) h = (refl, refl)
label_told (label_faults.Path path_faults.AboveRoot) (label.Path path.BadPath) h = absurd cc
label_told (label_faults.Path path_faults.AboveRoot) (label.Path path.Memory) h = tt
label_told (label_faults.Path path_faults.BadPath) label.BadLabel h = absurd cc
label_told (label_faults.Path path_faults.BadPath) label.Memory h = tt
label_told (label_faults.Path path_faults.BadPath) (label.Path path.AboveRoot) h = absurd cc
label_told (label_faults.Path path_faults.BadPath) (label.Path path.BadPath) h = (refl, refl)
label_told (label_faults.Path path_faults.BadPath) (label.Path path.Memory) h = tt

pub label_ok : (found : Result Label LabelFault) (l : Label) → found ≡ Ok l → coded label_code found ≡ Ok l
label_ok found l h = ap (coded label_code) h

pub label_err : (found : Result Label LabelFault) (error : LabelError) (r : CallError) → r ≡ label_refusal error → (error ≡ label.Memory) ⊎ (label_answered found ≡ Err error) → IsFound {T = Label} {A = Label} (λ l. l) 0 (Err r) (coded label_code found)
label_err found error r is h = subst (λ q. IsFound {T = Label} {A = Label} (λ l. l) 0 (Err q) (coded label_code found)) (sym is) (by found h)
  where
    by : (found : Result Label LabelFault) → (error ≡ label.Memory) ⊎ (label_answered found ≡ Err error) → IsFound {T = Label} {A = Label} (λ l. l) 0 (Err (label_refusal error)) (coded label_code found)
    by found (inl e) = subst (λ q. IsFound {T = Label} {A = Label} (λ l. l) 0 (Err (label_refusal q)) (coded label_code found)) (sym e) tt
    by (Ok l) (inr e) = absurd cc
    by (Err fault) (inr e) = label_told fault error e

pattern_told : (fault : PatternFault) (error : PatternError) → pattern_answered (Err fault) ≡ Err error → IsFound {T = Pattern} {A = Pattern} (λ p. p) 1 (Err (pattern_refusal error)) (coded pattern_code (Err fault))
pattern_told pattern_faults.BadPattern pattern.BadPattern h = (refl, refl)
pattern_told pattern_faults.BadPattern pattern.Memory h = tt
pattern_told pattern_faults.BadPattern (pattern.Path path.AboveRoot) h = absurd cc
pattern_told pattern_faults.BadPattern (pattern.Path path.BadPath) h = absurd cc
pattern_told pattern_faults.BadPattern (pattern.Path path.Memory) h = tt
pattern_told (pattern_faults.Path path_faults.AboveRoot) pattern.BadPattern h = absurd cc
pattern_told (pattern_faults.Path path_faults.AboveRoot) pattern.Memory h = tt
pattern_told (pattern_faults.Path path_faults.AboveRoot) (pattern.Path path.AboveRoot) h = (refl, refl)
pattern_told (pattern_faults.Path path_faults.AboveRoot) (pattern.Path path.BadPath) h = absurd cc
pattern_told (pattern_faults.Path path_faults.AboveRoot) (pattern.Path path.Memory) h = tt
pattern_told (pattern_faults.Path path_faults.BadPath) pattern.BadPattern h = absurd cc
pattern_told (pattern_faults.Path path_faults.BadPath) pattern.Memory h = tt
pattern_told (pattern_faults.Path path_faults.BadPath) (pattern.Path path.AboveRoot) h = absurd cc
pattern_told (pattern_faults.Path path_faults.BadPath) (pattern.Path path.BadPath) h = (refl, refl)
pattern_told (pattern_faults.Path path_faults.BadPath) (pattern.Path path.Memory) h = tt

pub pattern_ok : (found : Result Pattern PatternFault) (p : Pattern) → found ≡ Ok p → coded pattern_code found ≡ Ok p
pattern_ok found p h = ap (coded pattern_code) h

pub pattern_err : (found : Result Pattern PatternFault) (error : PatternError) (r : CallError) → r ≡ pattern_refusal error → (error ≡ pattern.Memory) ⊎ (pattern_answered found ≡ Err error) → IsFound {T = Pattern} {A = Pattern} (λ p. p) 1 (Err r) (coded pattern_code found)
pattern_err found error r is h = subst (λ q. IsFound {T = Pattern} {A = Pattern} (λ p. p) 1 (Err q) (coded pattern_code found)) (sym is) (by found h)
  where
    by : (found : Result Pattern PatternFault) → (error ≡ pattern.Memory) ⊎ (pattern_answered found ≡ Err error) → IsFound {T = Pattern} {A = Pattern} (λ p. p) 1 (Err (pattern_refusal error)) (coded pattern_code found)
    by found (inl e) = subst (λ q. IsFound {T = Pattern} {A = Pattern} (λ p. p) 1 (Err (pattern_refusal q)) (coded pattern_code found)) (sym e) tt
    by (Ok p) (inr e) = absurd cc
    by (Err fault) (inr e) = pattern_told fault error e

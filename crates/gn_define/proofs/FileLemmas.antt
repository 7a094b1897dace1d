-- Outputs stand below the build directory.
use Rattle.std.proofs.Common.{◌≡◌, ℕ, Bool, true, false, List, [], ◌∷◌, map, Option, Some, None, Result, Ok, Err, cond, refl, subst}
use Rattle.gn_faults.specs.declared.code.Code.{Code}
use Rattle.gn_faults.specs.declared.code.Code.TheVariants as codes
use Rattle.gn_paths.specs.declared.error.PathFault.{PathFault}
use Rattle.gn_paths.specs.Directory.{is_below}
use Rattle.gn_paths.specs.Resolve.{path_meant}
use Rattle.gn_substs.specs.declared.subst.Subst.{Subst}
use Rattle.gn_define.specs.declared.forms.FileRole.TheVariants.{Output}
use Rattle.gn_define.specs.declared.place.Where.{Where}
use Rattle.gn_define.specs.Files.{file_position, has_names, path_fault, file_fault, text_alone, text_of_source, source_fault, or_later, first_fault, subst_fault, file_in}
use Rattle.gn_define.specs.Laws.{file_texts, StandBelow}
use Rattle.gn_define.specs.Reading.{then_do, unless, subst_in}

-- a text without a fault
one_below : (w : Where) (text : List ℕ) → file_fault w Output text ≡ None → (path : List ℕ) × (path_meant w.directory text ≡ Ok path) × (is_below w.build path ≡ true)
unfolding file_fault
one_below w text h = by (path_meant w.directory text) refl h
  where
    stands : (path : List ℕ) (b : Bool) → is_below w.build path ≡ b → cond b None (Some codes.BadPath) ≡ None → b ≡ true
    stands path true e g = refl
    stands path false e g = absurd cc

    by : (r : Result (List ℕ) PathFault) → path_meant w.directory text ≡ r → path_fault Output w.build r ≡ None → (path : List ℕ) × (path_meant w.directory text ≡ Ok path) × (is_below w.build path ≡ true)
    by (Ok path) e g = (path, e, stands path (is_below w.build path) refl g)
    by (Err fault) e g = absurd cc

-- texts of sources without a fault
all_below : (w : Where) (made : Subst) (sources : List (List ℕ)) → first_fault (source_fault w Output made) sources ≡ None
    → StandBelow w (map (text_of_source w (file_position w.kind Output) made) sources)
unfolding source_fault
all_below w made [] h = tt
all_below w made (s ∷ ss) h = by (λ g. all_below w made ss g) (source_fault w Output made s) refl h
  where
    text : List ℕ
    text = text_of_source w (file_position w.kind Output) made s

    by : (first_fault (source_fault w Output made) ss ≡ None → StandBelow w (map (text_of_source w (file_position w.kind Output) made) ss))
        → (p : Option Code) → source_fault w Output made s ≡ p → or_later p (first_fault (source_fault w Output made) ss) ≡ None
        → StandBelow w (map (text_of_source w (file_position w.kind Output) made) (s ∷ ss))
    by later None e g = (one_below w text e, later g)
    by later (Some code) e g = absurd cc

pub outputs_below : (w : Where) (sources : List (List ℕ)) (text : List ℕ) (made : Subst) → file_in w Output sources text ≡ Ok made → StandBelow w (file_texts w Output sources made)
outputs_below w sources text made h = by (subst_in (file_position w.kind Output) text) h
  where
    judged : (s : Subst) (b : Bool) → cond b (first_fault (source_fault w Output s) sources) (file_fault w Output (text_alone s)) ≡ None
        → StandBelow w (cond b (map (text_of_source w (file_position w.kind Output) s) sources) (text_alone s ∷ []))
    judged s true g = all_below w s sources g
    judged s false g = (one_below w (text_alone s) g, tt)

    whole : Subst → Result Subst Code
    whole s = Ok s

    taken : (s : Subst) (p : Option Code) → subst_fault w Output sources s ≡ p → unless p (whole s) ≡ Ok made → StandBelow w (file_texts w Output sources made)
    taken s None e g =
        let is : s ≡ made = cc in
        subst (λ t. StandBelow w (file_texts w Output sources t)) is (judged s (has_names (file_position w.kind Output)) e)
    taken s (Some code) e g = absurd cc

    by : (r : Result Subst Code) → then_do (λ s. unless (subst_fault w Output sources s) (Ok s)) r ≡ Ok made → StandBelow w (file_texts w Output sources made)
    by (Ok s) g = taken s (subst_fault w Output sources s) refl g
    by (Err code) g = absurd cc

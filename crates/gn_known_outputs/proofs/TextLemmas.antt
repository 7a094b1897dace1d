-- The paths that texts mean stand below the build directory where each text was taken as an output.
use Rattle.std.proofs.Common.{◌≡◌, ℕ, Bool, true, false, List, [], ◌∷◌, ◌++◌, ◌&&◌, map, Some, Result, Ok, Err, cond, refl, ap, ◌∙◌, subst}
use Rattle.std.specs.List.{list_all, list_any, flat_map}
use Rattle.std.specs.Str.{bytes_eq}
use Rattle.std.proofs.lemmas.List.Folds.{list_all-append}
use Rattle.gn_faults.specs.declared.code.Code.{Code}
use Rattle.gn_paths.specs.Directory.{is_below}
use Rattle.gn_substs.specs.declared.positions.Position.{Position}
use Rattle.gn_substs.specs.declared.subst.Subst.{Subst}
use Rattle.gn_values.specs.Val.{Val}
use Rattle.gn_define.specs.declared.place.Where.{Where}
use Rattle.gn_define.specs.Checking.{many_strings}
use Rattle.gn_define.specs.Fields.{substs_of}
use Rattle.gn_define.specs.Files.{has_names, text_alone, text_of_source}
use Rattle.gn_define.specs.Held.{Held, substs}
use Rattle.gn_define.specs.Laws.{StandBelow}
use Rattle.gn_define.specs.Outputs.{path_or_text, output_path, with_new, paths_behind, alone_path}
use Rattle.gn_define.specs.Reading.{then_do, bytes_of, all_read}

-- the texts for which a text stands at a position, and the paths that texts make there
abbrev pub texts_at : Where → Position → List (List ℕ) → Subst → List (List ℕ)
texts_at w position sources s = cond (has_names position) (map (text_of_source w position s) sources) (text_alone s ∷ [])

abbrev pub source_paths : Where → Position → List Subst → List ℕ → List (List ℕ)
source_paths w position ss source = paths_behind (λ s. output_path w (text_of_source w position s source)) [] ss

abbrev pub paths_at : Where → Position → List (List ℕ) → List Subst → List (List ℕ)
paths_at w position sources ss = cond (has_names position) (flat_map (source_paths w position ss) sources) (paths_behind (alone_path w) [] ss)

-- something holds of each of these texts
abbrev pub Each : (Subst → Type 0) → List Subst → Type 0
Each P [] = Unit {0}
Each P (s ∷ ss) = P s × Each P ss

each_pushed : (P : Subst → Type 0) (ss : List Subst) (s : Subst) → Each P ss → P s → Each P (ss ++ s ∷ [])
each_pushed P [] s all one = (one, tt)
each_pushed P (t ∷ ts) s all one = (all.0, each_pushed P ts s all.1 one)

-- a text that means a path below the build directory
text_below : (w : Where) (text : List ℕ) → StandBelow w (text ∷ []) → is_below w.build (output_path w text) ≡ true
text_below w text h = ap (λ r. is_below w.build (path_or_text text r)) h.0.1 ∙ h.0.2

-- paths of which each has a property
one_more : (p : List ℕ → Bool) (made : List (List ℕ)) (path : List ℕ) → list_all p made ≡ true → p path ≡ true → list_all p (with_new made path) ≡ true
one_more p made path all one = by (list_any (bytes_eq path) made)
  where
    by : (b : Bool) → list_all p (cond b made (made ++ path ∷ [])) ≡ true
    by true = all
    by false = list_all-append p made (path ∷ []) ∙ ap (λ b. b && list_all p (path ∷ [])) all ∙ ap (λ b. b && true) one

all_behind : (p : List ℕ → Bool) (path : Subst → List ℕ) (made : List (List ℕ)) (ss : List Subst) → list_all p made ≡ true → Each (λ s. p (path s) ≡ true) ss
    → list_all p (paths_behind path made ss) ≡ true
all_behind p path made [] all each = all
all_behind p path made (s ∷ ss) all each = all_behind p path (with_new made (path s)) ss (one_more p made (path s) all each.0) each.1

-- texts without substitutions of a source
each_alone : (w : Where) (ss : List Subst) → Each (λ s. StandBelow w (text_alone s ∷ [])) ss → Each (λ s. is_below w.build (alone_path w s) ≡ true) ss
each_alone w [] each = tt
each_alone w (s ∷ ss) each = (text_below w (text_alone s) each.0, each_alone w ss each.1)

-- texts for the first source, and for the others
each_first : (w : Where) (position : Position) (source : List ℕ) (sources : List (List ℕ)) (ss : List Subst)
    → Each (λ s. StandBelow w (map (text_of_source w position s) (source ∷ sources))) ss → Each (λ s. is_below w.build (output_path w (text_of_source w position s source)) ≡ true) ss
each_first w position source sources [] each = tt
each_first w position source sources (s ∷ ss) each = (text_below w (text_of_source w position s source) (each.0.0, tt), each_first w position source sources ss each.1)

each_other : (w : Where) (position : Position) (source : List ℕ) (sources : List (List ℕ)) (ss : List Subst)
    → Each (λ s. StandBelow w (map (text_of_source w position s) (source ∷ sources))) ss → Each (λ s. StandBelow w (map (text_of_source w position s) sources)) ss
each_other w position source sources [] each = tt
each_other w position source sources (s ∷ ss) each = (each.0.1, each_other w position source sources ss each.1)

for_sources : (w : Where) (position : Position) (ss : List Subst) (sources : List (List ℕ)) → Each (λ s. StandBelow w (map (text_of_source w position s) sources)) ss
    → list_all (is_below w.build) (flat_map (source_paths w position ss) sources) ≡ true
for_sources w position ss [] each = refl
for_sources w position ss (source ∷ sources) each =
    list_all-append below (source_paths w position ss source) (flat_map (source_paths w position ss) sources)
    ∙ ap (λ b. b && list_all below (flat_map (source_paths w position ss) sources)) first
    ∙ for_sources w position ss sources (each_other w position source sources ss each)
  where
    below : List ℕ → Bool
    below = is_below w.build

    first : list_all below (source_paths w position ss source) ≡ true
    first = all_behind below (λ s. output_path w (text_of_source w position s source)) [] ss refl (each_first w position source sources ss each)

pub paths_below : (w : Where) (position : Position) (ss : List Subst) (sources : List (List ℕ)) → Each (λ s. StandBelow w (texts_at w position sources s)) ss
    → list_all (is_below w.build) (paths_at w position sources ss) ≡ true
paths_below w position ss sources each = by (has_names position) each
  where
    by : (b : Bool) → Each (λ s. StandBelow w (cond b (map (text_of_source w position s) sources) (text_alone s ∷ []))) ss
        → list_all (is_below w.build) (cond b (flat_map (source_paths w position ss) sources) (paths_behind (alone_path w) [] ss)) ≡ true
    by true g = for_sources w position ss sources g
    by false g = all_behind (is_below w.build) (alone_path w) [] ss refl (each_alone w ss g)

-- what holds of each text that is read holds of all that are
all_taken : (P : Subst → Type 0) (read : List ℕ → Result Subst Code) → ((text : List ℕ) (s : Subst) → read text ≡ Ok s → P s)
    → (made : List Subst) (vs : List Val) (ss : List Subst) → Each P made → all_read read made vs ≡ Ok ss → Each P ss
all_taken P read holds made [] ss each h =
    let is : made ≡ ss = cc in
    subst (Each P) is each
all_taken P read holds made (v ∷ vs) ss each h = by (λ more more_hold g. all_taken P read holds more vs ss more_hold g) (read (bytes_of v)) refl h
  where
    Later : Type 0
    Later = (more : List Subst) → Each P more → all_read read more vs ≡ Ok ss → Each P ss

    by : Later → (r : Result Subst Code) → read (bytes_of v) ≡ r → then_do (λ s. all_read read (made ++ s ∷ []) vs) r ≡ Ok ss → Each P ss
    by later (Ok s) e g = later (made ++ s ∷ []) (each_pushed P made s each (holds (bytes_of v) s e)) g
    by later (Err code) e g = absurd cc

-- a field of texts that are read from the strings of a value
pub field_below : (position : Position) (read : List ℕ → Result Subst Code) (w : Where) (sources : List (List ℕ))
    → ((text : List ℕ) (s : Subst) → read text ≡ Ok s → StandBelow w (texts_at w position sources s)) → (v : Val) (held : Held)
    → then_do (λ vs. then_do (λ ss. Ok (substs ss)) (all_read read [] vs)) (many_strings v) ≡ Ok held
    → list_all (is_below w.build) (paths_at w position sources (substs_of (Some held))) ≡ true
field_below position read w sources taken v held h = by (many_strings v) h
  where
    Below : Held → Type 0
    Below f = list_all (is_below w.build) (paths_at w position sources (substs_of (Some f))) ≡ true

    of_texts : (vs : List Val) (r : Result (List Subst) Code) → all_read read [] vs ≡ r → then_do (λ ss. Ok (substs ss)) r ≡ Ok held → Below held
    of_texts vs (Ok ss) e g =
        let is : substs ss ≡ held = cc in
        subst Below is (paths_below w position ss sources (all_taken (λ s. StandBelow w (texts_at w position sources s)) read taken [] vs ss tt e))
    of_texts vs (Err code) e g = absurd cc

    by : (r : Result (List Val) Code) → then_do (λ vs. then_do (λ ss. Ok (substs ss)) (all_read read [] vs)) r ≡ Ok held → Below held
    by (Ok vs) g = of_texts vs (all_read read [] vs) refl g
    by (Err code) g = absurd cc

-- Laws of the calls.
use Rattle.std.specs.Prelude.{codes}
use Rattle.std.proofs.Common.{◌≡◌, ℕ, ◌||◌, Bool, true, false, cond, List, [], ◌∷◌, ◌++◌, Option, Some, None, option_map, Result, Ok, Err, refl, sym, ap, ◌∙◌, subst}
use Rattle.std.specs.List.{list_all}
use Rattle.std.proofs.lemmas.List.{append-nil}
use Rattle.std.proofs.lemmas.Bool.{and_parts}
use Rattle.gn_faults.specs.declared.code.Code.{Code}
use Rattle.gn_faults.specs.declared.code.Code.TheVariants.{UnknownSubstitution}
use Rattle.gn_labels.specs.declared.error.LabelFault.{LabelFault}
use Rattle.gn_labels.specs.declared.label.Label.{Label}
use Rattle.gn_labels.specs.Labels.{spelling}
use Rattle.gn_labels.specs.Laws.{AreOne}
use Rattle.gn_labels.specs.declared.pattern.Pattern.{Pattern}
use Rattle.gn_labels.specs.Patterns.{pattern_read}
use Rattle.gn_labels.specs.Reading.{label_read}
use Rattle.gn_substs.specs.declared.names.Substitution.TheVariants.{Source}
use Rattle.gn_substs.specs.declared.positions.Position.TheVariants.{FileTemplate}
use Rattle.gn_substs.specs.declared.subst.Subst.{Subst}
use Rattle.gn_substs.specs.Pieces.{name_from}
use Rattle.gn_substs.specs.Reading.{subst_read}
use Rattle.gn_values.specs.Val.{Val, Vals, vbool, vstr, vlist, vals_of, list_of}
use Rattle.gn_values.specs.Limits.{text_fits, list_fits}
use Rattle.gn_value_model.proofs.Items.{list_of-vals}
use Rattle.gn_calls_text.specs.Answers.{Settled, gives, too_long, typed, text_answer, text_in, texts_in}
use Rattle.gn_calls_text.specs.Calls.{text_list}
use Rattle.gn_calls_path.specs.declared.call.PathCall.TheVariants.{GetLabelInfo, GetPathInfo, LabelMatches, ProcessFileTemplate}
use Rattle.gn_calls_path.specs.declared.names.PathInfo.{PathInfo}
use Rattle.gn_calls_path.specs.declared.names.PathInfo.TheVariants.{AbsPath}
use Rattle.gn_calls_path.specs.declared.place.Where.{Where}
use Rattle.gn_calls_path.specs.Calls.{path_call, info_if, path_info_at, taken}
use Rattle.gn_calls_path.specs.Directories.{path_at}
use Rattle.gn_calls_path.specs.Each.{OneOrList, one, listed, texts_answer, answer_each}
use Rattle.gn_calls_path.specs.Found.{coded, label_code, pattern_code, with_next, each, read_at}
use Rattle.gn_calls_path.specs.Labels.{label_at, with_toolchain, some_matches}
use Rattle.gn_calls_path.specs.Laws.{AreGivenAlone}
use Rattle.gn_calls_path.specs.Names.{path_info_of, label_info_of}
use Rattle.gn_calls_path.specs.Templates.{template_at, expanded_all}

-- the text and the items that an answer gives
abbrev text_given : Settled → List ℕ
text_given (gives (vstr t)) = t
text_given _ = []

abbrev items_given : Settled → List Val
items_given (gives (vlist vs)) = list_of vs
items_given _ = []

pub text_is : (t s : List ℕ) → text_answer t ≡ gives (vstr s) → t ≡ s
text_is t s h = by (text_fits t) h
  where
    by : (v : Bool) → cond v (gives (vstr t)) too_long ≡ gives (vstr s) → t ≡ s
    by true g = ap text_given g
    by false g = absurd cc

-- a label is its directory, its name and its toolchain
pub label_parts : (w : Where) (text dir name toolchain whole : List ℕ)
    → path_call GetLabelInfo w (vstr text ∷ vstr (codes "dir") ∷ []) ≡ gives (vstr dir)
    → path_call GetLabelInfo w (vstr text ∷ vstr (codes "name") ∷ []) ≡ gives (vstr name)
    → path_call GetLabelInfo w (vstr text ∷ vstr (codes "toolchain") ∷ []) ≡ gives (vstr toolchain)
    → path_call GetLabelInfo w (vstr text ∷ vstr (codes "label_with_toolchain") ∷ []) ≡ gives (vstr whole)
    → whole ≡ spelling dir name ++ 40 ∷ (toolchain ++ 41 ∷ [])
unfolding path_call label_info_of
label_parts w text dir name toolchain whole d n t h = by (label_at w text) d n t h
  where
    by : (found : Result Label Code)
        → read_at 0 found (λ l. text_answer l.dir) ≡ gives (vstr dir)
        → read_at 0 found (λ l. text_answer l.name) ≡ gives (vstr name)
        → read_at 0 found (λ l. text_answer l.toolchain) ≡ gives (vstr toolchain)
        → read_at 0 found (λ l. text_answer (with_toolchain l)) ≡ gives (vstr whole)
        → whole ≡ spelling dir name ++ 40 ∷ (toolchain ++ 41 ∷ [])
    by (Err code) d n t h = absurd cc
    by (Ok l) d n t h =
        sym (text_is (with_toolchain l) whole h)
        ∙ (λ i. spelling (text_is l.dir dir d i) (text_is l.name name n i) ++ 40 ∷ (text_is l.toolchain toolchain t i ++ 41 ∷ []))

-- a label matches itself as a pattern
pub label_matches_itself : (w : Where) (text : List ℕ) (name : Val) → AreOne (label_read w.directory w.toolchain text) (pattern_read w.directory text)
    → path_call GetLabelInfo w (vstr text ∷ vstr (codes "name") ∷ []) ≡ gives name
    → path_call LabelMatches w (vstr text ∷ vlist (vals_of (vstr text ∷ [])) ∷ []) ≡ gives (vbool true)
unfolding path_call label_info_of texts_in
label_matches_itself w text name one_of h = by (label_read w.directory w.toolchain text) refl h
  where
    answer : Label → Result (List Pattern) Code → Settled
    answer l found = read_at 1 found (λ ps. gives (vbool (some_matches l ps)))

    by : (r : Result Label LabelFault) → label_read w.directory w.toolchain text ≡ r → read_at 0 (coded label_code r) (λ l. text_answer l.name) ≡ gives name
        → read_at 0 (coded label_code r) (λ l. answer l (with_next (coded pattern_code (pattern_read w.directory text)) (Ok []))) ≡ gives (vbool true)
    by (Err fault) e g = absurd cc
    by (Ok l) e g =
        let exact = one_of.good l e in
        ap (λ r. answer l (with_next (coded pattern_code r) (Ok []))) exact.1
        ∙ ap (λ b. gives (vbool (b || false))) exact.2.has

each_alone : (made : List ℕ → Result (List ℕ) Code) (alone : Val → Settled) → ((t : List ℕ) → alone (vstr t) ≡ answer_each made (one t)) → (ts rs : List (List ℕ)) → each made ts ≡ Ok rs → list_all text_fits rs ≡ true → AreGivenAlone alone (text_list ts) (text_list rs)
each_alone made alone same [] [] h fits = tt
each_alone made alone same [] (r ∷ rs) h fits = absurd cc
each_alone made alone same (t ∷ ts) rs h fits = by (each_alone made alone same ts) (made t) refl (each made ts) refl h
  where
    by : ((rs : List (List ℕ)) → each made ts ≡ Ok rs → list_all text_fits rs ≡ true → AreGivenAlone alone (text_list ts) (text_list rs))
        → (p : Result (List ℕ) Code) → made t ≡ p → (q : Result (List (List ℕ)) Code) → each made ts ≡ q → with_next p q ≡ Ok rs → AreGivenAlone alone (vstr t ∷ text_list ts) (text_list rs)
    by further (Ok x) e (Ok xs) f g =
        let is : x ∷ xs ≡ rs = cc in
        let both = and_parts (text_fits x) (list_all text_fits xs) (ap (list_all text_fits) is ∙ fits) in
        subst (λ rs. AreGivenAlone alone (vstr t ∷ text_list ts) (text_list rs)) is
        (same t ∙ ap (λ r. read_at 0 r text_answer) e ∙ ap (λ b. cond b (gives (vstr x)) too_long) both.0, further xs f both.1)
    by further (Ok x) e (Err code) f g = absurd cc
    by further (Err code) e q f g = absurd cc

listed_alone : (made : List ℕ → Result (List ℕ) Code) (alone : Val → Settled) → ((t : List ℕ) → alone (vstr t) ≡ answer_each made (one t)) → (ts : List (List ℕ)) (results : Vals) → answer_each made (listed ts) ≡ gives (vlist results) → AreGivenAlone alone (text_list ts) (list_of results)
listed_alone made alone same ts results h = by (each made ts) refl h
  where
    fit : (rs : List (List ℕ)) → each made ts ≡ Ok rs → (v : Bool) → list_all text_fits rs ≡ v → (u : Bool) → cond v (cond u (gives (vlist (vals_of (text_list rs)))) too_long) too_long ≡ gives (vlist results) → AreGivenAlone alone (text_list ts) (list_of results)
    fit rs e true f true g = subst (λ vs. AreGivenAlone alone (text_list ts) vs) (sym (list_of-vals (text_list rs)) ∙ ap items_given g) (each_alone made alone same ts rs e f)
    fit rs e true f false g = absurd cc
    fit rs e false f u g = absurd cc

    by : (p : Result (List (List ℕ)) Code) → each made ts ≡ p → read_at 0 p texts_answer ≡ gives (vlist results) → AreGivenAlone alone (text_list ts) (list_of results)
    by (Ok rs) e g = fit rs e (list_all text_fits rs) refl (list_fits (text_list rs)) g
    by (Err code) e g = absurd cc

pub infos_alone : ((ts : List (List ℕ)) → texts_in (vlist (vals_of (text_list ts))) ≡ Some ts) → (w : Where) (texts : List (List ℕ)) (what : Val) (results : Vals) → path_call GetPathInfo w (vlist (vals_of (text_list texts)) ∷ what ∷ []) ≡ gives (vlist results) → AreGivenAlone (λ v. path_call GetPathInfo w (v ∷ what ∷ [])) (text_list texts) (list_of results)
unfolding path_call
infos_alone texts_back w texts what results h = by (text_in what) refl (sym (ap (λ p. typed 0 (option_map listed p) (λ given. asked (text_in what) given)) (texts_back texts)) ∙ h)
  where
    answer : Option PathInfo → OneOrList → Settled
    answer info given = taken info (λ i. answer_each (path_info_at w i) given)

    asked : Option (List ℕ) → OneOrList → Settled
    asked p given = typed 1 p (λ name. answer (path_info_of name) given)

    told : (name : List ℕ) → text_in what ≡ Some name → (q : Option PathInfo) → path_info_of name ≡ q → answer q (listed texts) ≡ gives (vlist results) → AreGivenAlone (λ v. path_call GetPathInfo w (v ∷ what ∷ [])) (text_list texts) (list_of results)
    told name e (Some info) f g =
        listed_alone (path_info_at w info) (λ v. path_call GetPathInfo w (v ∷ what ∷ [])) (λ t. ap (λ p. asked p (one t)) e ∙ ap (λ q. answer q (one t)) f) texts results g
    told name e None f g = absurd cc

    by : (p : Option (List ℕ)) → text_in what ≡ p → asked p (listed texts) ≡ gives (vlist results) → AreGivenAlone (λ v. path_call GetPathInfo w (v ∷ what ∷ [])) (text_list texts) (list_of results)
    by (Some name) e g = told name e (path_info_of name) refl g
    by None e g = absurd cc

-- `{{source}}` is the path
abbrev source_template : Subst
source_template = record { pieces = record { before = []; substitution = Source } ∷ []; last = [] }

source_read : subst_read FileTemplate (codes "{{source}}") ≡ Ok source_template
unfolding subst_read name_from
source_read = refl

sources_are : (w : Where) (paths : List (List ℕ)) → expanded_all w paths (source_template ∷ []) ≡ paths
sources_are w [] = refl
sources_are w (p ∷ ps) = λ i. (append-nil (p ++ []) ∙ append-nil p) i ∷ sources_are w ps i

info_same : (w : Where) (ts : List (List ℕ)) → each (path_info_at w AbsPath) ts ≡ each (path_at w.directory) ts
info_same w [] = refl
info_same w (t ∷ ts) = λ i. with_next (by (path_at w.directory t) i) (info_same w ts i)
  where
    by : (r : Result (List ℕ) Code) → info_if w AbsPath t r ≡ r
    by (Ok p) = refl
    by (Err code) = refl

pub source_is_abspath : (w : Where) (sources : Vals) → path_call ProcessFileTemplate w (vlist sources ∷ vstr (codes "{{source}}") ∷ []) ≡ path_call GetPathInfo w (vlist sources ∷ vstr (codes "abspath") ∷ [])
unfolding path_call path_info_of
source_is_abspath w sources = by (texts_in (vlist sources))
  where
    expanded_by : Result (List Subst) Code → List (List ℕ) → Settled
    expanded_by found paths = read_at 1 found (λ templates. texts_answer (expanded_all w paths templates))

    read : (r : Result (List (List ℕ)) Code) → read_at 0 r (expanded_by (Ok (source_template ∷ []))) ≡ read_at 0 r texts_answer
    read (Ok paths) = ap texts_answer (sources_are w paths)
    read (Err code) = refl

    by : (p : Option (List (List ℕ))) → typed 0 p (λ texts. read_at 0 (each (path_at w.directory) texts) (expanded_by (each template_at (codes "{{source}}" ∷ []))))
        ≡ typed 0 (option_map listed p) (λ given. answer_each (path_info_at w AbsPath) given)
    by None = refl
    by (Some texts) =
        ap (λ r. read_at 0 (each (path_at w.directory) texts) (expanded_by (with_next (coded (λ offset. UnknownSubstitution) r) (Ok [])))) source_read
        ∙ read (each (path_at w.directory) texts) ∙ ap (λ r. read_at 0 r texts_answer) (sym (info_same w texts))

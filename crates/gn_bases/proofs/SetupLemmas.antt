-- What was read before a build is loaded, and a map that shares it.
use Rattle.std.proofs.Common.{◌≡◌, ℕ, List, [], ◌∷◌, ◌++◌, append_assoc, refl, sym, ap, ◌∙◌, subst}
use Rattle.std.proofs.lemmas.List.{append-nil}
use Rattle.std.specs.Ordering.{nat_cmp}
use Rattle.std.specs.Cmp.Lexicographic.{slice_cmp, nat_list_cmp_total}
use Rattle.std.specs.Map.{keys_of}
use Rattle.std.specs.List.Sorted.{IsStrictlySortedBy}
use Rattle.gn_basics.proofs.Tables.{insert_last, insert_entry-seen}
use Rattle.gn_values.specs.Tables.{Table, with_name, with_names}
use Rattle.gn_answers.specs.Answers.{content_view}
use Rattle.gn_bases.specs.Setups.{contents_known}
use Rattle.gn_answers.specs.declared.answer.FileContent.{FileContent}

-- a path that is put into a map is put into what the map shows
pub put_shows : (es : List (List ℕ × FileContent)) (path : List ℕ) (content : FileContent) → contents_known (with_name path content es) ≡ with_name path (content_view content) (contents_known es)
put_shows es path content = insert_entry-seen content_view (slice_cmp nat_cmp) es path content

-- entries in order that are put behind others whose names stand before them, one by one
put_behind : {A : Type 0} (es front : Table A) → IsStrictlySortedBy (slice_cmp nat_cmp) (keys_of (front ++ es)) → with_names es front ≡ front ++ es
put_behind [] front s = sym (append-nil front)
put_behind {A} (e ∷ es) front s =
    ap (with_names es) (insert_last nat_list_cmp_total front es e s)
    ∙ put_behind es (front ++ e ∷ []) (subst (λ (t : Table A). IsStrictlySortedBy (slice_cmp nat_cmp) (keys_of t)) (sym (append_assoc front (e ∷ []) es)) s)
    ∙ append_assoc front (e ∷ []) es

-- what a map shows has the map's keys
shown_keys : (es : List (List ℕ × FileContent)) → keys_of (contents_known es) ≡ keys_of es
shown_keys [] = refl
shown_keys (e ∷ es) = ap (λ (ks : List (List ℕ)). e.0 ∷ ks) (shown_keys es)

-- a map's entries, put into one that has none
pub all_put : (es : List (List ℕ × FileContent)) → IsStrictlySortedBy (slice_cmp nat_cmp) (keys_of es) → with_names (contents_known es) [] ≡ contents_known es
all_put es sorted = put_behind (contents_known es) [] (subst (IsStrictlySortedBy (slice_cmp nat_cmp)) (sym (shown_keys es)) sorted)

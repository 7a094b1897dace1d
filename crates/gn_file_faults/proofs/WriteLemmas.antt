-- The calls that count, of an execution and of several, and lists that grow at their end.
use Rattle.std.proofs.Common.{◌≡◌, ℕ, ◌+◌, ◌<◌, List, [], ◌∷◌, ◌++◌, length, get_or, drop, map, Bool, true, false, ◌||◌, if◌then◌else◌, refl, sym, ◌∙◌, ap, subst, append_assoc}
use Rattle.std.specs.List.{list_any}
use Rattle.std.specs.Str.{bytes_eq}
use Rattle.std.proofs.lemmas.List.{map-append}
use Rattle.gn_basics.proofs.Lists.{drop_here}
use Rattle.gn_items.specs.declared.written.Written.{Written}
use Rattle.gn_file_faults.specs.Uses.{Use}
use Rattle.gn_file_faults.specs.Writes.{writes, counted, Execution, write_use, writes_from}

-- a list that grows by one item, seen by a function
pub pushed : {A B : Type 0} (f : A → B) (xs : List A) (x : A) (ys : List B) → map f (xs ++ x ∷ []) ++ ys ≡ map f xs ++ (f x ∷ ys)
pushed f [] x ys = refl
pushed f (a ∷ xs) x ys = ap (λ zs. f a ∷ zs) (pushed f xs x ys)

-- a set that grows by one path
pub one_more : (known found rest : Bool) → ((found || known) || rest) ≡ (known || (found || rest))
one_more true true rest = refl
one_more true false rest = refl
one_more false true rest = refl
one_more false false rest = refl

either_mapped : {A B : Type 0} (f : A → B) (b : Bool) (x : A) → map f (if b then [] else x ∷ []) ≡ (if b then [] else f x ∷ [])
either_mapped f true x = refl
either_mapped f false x = refl

-- the calls that count from a place on, by those behind it
pub counted_more : (f : Written → Use) (files : List Written) (i : ℕ) (w : Written) → i < length files → w ≡ get_or files i w
    → map f (counted (drop i files)) ≡ map f (counted (drop (i + 1) files)) ++ (if list_any (writes w.path) (drop (i + 1) files) then [] else f w ∷ [])
counted_more f files i w l is =
    let rest = drop (i + 1) files in
    ap (λ ws. map f (counted ws)) (drop_here files i w l ∙ ap (λ (x : Written). x ∷ rest) (sym is))
    ∙ map-append f (counted rest) (if list_any (writes w.path) rest then [] else w ∷ [])
    ∙ ap (λ zs. map f (counted rest) ++ zs) (either_mapped f (list_any (writes w.path) rest) w)

-- whether a path is written from a place on
pub written_more : (other : List ℕ) (files : List Written) (i : ℕ) (w : Written) → i < length files → w ≡ get_or files i w
    → list_any (writes other) (drop i files) ≡ (writes other w || list_any (writes other) (drop (i + 1) files))
written_more other files i w l is = ap (list_any (writes other)) (drop_here files i w l ∙ ap (λ (x : Written). x ∷ drop (i + 1) files) (sym is))

-- one call more, from the last one back
calls_here : (f : Written → Use) (files : List Written) (i : ℕ) (w : Written) (uses with_it before : List Use) (later : List ℕ → Bool) → i < length files → w ≡ get_or files i w
    → ((other : List ℕ) → later other ≡ list_any (writes other) (drop (i + 1) files)) → uses ≡ before ++ map f (counted (drop (i + 1) files))
    → with_it ≡ uses ++ (if later w.path then [] else f w ∷ []) → with_it ≡ before ++ map f (counted (drop i files))
calls_here f files i w uses with_it before later l is knows so_far e =
    e
    ∙ ap (λ (us : List Use). us ++ (if later w.path then [] else f w ∷ [])) so_far
    ∙ append_assoc before (map f (counted (drop (i + 1) files))) (if later w.path then [] else f w ∷ [])
    ∙ ap (λ (b : Bool). before ++ (map f (counted (drop (i + 1) files)) ++ (if b then [] else f w ∷ []))) (knows w.path)
    ∙ ap (λ (us : List Use). before ++ us) (sym (counted_more f files i w l is))

pub calls_more : (f : Written → Use) (files : List Written) (n i : ℕ) (w : Written) (uses with_it before : List Use) (later : List ℕ → Bool) → i + 1 ≡ n → i < length files → w ≡ get_or files i w
    → ((other : List ℕ) → later other ≡ list_any (writes other) (drop n files)) → uses ≡ before ++ map f (counted (drop n files))
    → with_it ≡ uses ++ (if later w.path then [] else f w ∷ []) → with_it ≡ before ++ map f (counted (drop i files))
calls_more f files n i w uses with_it before later next l is =
    subst (λ (m : ℕ). ((other : List ℕ) → later other ≡ list_any (writes other) (drop m files)) → uses ≡ before ++ map f (counted (drop m files))
    → with_it ≡ uses ++ (if later w.path then [] else f w ∷ []) → with_it ≡ before ++ map f (counted (drop i files)))
    next (calls_here f files i w uses with_it before later l is)

pub paths_more : (files : List Written) (n i : ℕ) (w : Written) (later with_it : List ℕ → Bool) → i + 1 ≡ n → i < length files → w ≡ get_or files i w
    → ((other : List ℕ) → later other ≡ list_any (writes other) (drop n files)) → ((other : List ℕ) → with_it other ≡ (bytes_eq w.path other || later other)) → (other : List ℕ)
    → with_it other ≡ list_any (writes other) (drop i files)
paths_more files n i w later with_it next l is knows e other =
    e other ∙ ap (λ (b : Bool). bytes_eq w.path other || b) (knows other ∙ ap (λ (m : ℕ). list_any (writes other) (drop m files)) (sym next))
    ∙ sym (written_more other files i w l is)

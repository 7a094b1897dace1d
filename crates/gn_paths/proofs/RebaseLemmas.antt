-- Components that lead from one directory to another, over texts in which each stands behind a slash.
use Rattle.std.proofs.Common.{◌≡◌, ℕ, ◌+◌, ◌-◌, ◌<◌, ◌≤◌, Bool, true, false, cond, List, [], ◌∷◌, ◌++◌, length, take, drop, map, replicate, refl, sym, ap, ◌∙◌, subst, true≢false, arith, get_or, append_assoc, ◌⊎◌, inl, inr, not, add-one, suc, zero}
use Rattle.std.specs.List.{All, position_or_len, count_by, onto_first}
use Rattle.std.specs.Str.{bytes_eq}
use Rattle.std.proofs.lemmas.Bool.{cases_lt}
use Rattle.std.proofs.lemmas.List.{append-nil, replicate-append-replicate, length-drop}
use Rattle.std.proofs.lemmas.List.Elements.{All-append}
use Rattle.std.proofs.lemmas.List.Splits.{slice_split-cons_no, length-slice_split}
use Rattle.std.proofs.lemmas.List.Sums.{prefix_len_stops}
use Rattle.std.proofs.Math.Seq.{take-length, drop-cons, drop-length}
use Rattle.gn_basics.proofs.Lists.{split_last, split_more}
use Rattle.gn_paths.specs.Components.{is_slash, two_dots, HasNoSlash, pieces, trail, is_absolute, is_source, components, without_final_slash}
use Rattle.gn_paths.specs.Rebase.{relative, joined, parts, IsTrail, rooted, root_components, system_components, closed, or_dot, dotted}
use Rattle.gn_paths.proofs.PieceLemmas.{Cut, cut, IsRooted, trail-parts, parts-trail, parts_plain, components_plain, trail-append, slash_is, one_slash}

-- a text of components without slashes is their trail
pub parts-from_trail : (t : List ℕ) (cs : List (List ℕ)) → t ≡ trail cs → All HasNoSlash cs → parts t ≡ cs
parts-from_trail t cs e h = ap parts e ∙ parts-trail cs h

pub IsTrail-from_trail : (t : List ℕ) (cs : List (List ℕ)) → t ≡ trail cs → All HasNoSlash cs → IsTrail t
IsTrail-from_trail t cs e h = ap trail (parts-from_trail t cs e h) ∙ sym e

-- a trail that isn't empty begins with a slash
first_slash : (x : ℕ) (r : List ℕ) → IsTrail (x ∷ r) → is_slash x ≡ true
first_slash x r h = by (is_slash x) refl
  where
    other : (ms : List (List ℕ)) → trail ms ≡ x ∷ r → is_slash x ≡ false → is_slash x ≡ true
    other [] e f = absurd cc
    other (m ∷ ms) e f = let q : 47 ≡ x = cc in ap is_slash (sym q)

    by : (b : Bool) → is_slash x ≡ b → is_slash x ≡ true
    by true e = e
    by false e =
        let k = cut r in
        let more : parts (x ∷ r) ≡ k.more = ap (drop 1) (slice_split-cons_no is_slash x r e ∙ ap (onto_first x) k.pieces_are) in
        other k.more (ap trail (sym more) ∙ h) e

-- the first component and the further ones
pub record IsSplit (t first more : List ℕ) : Type 0 where
  pub value : parts t ≡ first ∷ parts more
  pub more_trail : IsTrail more

slash_at : (r : List ℕ) (n : ℕ) → n ≡ position_or_len is_slash r → n < length r → is_slash (get_or r n 0) ≡ true
slash_at r n e l = by (is_slash (get_or r n 0)) (ap (λ m. not (is_slash (get_or r m 0))) e ∙ prefix_len_stops (λ x. not (is_slash x)) r 0 (omega (arith, e)))
  where
    by : (b : Bool) → not b ≡ false → b ≡ true
    by true h = refl
    by false h = absurd (true≢false h)

split_at_slash : (r : List ℕ) (n : ℕ) → n ≡ position_or_len is_slash r → n ≤ length r → IsSplit (47 ∷ r) (take n r) (drop n r)
split_at_slash r n e w = by (cases_lt n (length r))
  where
    by : (n < length r) ⊎ (length r ≤ n) → IsSplit (47 ∷ r) (take n r) (drop n r)
    by (inl l) =
        let s : is_slash (get_or r n 0) ≡ true = slash_at r n e l in
        let here : drop n r ≡ 47 ∷ drop (n + 1) r = drop-cons r n 0 l ∙ ap (λ x. x ∷ drop (suc n) r) (slash_is _ s) ∙ ap (λ m. 47 ∷ drop m r) (sym (add-one n)) in
        record {
          value = split_more is_slash r n e l ∙ ap (λ x. take n r ∷ x) (sym (ap parts here));
          more_trail = trail-parts (drop n r) (inr (drop (n + 1) r, here));
        }
    by (inr l) =
        let whole : n ≡ length r = omega arith in
        let none : drop n r ≡ [] = ap (λ m. drop m r) whole ∙ drop-length r in
        record {
          value = split_last is_slash r (sym e ∙ whole) ∙ ap (λ x. x ∷ []) (sym (ap (λ m. take m r) whole ∙ take-length r)) ∙ ap (λ x. take n r ∷ x) (sym (ap parts none));
          more_trail = trail-parts (drop n r) (inl none);
        }

pub split_first : (t r : List ℕ) (n : ℕ) → IsTrail t → 0 < length t → r ≡ drop 1 t → n ≡ position_or_len is_slash r → n ≤ length r → IsSplit t (take n r) (drop n r)
split_first [] r n h l e p w = absurd (omega arith)
split_first (x ∷ xs) r n h l e p w =
    let q : x ≡ 47 = slash_is x (first_slash x xs h) in
    subst (λ y. IsSplit y (take n r) (drop n r)) (ap (λ z. z ∷ r) (sym q) ∙ ap (λ z. x ∷ z) e) (split_at_slash r n p w)

-- one more `..`
pub ups_more : (xs : List ℕ) (k : ℕ) → (xs ++ trail (replicate k two_dots)) ++ (47 ∷ two_dots) ≡ xs ++ trail (replicate (k + 1) two_dots)
ups_more xs k =
    append_assoc xs (trail (replicate k two_dots)) (47 ∷ two_dots) ∙ ap (λ t. xs ++ t) (sym (trail-append (replicate k two_dots) (replicate 1 two_dots))) ∙ ap (λ l. xs ++ trail l) (replicate-append-replicate k 1 two_dots)

-- `..` for each of `ups`, and then the path
pub joined-ups : (old path : List ℕ) (ups : ℕ) → 0 < ups → IsTrail path → ((old ++ two_dots) ++ trail (replicate (ups - 1) two_dots)) ++ path ≡ old ++ joined (replicate ups two_dots ++ parts path)
joined-ups old path zero l h = absurd (omega arith)
joined-ups old path (suc n) l h =
    let less : suc n - 1 ≡ n = omega arith in
    ap (λ k. ((old ++ two_dots) ++ trail (replicate k two_dots)) ++ path) less ∙ ap (λ t. ((old ++ two_dots) ++ trail (replicate n two_dots)) ++ t) (sym h) ∙ append_assoc (old ++ two_dots) (trail (replicate n two_dots)) (trail (parts path)) ∙ ap (λ t. (old ++ two_dots) ++ t) (sym (trail-append (replicate n two_dots) (parts path))) ∙ append_assoc old two_dots (trail (replicate n two_dots ++ parts path))

-- no component leads from nowhere, and `..` for each leads to nowhere
pub relative-none : (xs : List (List ℕ)) → relative xs [] ≡ map (λ _. two_dots) xs ++ []
relative-none [] = refl
relative-none (x ∷ xs) = sym (append-nil (map (λ _. two_dots) (x ∷ xs)))

-- components that differ
pub relative-differ : (xs ys : List (List ℕ)) (x y : List ℕ) (ds cs : List (List ℕ)) → ds ≡ x ∷ xs → cs ≡ y ∷ ys → bytes_eq x y ≡ false → relative ds cs ≡ map (λ _. two_dots) ds ++ cs
relative-differ xs ys x y ds cs e f d =
    ap (λ l. relative l cs) e ∙ ap (relative (x ∷ xs)) f ∙ ap (λ b. cond b (relative xs ys) (map (λ _. two_dots) (x ∷ xs) ++ y ∷ ys)) d ∙ sym (ap (λ l. map (λ _. two_dots) l ++ cs) e ∙ ap (λ l. map (λ _. two_dots) (x ∷ xs) ++ l) f)

-- and components that don't
pub relative-same : (xs ys : List (List ℕ)) (x y : List ℕ) (ds cs : List (List ℕ)) → ds ≡ x ∷ xs → cs ≡ y ∷ ys → bytes_eq x y ≡ true → relative ds cs ≡ relative xs ys
relative-same xs ys x y ds cs e f d =
    ap (λ l. relative l cs) e ∙ ap (relative (x ∷ xs)) f ∙ ap (λ b. cond b (relative xs ys) (map (λ _. two_dots) (x ∷ xs) ++ y ∷ ys)) d

-- `..` for each component
pub map-dots : (xs : List (List ℕ)) → map (λ _. two_dots) xs ≡ replicate (length xs) two_dots
map-dots [] = refl
map-dots (x ∷ xs) = ap (λ l. two_dots ∷ l) (map-dots xs)

-- a text has as many components as slashes
count-parts : (t : List ℕ) → length (parts t) ≡ count_by is_slash t
count-parts t = omega (arith, length-drop 1 (pieces t), length-slice_split is_slash t)

pub dots-counted : (t : List ℕ) (ys : List (List ℕ)) → map (λ _. two_dots) (parts t) ++ ys ≡ replicate (count_by is_slash t) two_dots ++ ys
dots-counted t ys = ap (λ l. l ++ ys) (map-dots (parts t) ∙ ap (λ n. replicate n two_dots) (count-parts t))

-- the root's own components
rooted_is : (t : List ℕ) → IsRooted (rooted t)
rooted_is [] = inl refl
rooted_is (b ∷ bs) = by (is_absolute (b ∷ bs)) refl
  where
    by : (c : Bool) → is_absolute (b ∷ bs) ≡ c → IsRooted (cond c (b ∷ bs) (47 ∷ b ∷ bs))
    by true e = let q : b ≡ 47 = slash_is b (sym (one_slash b) ∙ e) in inr (bs, ap (λ x. x ∷ bs) q)
    by false e = inr (b ∷ bs, refl)

pub trail-system : (root path : List ℕ) → trail (root_components root ++ components path) ≡ rooted (without_final_slash root) ++ trail (components path)
unfolding root_components
trail-system root path =
    trail-append (parts (rooted (without_final_slash root))) (components path) ∙ ap (λ t. t ++ trail (components path)) (trail-parts (rooted (without_final_slash root)) (rooted_is (without_final_slash root)))

-- no component of a system path holds a slash
pub system_plain : (root path : List ℕ) → All HasNoSlash (system_components root path)
unfolding root_components
system_plain root path = by (is_source path)
  where
    by : (b : Bool) → All HasNoSlash (cond b (root_components root ++ components path) (components path))
    by true = All-append HasNoSlash (root_components root) (components path) (parts_plain (rooted (without_final_slash root))) (components_plain path)
    by false = components_plain path

-- an end of the common components
pub relative-no_base : (b p : List ℕ) → b ≡ [] → relative (parts b) (parts p) ≡ map (λ _. two_dots) (parts b) ++ parts p
relative-no_base b p e = ap (λ t. relative (parts t) (parts p)) e ∙ sym (ap (λ t. map (λ _. two_dots) (parts t) ++ parts p) e)

pub relative-no_path : (b p : List ℕ) → p ≡ [] → relative (parts b) (parts p) ≡ map (λ _. two_dots) (parts b) ++ parts p
relative-no_path b p e = ap (λ t. relative (parts b) (parts t)) e ∙ relative-none (parts b) ∙ sym (ap (λ t. map (λ _. two_dots) (parts b) ++ parts t) e)

-- what is shown for two trails is what their components give
pub shown_as : (b p : List ℕ) (ds cs : List (List ℕ)) (f g : Bool) → b ≡ trail ds → All HasNoSlash ds → p ≡ trail cs → All HasNoSlash cs → f ≡ g → closed (joined (relative (parts b) (parts p))) f ≡ closed (joined (relative ds cs)) g
shown_as b p ds cs f g e h k i q =
    ap (λ l. closed (joined (relative l (parts p))) f) (parts-from_trail b ds e h) ∙ ap (λ l. closed (joined (relative ds l)) f) (parts-from_trail p cs k i) ∙ ap (closed (joined (relative ds cs))) q

-- components with a slash between two, where `.` stands instead of nothing
pub joined_dotted : (t : List ℕ) → IsTrail t → joined (parts t) ≡ dotted (drop 1 t)
joined_dotted [] h = refl
joined_dotted (x ∷ r) h = ap (λ y. joined (parts (y ∷ r))) (slash_is x (first_slash x r h)) ∙ ap joined k.pieces_are ∙ by k.first k.more k.first_plain ∙ ap dotted (sym k.joins)
  where
    k : Cut r
    k = cut r

    down : (ms : List (List ℕ)) → 46 ∷ trail ms ≡ dotted (trail ms)
    down [] = refl
    down (m ∷ ms) = refl

    by : (f : List ℕ) (ms : List (List ℕ)) → HasNoSlash f → or_dot f ++ trail ms ≡ dotted (f ++ trail ms)
    by [] ms p = down ms
    by (b ∷ bs) ms p = sym (ap (λ c. cond c (46 ∷ ((b ∷ bs) ++ trail ms)) ((b ∷ bs) ++ trail ms)) (one_slash b ∙ p 0 0 (omega arith)))

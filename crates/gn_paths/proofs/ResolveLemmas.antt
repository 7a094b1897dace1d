-- The buffer holds what the components spell, and what a text leads to is in normal form.
use Rattle.std.proofs.Common.{◌≡◌, ℕ, ◌<◌, Bool, true, false, cond, ◌||◌, List, [], ◌∷◌, ◌++◌, length, take, Option, None, Some, Ok, Err, option_and_then, option_map, refl, sym, ap, ◌∙◌, subst, arith, eqb, append_assoc, Result, ◌⊎◌, inl, inr}
use Rattle.std.specs.Option.{ok_or}
use Rattle.std.specs.List.{All, before_last}
use Rattle.std.specs.Str.{bytes_eq}
use Rattle.std.proofs.lemmas.Bool.Decides.{Decides-eqb}
use Rattle.std.proofs.lemmas.List.{append-nil, take_at, length-append, get_or_at}
use Rattle.std.proofs.lemmas.List.Elements.{All-head, All-tail, All-take, All-push}
use Rattle.gn_paths.specs.declared.error.PathFault.{PathFault}
use Rattle.gn_paths.specs.declared.error.PathFault.TheVariants as faults
use Rattle.gn_paths.specs.declared.error.PathError.{PathError}
use Rattle.gn_paths.specs.declared.error.PathError.TheVariants.{AboveRoot, BadPath, Memory}
use Rattle.gn_paths.specs.Components.{is_slash, slash, two_dots, HasNoSlash, pieces, trail, top_of, is_absolute, is_system, components, spelled, ends_in_slash}
use Rattle.gn_paths.specs.Normal.{is_path_text}
use Rattle.gn_paths.specs.Resolve.{stays_there, without_last, stepped, walked, start_of, led, path_meant, path_answered, resolved}
use Rattle.gn_paths.specs.Buffer.{buffer_stepped, buffer_walked, buffer_closed, buffer_led}
use Rattle.gn_paths.proofs.PieceLemmas.{trail-append, ends, before_last-slash, top-components, components_plain, pieces_plain}

-- two counts that differ
eqb-more : (a b : ℕ) → b < a → eqb a b ≡ false
eqb-more a b l = by (eqb a b) refl
  where
    by : (c : Bool) → eqb a b ≡ c → eqb a b ≡ false
    by true e = let same = (Decides-eqb a b).0 e in absurd (omega arith)
    by false e = e

eqb-same : (a b : ℕ) → a ≡ b → eqb a b ≡ true
eqb-same a b e = (Decides-eqb a b).1 e

trail_longer : (top : List ℕ) (c : List ℕ) (cs : List (List ℕ)) → length top < length (top ++ trail (c ∷ cs))
trail_longer top c cs = omega (arith, length-append top (trail (c ∷ cs)))

-- the last of a list that isn't empty holds no slash where none of the list does
last_plain : (front : List (List ℕ)) (last : List ℕ) → All HasNoSlash (front ++ last ∷ []) → HasNoSlash last
last_plain front last h =
    subst HasNoSlash (get_or_at front last [] [] (length front) refl) (h (length front) [] (omega (arith, length-append front (last ∷ []))))

-- one more component behind its slash
grown : (top : List ℕ) (cs : List (List ℕ)) (c : List ℕ) → (top ++ trail cs) ++ 47 ∷ c ≡ top ++ trail (cs ++ c ∷ [])
grown top cs c =
    append_assoc top (trail cs) (47 ∷ c) ∙ ap (λ t. top ++ (trail cs ++ 47 ∷ t)) (sym (append-nil c)) ∙ ap (λ t. top ++ t) (sym (trail-append cs (c ∷ [])))

-- climbing takes the last component away
climbed : (top : List ℕ) (d : List ℕ) (ds : List (List ℕ)) → All HasNoSlash (d ∷ ds) → before_last is_slash (top ++ trail (d ∷ ds)) ≡ top ++ trail (take (length ds) (d ∷ ds))
climbed top d ds h =
    let e = ends d ds in
    let count : length e.front ≡ length ds = omega (arith, ap length e.is, length-append e.front (e.last ∷ [])) in
    let front : take (length ds) (d ∷ ds) ≡ e.front = ap (take (length ds)) e.is ∙ take_at e.front (e.last ∷ []) (length ds) count in
    let plain : HasNoSlash e.last = last_plain e.front e.last (subst (All HasNoSlash) e.is h) in
    ap (λ l. before_last is_slash (top ++ trail l)) e.is ∙ ap (before_last is_slash) (sym (grown top e.front e.last)) ∙ before_last-slash (top ++ trail e.front) e.last plain ∙ ap (λ l. top ++ trail l) (sym front)

-- one step of the buffer is one step of the components
pub buffer_stepped-components : (top : List ℕ) (cs : List (List ℕ)) (c : List ℕ) → All HasNoSlash cs → buffer_stepped (length top) (top ++ trail cs) c ≡ option_map (λ ds. top ++ trail ds) (stepped cs c)
unfolding buffer_stepped
buffer_stepped-components top cs c h = go (stays_there c) (bytes_eq c two_dots)
  where
    climbs : (es : List (List ℕ)) → All HasNoSlash es → cond (eqb (length (top ++ trail es)) (length top)) None (Some (before_last is_slash (top ++ trail es))) ≡ option_map (λ ds. top ++ trail ds) (without_last es)
    climbs [] k = ap (λ b. cond b None (Some (before_last is_slash (top ++ [])))) (eqb-same (length (top ++ [])) (length top) (ap length (append-nil top)))
    climbs (d ∷ ds) k = ap (λ b. cond b None (Some (before_last is_slash (top ++ trail (d ∷ ds))))) (eqb-more (length (top ++ trail (d ∷ ds))) (length top) (trail_longer top d ds)) ∙ ap Some (climbed top d ds k)

    go : (b1 b2 : Bool) → cond b1 (Some (top ++ trail cs)) (cond b2 (cond (eqb (length (top ++ trail cs)) (length top)) None (Some (before_last is_slash (top ++ trail cs)))) (Some ((top ++ trail cs) ++ 47 ∷ c))) ≡ option_map (λ ds. top ++ trail ds) (cond b1 (Some cs) (cond b2 (without_last cs) (Some (cs ++ c ∷ []))))
    go true b2 = refl
    go false true = climbs cs h
    go false false = ap Some (grown top cs c)

-- a piece that is a component
pub record IsKept (p : List ℕ) : Type 0 where
  pub moves : stays_there p ≡ false
  pub stays : bytes_eq p two_dots ≡ false

-- what holds of the components and of each piece that is one still holds after a step
pub stepped_keeps : (Q : List ℕ → Type 0) (cs : List (List ℕ)) (p : List ℕ) (ds : List (List ℕ)) → All Q cs → (IsKept p → Q p) → stepped cs p ≡ Some ds → All Q ds
stepped_keeps Q cs p ds h q = go (stays_there p) (bytes_eq p two_dots) refl refl
  where
    climbs : (es : List (List ℕ)) → All Q es → without_last es ≡ Some ds → All Q ds
    climbs [] k e = absurd cc
    climbs (x ∷ xs) k e = let same : take (length xs) (x ∷ xs) ≡ ds = cc in subst (All Q) same (All-take Q (length xs) (x ∷ xs) k)

    go : (b1 b2 : Bool) → stays_there p ≡ b1 → bytes_eq p two_dots ≡ b2 → cond b1 (Some cs) (cond b2 (without_last cs) (Some (cs ++ p ∷ []))) ≡ Some ds → All Q ds
    go true b2 e1 e2 e = let same : cs ≡ ds = cc in subst (All Q) same h
    go false true e1 e2 e = climbs cs h e
    go false false e1 e2 e = let same : cs ++ p ∷ [] ≡ ds = cc in subst (All Q) same (All-push Q cs p h (q (record { moves = e1; stays = e2 })))

-- and after all pieces
pub walked_keeps : (Q : List ℕ → Type 0) (ps cs ds : List (List ℕ)) → All Q cs → All (λ p. IsKept p → Q p) ps → walked cs ps ≡ Some ds → All Q ds
walked_keeps Q [] cs ds h k e = let same : cs ≡ ds = cc in subst (All Q) same h
walked_keeps Q (p ∷ ps) cs ds h k e =
    by (stepped cs p) refl e (λ es s e2. walked_keeps Q ps es ds (stepped_keeps Q cs p es h (All-head (λ x. IsKept x → Q x) p ps k) s) (All-tail (λ x. IsKept x → Q x) p ps k) e2)
  where
    by : (o : Option (List (List ℕ))) → stepped cs p ≡ o → option_and_then (λ es. walked es ps) o ≡ Some ds → ((es : List (List ℕ)) → stepped cs p ≡ Some es → walked es ps ≡ Some ds → All Q ds) → All Q ds
    by None s e2 more = absurd cc
    by (Some es) s e2 more = more es s e2

-- all steps of the buffer are all steps of the components
pub buffer_walked-components : (top : List ℕ) (ps cs : List (List ℕ)) → All HasNoSlash cs → All HasNoSlash ps → buffer_walked (length top) (top ++ trail cs) ps ≡ option_map (λ ds. top ++ trail ds) (walked cs ps)
buffer_walked-components top [] cs h k = refl
buffer_walked-components top (p ∷ ps) cs h k =
    ap (option_and_then (λ after. buffer_walked (length top) after ps)) (buffer_stepped-components top cs p h) ∙ by (stepped cs p) refl (λ es s. buffer_walked-components top ps es (stepped_keeps HasNoSlash cs p es h (λ _. All-head HasNoSlash p ps k) s) (All-tail HasNoSlash p ps k))
  where
    by : (o : Option (List (List ℕ))) → stepped cs p ≡ o → ((es : List (List ℕ)) → stepped cs p ≡ Some es → buffer_walked (length top) (top ++ trail es) ps ≡ option_map (λ ds. top ++ trail ds) (walked es ps)) → option_and_then (λ after. buffer_walked (length top) after ps) (option_map (λ ds. top ++ trail ds) o) ≡ option_map (λ ds. top ++ trail ds) (option_and_then (λ es. walked es ps) o)
    by None s more = refl
    by (Some es) s more = more es s

-- the closed buffer is the path of its components
closes : (top : List ℕ) (final : Bool) (cs : List (List ℕ)) → buffer_closed (length top) final (top ++ trail cs) ≡ spelled top cs final
closes top final [] =
    ap (λ b. cond (b || final) ((top ++ []) ++ slash) (top ++ [])) (eqb-same (length (top ++ [])) (length top) (ap length (append-nil top))) ∙ ap (λ t. t ++ slash) (append-nil top)
closes top final (c ∷ cs) =
    ap (λ b. cond (b || final) ((top ++ trail (c ∷ cs)) ++ slash) (top ++ trail (c ∷ cs))) (eqb-more (length (top ++ trail (c ∷ cs))) (length top) (trail_longer top c cs)) ∙ by final
  where
    by : (f : Bool) → cond f ((top ++ trail (c ∷ cs)) ++ slash) (top ++ trail (c ∷ cs)) ≡ (top ++ trail (c ∷ cs)) ++ cond f slash []
    by true = refl
    by false = sym (append-nil (top ++ trail (c ∷ cs)))

-- the buffer ends as the path to which the text leads
pub buffer_led-path : (start text : List ℕ) → is_absolute start ≡ true → buffer_led start text ≡ led start text
unfolding led
buffer_led-path start text h =
    ap (λ b. option_map (buffer_closed (length (top_of start)) (ends_in_slash text)) (buffer_walked (length (top_of start)) b (pieces text))) (top-components start h) ∙ ap (option_map (buffer_closed (length (top_of start)) (ends_in_slash text))) (buffer_walked-components (top_of start) (pieces text) (components start) (components_plain start) (pieces_plain text)) ∙ by (walked (components start) (pieces text))
  where
    by : (o : Option (List (List ℕ))) → option_map (buffer_closed (length (top_of start)) (ends_in_slash text)) (option_map (λ ds. top_of start ++ trail ds) o) ≡ option_map (λ cs. spelled (top_of start) cs (ends_in_slash text)) o
    by None = refl
    by (Some cs) = ap Some (closes (top_of start) (ends_in_slash text) cs)

-- the cases of what a text means
meant-led : (o : Option (List ℕ)) → path_answered (ok_or o faults.AboveRoot) ≡ ok_or o AboveRoot
meant-led None = refl
meant-led (Some path) = refl

pub resolved-bad : (current text : List ℕ) → is_path_text text ≡ false → resolved current text ≡ Err BadPath
unfolding resolved path_meant
resolved-bad current text e = ap (λ b. path_answered (cond b (cond (is_system text) (Ok text) (ok_or (led (start_of current text) text) faults.AboveRoot)) (Err faults.BadPath))) e

pub resolved-system : (current text : List ℕ) → is_path_text text ≡ true → is_system text ≡ true → resolved current text ≡ Ok text
unfolding resolved path_meant
resolved-system current text e s =
    ap (λ b. path_answered (cond b (cond (is_system text) (Ok text) (ok_or (led (start_of current text) text) faults.AboveRoot)) (Err faults.BadPath))) e ∙ ap (λ b. path_answered (cond b (Ok text) (ok_or (led (start_of current text) text) faults.AboveRoot))) s

pub resolved-led : (current text : List ℕ) → is_path_text text ≡ true → is_system text ≡ false → resolved current text ≡ ok_or (led (start_of current text) text) AboveRoot
unfolding resolved path_meant
resolved-led current text e s =
    ap (λ b. path_answered (cond b (cond (is_system text) (Ok text) (ok_or (led (start_of current text) text) faults.AboveRoot)) (Err faults.BadPath))) e ∙ ap (λ b. path_answered (cond b (Ok text) (ok_or (led (start_of current text) text) faults.AboveRoot))) s ∙ meant-led (led (start_of current text) text)

-- what code answers is what the text means
answered_ok : (r : Result (List ℕ) PathFault) (path : List ℕ) → path_answered r ≡ Ok path → r ≡ Ok path
answered_ok (Ok p) path e = let same : p ≡ path = cc in ap Ok same
answered_ok (Err f) path e = absurd cc

answered_above : (r : Result (List ℕ) PathFault) → path_answered r ≡ Err AboveRoot → r ≡ Err faults.AboveRoot
answered_above (Ok p) e = absurd cc
answered_above (Err faults.AboveRoot) e = refl
answered_above (Err faults.BadPath) e = absurd cc

answered_bad : (r : Result (List ℕ) PathFault) → path_answered r ≡ Err BadPath → r ≡ Err faults.BadPath
answered_bad (Ok p) e = absurd cc
answered_bad (Err faults.AboveRoot) e = absurd cc
answered_bad (Err faults.BadPath) e = refl

pub meant_ok : (current text path : List ℕ) → resolved current text ≡ Ok path → Ok path ≡ path_meant current text
unfolding resolved
meant_ok current text path e = sym (answered_ok (path_meant current text) path e)

pub meant_above : (current text : List ℕ) → (AboveRoot ≡ Memory) ⊎ (resolved current text ≡ Err AboveRoot) → Err faults.AboveRoot ≡ path_meant current text
unfolding resolved
meant_above current text (inl e) = absurd cc
meant_above current text (inr e) = sym (answered_above (path_meant current text) e)

pub meant_bad : (current text : List ℕ) → (BadPath ≡ Memory) ⊎ (resolved current text ≡ Err BadPath) → Err faults.BadPath ≡ path_meant current text
unfolding resolved
meant_bad current text (inl e) = absurd cc
meant_bad current text (inr e) = sym (answered_bad (path_meant current text) e)

-- a text that may name a path isn't a bad one
pub resolved_not_bad : (current text : List ℕ) → is_path_text text ≡ true → resolved current text ≡ Err BadPath → ⊥
resolved_not_bad current text e h = by (is_system text) refl
  where
    never : (o : Option (List ℕ)) → ok_or o AboveRoot ≡ Err BadPath → ⊥
    never None q = cc
    never (Some x) q = cc

    by : (b : Bool) → is_system text ≡ b → ⊥
    by true s = let q = sym (resolved-system current text e s) ∙ h in cc
    by false s = never (led (start_of current text) text) (sym (resolved-led current text e s) ∙ h)

-- what a text means that leads above the root, and one that leads to a path
pub led_none : (current text start : List ℕ) → start ≡ start_of current text → is_path_text text ≡ true → is_system text ≡ false → is_absolute start ≡ true → buffer_led start text ≡ None → resolved current text ≡ Err AboveRoot
led_none current text start same p s a h =
    resolved-led current text p s ∙ ap (λ o. ok_or o AboveRoot) (ap (λ b. led b text) (sym same) ∙ sym (buffer_led-path start text a) ∙ h)

pub led_found : (current text start path : List ℕ) → start ≡ start_of current text → is_path_text text ≡ true → is_system text ≡ false → is_absolute start ≡ true → buffer_led start text ≡ Some path → resolved current text ≡ Ok path
led_found current text start path same p s a h =
    resolved-led current text p s ∙ ap (λ o. ok_or o AboveRoot) (ap (λ b. led b text) (sym same) ∙ sym (buffer_led-path start text a) ∙ h)

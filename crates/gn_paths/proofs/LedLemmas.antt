-- What a text leads to is in normal form.
use Rattle.std.proofs.Common.{◌≡◌, ◌≢◌, ℕ, ◌+◌, ◌<◌, Bool, true, false, cond, not, ◌&&◌, List, [], ◌∷◌, ◌++◌, length, take, drop, Option, None, Some, option_and_then, option_map, refl, sym, ap, ◌∙◌, subst, true≢false, arith, get_or, append_assoc, ◌⊎◌, inl, inr}
use Rattle.std.specs.List.{All, list_all, onto_first}
use lib.Utf8.{encode}
use Rattle.std.specs.Str.{IsUtf8, is_utf8, chars, bytes_eq}
use Rattle.std.proofs.lemmas.Bool.{false≢true, and_parts, and_from}
use Rattle.std.proofs.lemmas.List.{append-nil, take_at, drop_at, length-append, get_or_at}
use Rattle.std.proofs.lemmas.List.Elements.{All-nil, All-cons, All-head, All-tail, All-weaker}
use Rattle.std.proofs.lemmas.List.Folds.{list_all-append}
use Rattle.std.proofs.lemmas.List.Splits.{slice_split-cons_no}
use Rattle.std.proofs.lemmas.Str.{IsUtf8-append, IsUtf8-take, IsUtf8-drop, IsCharBoundary-before_ascii, IsCharBoundary-after_ascii, is_utf8-from_IsUtf8, IsUtf8-from_is_utf8}
use Rattle.gn_paths.specs.Components.{is_slash, slash, two_dots, HasNoSlash, pieces, trail, top_of, is_absolute, is_source, is_system, components, spelled, ends_in_slash, without_final_slash}
use Rattle.gn_paths.specs.Normal.{is_path_text, is_path_byte, IsNormal, IsInSource, IsPlain}
use Rattle.gn_paths.specs.Resolve.{stays_there, without_last, stepped, walked, led}
use Rattle.gn_paths.proofs.PieceLemmas.{trail-append, Ends, ends, cut, slash_is, one_slash, parts-trail, top-components, components_plain, pieces_plain, without_final_slash-last}
use Rattle.gn_paths.proofs.ResolveLemmas.{IsKept, walked_keeps}

-- a text without NUL and newline that is UTF-8
pub record IsClean (t : List ℕ) : Type 0 where
  pub bytes : list_all is_path_byte t ≡ true
  pub utf8 : IsUtf8 t

pub clean-append : (a b : List ℕ) → IsClean a → IsClean b → IsClean (a ++ b)
clean-append a b h k = record {
  bytes = list_all-append is_path_byte a b ∙ and_from _ _ h.bytes k.bytes;
  utf8 = IsUtf8-append a b h.utf8 k.utf8;
}

slash_utf8 : is_utf8 (47 ∷ []) ≡ true
unfolding is_utf8 chars encode
slash_utf8 = refl

pub clean-slash : IsClean (47 ∷ [])
clean-slash = record { bytes = refl; utf8 = IsUtf8-from_is_utf8 (47 ∷ []) slash_utf8 }

pub clean-nil : IsClean []
clean-nil = record { bytes = refl; utf8 = ([], (refl, refl)) }

-- both sides of a slash
pub record BothClean (a b : List ℕ) : Type 0 where
  pub before : IsClean a
  pub behind : IsClean b

pub clean-cut : (a b : List ℕ) → IsClean (a ++ 47 ∷ b) → BothClean a b
clean-cut a b h =
    let zs : List ℕ = a ++ 47 ∷ b in
    let parts = and_parts (list_all is_path_byte a) (list_all is_path_byte (47 ∷ b)) (sym (list_all-append is_path_byte a (47 ∷ b)) ∙ h.bytes) in
    let inside : length a < length zs = omega (arith, length-append a (47 ∷ b)) in
    let ascii : get_or zs (length a) 0 < 128 = omega (arith, get_or_at a 47 b 0 (length a) refl) in
    let front : IsUtf8 (take (length a) zs) = IsUtf8-take zs (length a) h.utf8 (IsCharBoundary-before_ascii zs (length a) inside ascii) in
    let back : IsUtf8 (drop (length a + 1) zs) = IsUtf8-drop zs (length a + 1) h.utf8 (IsCharBoundary-after_ascii zs (length a) h.utf8 inside ascii) in
    let behind : drop (length a + 1) zs ≡ b = ap (drop (length a + 1)) (sym (append_assoc a (47 ∷ []) b)) ∙ drop_at (a ++ 47 ∷ []) b (length a + 1) (omega (arith, length-append a (47 ∷ []))) in
    record {
      before = record { bytes = parts.0; utf8 = subst IsUtf8 (take_at a (47 ∷ b) (length a) refl) front };
      behind = record { bytes = parts.1; utf8 = subst IsUtf8 behind back };
    }

-- components behind slashes
pub clean-parts : (top : List ℕ) (cs : List (List ℕ)) → IsClean (top ++ trail cs) → All IsClean cs
clean-parts top [] h = All-nil _
clean-parts top (c ∷ cs) h =
    let k = clean-cut top (c ++ trail cs) h in
    All-cons IsClean c cs (clean-first c cs k.behind) (clean-parts c cs k.behind)
  where
    clean-first : (d : List ℕ) (ds : List (List ℕ)) → IsClean (d ++ trail ds) → IsClean d
    clean-first d [] q = subst IsClean (append-nil d) q
    clean-first d (x ∷ xs) q = (clean-cut d (x ++ trail xs) q).before

pub clean-trail : (cs : List (List ℕ)) → All IsClean cs → IsClean (trail cs)
clean-trail [] h = clean-nil
clean-trail (c ∷ cs) h =
    clean-append (47 ∷ []) (c ++ trail cs) clean-slash (clean-append c (trail cs) (All-head IsClean c cs h) (clean-trail cs (All-tail IsClean c cs h)))

-- the pieces of a clean text
pub clean-pieces : (t : List ℕ) → IsClean t → All IsClean (pieces t)
clean-pieces t h =
    let k = cut t in
    let all = clean-parts [] (k.first ∷ k.more) (clean-append (47 ∷ []) (k.first ++ trail k.more) clean-slash (subst IsClean k.joins h)) in
    subst (All IsClean) (sym k.pieces_are) all

-- a text that may name a path is clean
pub clean-path_text : (t : List ℕ) → is_path_text t ≡ true → IsClean t
unfolding is_path_text
clean-path_text t h =
    let p = and_parts (not (bytes_eq t [])) (list_all is_path_byte t && is_utf8 t) h in
    let q = and_parts (list_all is_path_byte t) (is_utf8 t) p.1 in
    record { bytes = q.0; utf8 = IsUtf8-from_is_utf8 t q.1 }

pub path_text-clean : (b : ℕ) (t : List ℕ) → IsClean (b ∷ t) → is_path_text (b ∷ t) ≡ true
unfolding is_path_text
path_text-clean b t h = and_from _ _ refl (and_from _ _ h.bytes (is_utf8-from_IsUtf8 (b ∷ t) h.utf8))

-- without its final slash a text stays clean
clean-unslashed : (t : List ℕ) → IsClean t → IsClean (without_final_slash t)
clean-unslashed [] h = clean-nil
clean-unslashed (b ∷ bs) h = by (ends b bs)
  where
    pick : (u : List ℕ) (l : ℕ) (s : Bool) → is_slash l ≡ s → IsClean (u ++ l ∷ []) → IsClean (cond s u (u ++ l ∷ []))
    pick u l true e k = (clean-cut u [] (subst (λ x. IsClean (u ++ x ∷ [])) (slash_is l e) k)).before
    pick u l false e k = k

    by : Ends (b ∷ bs) → IsClean (without_final_slash (b ∷ bs))
    by e = subst IsClean (sym (ap without_final_slash e.is ∙ without_final_slash-last e.front e.last)) (pick e.front e.last (is_slash e.last) refl (subst IsClean e.is h))

-- an absolute path's components
pub clean-components : (p : List ℕ) → is_absolute p ≡ true → IsClean p → All IsClean (components p)
clean-components p a h = clean-parts (top_of p) (components p) (subst IsClean (top-components p a) (clean-unslashed p h))

-- the path of clean components
pub clean-spelled : (top : List ℕ) (cs : List (List ℕ)) (final : Bool) → IsClean top → All IsClean cs → IsClean (spelled top cs final)
clean-spelled top [] final t h = clean-append top slash t clean-slash
clean-spelled top (c ∷ cs) final t h = clean-append (top ++ trail (c ∷ cs)) (cond final slash []) (clean-append top (trail (c ∷ cs)) t (clean-trail (c ∷ cs) h)) (by final)
  where
    by : (f : Bool) → IsClean (cond f slash [])
    by true = clean-slash
    by false = clean-nil

-- a kept piece is a plain component
pub kept_plain : (p : List ℕ) → HasNoSlash p → IsKept p → IsPlain p
kept_plain p h k = record {
  not_empty = λ e. false≢true (sym k.moves ∙ ap stays_there e);
  not_dot = λ e. false≢true (sym k.moves ∙ ap stays_there e);
  not_dots = λ e. false≢true (sym k.stays ∙ ap (λ t. bytes_eq t two_dots) e);
  no_slash = h;
}

-- a path in normal form begins with a slash
pub absolute-normal : (p : List ℕ) → IsNormal p → is_absolute p ≡ true
absolute-normal p h = by h.shape
  where
    system : (b : Bool) → is_source p ≡ b → cond b false (is_absolute p) ≡ true → is_absolute p ≡ true
    system true e q = absurd (false≢true q)
    system false e q = q

    spells : (parts : List (List ℕ)) (final : Bool) → is_absolute (spelled slash parts final) ≡ true
    spells [] final = refl
    spells (c ∷ cs) final = refl

    by : (is_system p ≡ true) ⊎ IsInSource p → is_absolute p ≡ true
    by (inl s) = system (is_source p) refl s
    by (inr w) = ap is_absolute w.spelling ∙ spells w.parts w.final

-- a path in the source tree without its final slash
unslashed-spelled : (parts : List (List ℕ)) (final : Bool) → All IsPlain parts → without_final_slash (spelled slash parts final) ≡ slash ++ trail parts
unslashed-spelled [] final h = refl
unslashed-spelled (c ∷ cs) true h = without_final_slash-last (slash ++ trail (c ∷ cs)) 47
unslashed-spelled (c ∷ cs) false h =
    ap without_final_slash (append-nil (slash ++ trail (c ∷ cs))) ∙ by (ends c cs)
  where
    -- a last component that is plain ends in a byte that is no slash
    byte : (u last : List ℕ) → IsPlain last → without_final_slash (u ++ last) ≡ u ++ last
    byte u [] k = absurd (k.not_empty refl)
    byte u (x ∷ xs) k =
        let e = ends x xs in
        let plain : is_slash e.last ≡ false = subst (λ b. is_slash b ≡ false) (get_or_at e.front e.last [] 0 (length e.front) refl) (subst HasNoSlash e.is k.no_slash (length e.front) 0 (omega (arith, length-append e.front (e.last ∷ [])))) in
        let same : u ++ (x ∷ xs) ≡ (u ++ e.front) ++ e.last ∷ [] = ap (λ t. u ++ t) e.is ∙ sym (append_assoc u e.front (e.last ∷ [])) in
        ap without_final_slash same ∙ without_final_slash-last (u ++ e.front) e.last ∙ ap (λ b. cond b (u ++ e.front) ((u ++ e.front) ++ e.last ∷ [])) plain ∙ sym same

    by : Ends (c ∷ cs) → without_final_slash (slash ++ trail (c ∷ cs)) ≡ slash ++ trail (c ∷ cs)
    by e =
        let plain : IsPlain e.last = subst IsPlain (get_or_at e.front e.last [] [] (length e.front) refl) (subst (All IsPlain) e.is h (length e.front) [] (omega (arith, length-append e.front (e.last ∷ [])))) in
        let same : slash ++ trail (c ∷ cs) ≡ ((slash ++ trail e.front) ++ 47 ∷ []) ++ e.last = ap (λ l. slash ++ trail l) e.is ∙ ap (λ t. slash ++ t) (trail-append e.front (e.last ∷ []) ∙ ap (λ t. trail e.front ++ 47 ∷ t) (append-nil e.last)) ∙ sym (append_assoc slash (trail e.front) (47 ∷ e.last)) ∙ sym (append_assoc (slash ++ trail e.front) (47 ∷ []) e.last) in
        ap without_final_slash same ∙ byte ((slash ++ trail e.front) ++ 47 ∷ []) e.last plain ∙ sym same

pub plain_slashes : (parts : List (List ℕ)) → All IsPlain parts → All HasNoSlash parts
plain_slashes parts h = All-weaker IsPlain HasNoSlash (λ x k. k.no_slash) parts h

-- the components of a path in the source tree
pub components-spelled : (parts : List (List ℕ)) (final : Bool) → All IsPlain parts → components (spelled slash parts final) ≡ parts
unfolding components
components-spelled [] final h = refl
components-spelled (c ∷ cs) final h =
    ap (λ w. drop 1 (pieces (drop 1 w))) (unslashed-spelled (c ∷ cs) final h) ∙ parts-trail (c ∷ cs) (plain_slashes (c ∷ cs) h)

pub source_plain : (p : List ℕ) → IsNormal p → is_source p ≡ true → All IsPlain (components p)
source_plain p h s = by h.shape
  where
    by : (is_system p ≡ true) ⊎ IsInSource p → All IsPlain (components p)
    by (inl q) = absurd (false≢true (ap (λ b. cond b false (is_absolute p)) (sym s) ∙ q))
    by (inr w) = subst (All IsPlain) (sym (ap components w.spelling ∙ components-spelled w.parts w.final w.plain)) w.plain

-- the first component isn't empty
abbrev IsFilled : List (List ℕ) → Type 0
IsFilled [] = Unit {0}
IsFilled (c ∷ cs) = c ≢ []

kept_filled : (p : List ℕ) → IsKept p → p ≢ []
kept_filled p k e = false≢true (sym k.moves ∙ ap stays_there e)

stepped_filled : (cs : List (List ℕ)) (p : List ℕ) (ds : List (List ℕ)) → IsFilled cs → stepped cs p ≡ Some ds → IsFilled ds
stepped_filled cs p ds h = go (stays_there p) (bytes_eq p two_dots) refl refl
  where
    climbs : (es : List (List ℕ)) → IsFilled es → without_last es ≡ Some ds → IsFilled ds
    climbs [] k e = absurd cc
    climbs (x ∷ []) k e = let same : [] ≡ ds = cc in subst IsFilled same tt
    climbs (x ∷ y ∷ ys) k e = let same : x ∷ take (length ys) (y ∷ ys) ≡ ds = cc in subst IsFilled same k

    grows : (es : List (List ℕ)) → IsFilled es → p ≢ [] → es ++ p ∷ [] ≡ ds → IsFilled ds
    grows [] k n e = subst IsFilled e n
    grows (x ∷ xs) k n e = subst IsFilled e k

    go : (b1 b2 : Bool) → stays_there p ≡ b1 → bytes_eq p two_dots ≡ b2 → cond b1 (Some cs) (cond b2 (without_last cs) (Some (cs ++ p ∷ []))) ≡ Some ds → IsFilled ds
    go true b2 e1 e2 e = let same : cs ≡ ds = cc in subst IsFilled same h
    go false true e1 e2 e = climbs cs h e
    go false false e1 e2 e = let same : cs ++ p ∷ [] ≡ ds = cc in grows cs h (kept_filled p (record { moves = e1; stays = e2 })) same

walked_filled : (ps cs ds : List (List ℕ)) → IsFilled cs → walked cs ps ≡ Some ds → IsFilled ds
walked_filled [] cs ds h e = let same : cs ≡ ds = cc in subst IsFilled same h
walked_filled (p ∷ ps) cs ds h e = by (stepped cs p) refl e (λ es s e2. walked_filled ps es ds (stepped_filled cs p es h s) e2)
  where
    by : (o : Option (List (List ℕ))) → stepped cs p ≡ o → option_and_then (λ es. walked es ps) o ≡ Some ds → ((es : List (List ℕ)) → stepped cs p ≡ Some es → walked es ps ≡ Some ds → IsFilled ds) → IsFilled ds
    by None s e2 more = absurd cc
    by (Some es) s e2 more = more es s e2

-- the path of such components is a system path
system_spelled : (cs : List (List ℕ)) (final : Bool) → IsFilled cs → All HasNoSlash cs → is_system (spelled [] cs final) ≡ true
system_spelled [] final h k = refl
system_spelled ([] ∷ cs) final h k = absurd (h refl)
system_spelled ((x ∷ xs) ∷ cs) final h k =
    let plain : is_slash x ≡ false = All-head (λ b. is_slash b ≡ false) x xs (All-head HasNoSlash (x ∷ xs) cs k) in
    ap (λ b. cond b false true) (one_slash x ∙ plain)

-- what stands in a system path behind its first slash
record Behind (c : ℕ) (s : List ℕ) : Type 0 where
  more : List ℕ
  is : without_final_slash (47 ∷ c ∷ s) ≡ 47 ∷ c ∷ more

behind : (c : ℕ) (s : List ℕ) → is_slash c ≡ false → Behind c s
behind c s plain = by (ends c s)
  where
    unslashed : (e : Ends (c ∷ s)) (b : Bool) → is_slash e.last ≡ b → without_final_slash (47 ∷ c ∷ s) ≡ cond b (47 ∷ e.front) (47 ∷ (e.front ++ e.last ∷ []))
    unslashed e b h = ap (λ t. without_final_slash (47 ∷ t)) e.is ∙ without_final_slash-last (47 ∷ e.front) e.last ∙ ap (λ x. cond x (47 ∷ e.front) (47 ∷ (e.front ++ e.last ∷ []))) h

    front : (u : List ℕ) (l : ℕ) → c ∷ s ≡ u ++ l ∷ [] → is_slash l ≡ true → without_final_slash (47 ∷ c ∷ s) ≡ 47 ∷ u → Behind c s
    front [] l e h w = let same : c ≡ l = cc in absurd (true≢false (sym h ∙ ap is_slash (sym same) ∙ plain))
    front (x ∷ xs) l e h w = let same : x ≡ c = cc in record { more = xs; is = w ∙ ap (λ y. 47 ∷ y ∷ xs) same }

    pick : (e : Ends (c ∷ s)) (b : Bool) → is_slash e.last ≡ b → Behind c s
    pick e true h = front e.front e.last e.is h (unslashed e true h)
    pick e false h = record { more = s; is = unslashed e false h ∙ ap (λ t. 47 ∷ t) (sym e.is) }

    by : Ends (c ∷ s) → Behind c s
    by e = pick e (is_slash e.last) refl

system_filled : (p : List ℕ) → is_absolute p ≡ true → is_source p ≡ false → IsFilled (components p)
unfolding components
system_filled [] a s = absurd (true≢false (sym a))
system_filled (b ∷ []) a s = let q : b ≡ 47 = slash_is b (sym (one_slash b) ∙ a) in subst (λ x. IsFilled (components (x ∷ []))) (sym q) tt
system_filled (b ∷ c ∷ r) a s =
    let q : b ≡ 47 = slash_is b (sym (one_slash b) ∙ a) in
    subst (λ x. IsFilled (components (x ∷ c ∷ r))) (sym q) (by (is_slash c) refl (subst (λ x. is_source (x ∷ c ∷ r) ≡ false) q s))
  where
    by : (t : Bool) → is_slash c ≡ t → is_source (47 ∷ c ∷ r) ≡ false → IsFilled (components (47 ∷ c ∷ r))
    by true e n = absurd (true≢false (sym (one_slash c ∙ e) ∙ n))
    by false e n =
        let k = behind c r e in
        let m = cut k.more in
        let top : length (top_of (47 ∷ c ∷ r)) ≡ 0 = ap (λ x. length (cond x slash [])) n in
        let parts : components (47 ∷ c ∷ r) ≡ (c ∷ m.first) ∷ m.more = ap (λ i. drop 1 (pieces (drop i (without_final_slash (47 ∷ c ∷ r))))) top ∙ ap (λ w. drop 1 (pieces w)) k.is ∙ slice_split-cons_no is_slash c k.more e ∙ ap (onto_first c) m.pieces_are in
        subst IsFilled (sym parts) (λ x. cc)

-- a path of clean components may name a path
pub path_text-source : (cs : List (List ℕ)) (final : Bool) → IsClean (spelled slash cs final) → is_path_text (spelled slash cs final) ≡ true
path_text-source [] final h = path_text-clean 47 (47 ∷ []) h
path_text-source (c ∷ cs) final h = path_text-clean 47 (trail (c ∷ cs) ++ cond final slash []) h

path_text-system : (cs : List (List ℕ)) (final : Bool) → IsClean (spelled [] cs final) → is_path_text (spelled [] cs final) ≡ true
path_text-system [] final h = path_text-clean 47 [] h
path_text-system (c ∷ cs) final h = path_text-clean 47 ((c ++ trail cs) ++ cond final slash []) h

-- the path of what the walk leaves
pub spelled_normal : (start text : List ℕ) (cs : List (List ℕ)) (final : Bool) → IsNormal start → is_path_text text ≡ true → walked (components start) (pieces text) ≡ Some cs → IsNormal (spelled (top_of start) cs final)
spelled_normal start text cs final h t e =
    let a = absolute-normal start h in
    let clean : All IsClean cs = walked_keeps IsClean (pieces text) (components start) cs (clean-components start a (clean-path_text start h.text)) (All-weaker IsClean (λ p. IsKept p → IsClean p) (λ p k _. k) (pieces text) (clean-pieces text (clean-path_text text t))) e in
    let plain : All HasNoSlash cs = walked_keeps HasNoSlash (pieces text) (components start) cs (components_plain start) (All-weaker HasNoSlash (λ p. IsKept p → HasNoSlash p) (λ p k _. k) (pieces text) (pieces_plain text)) e in
    by (is_source start) refl a clean plain
  where
    by : (b : Bool) → is_source start ≡ b → is_absolute start ≡ true → All IsClean cs → All HasNoSlash cs → IsNormal (spelled (top_of start) cs final)
    by true s a clean plain =
        let parts : All IsPlain cs = walked_keeps IsPlain (pieces text) (components start) cs (source_plain start h s) (All-weaker HasNoSlash (λ p. IsKept p → IsPlain p) (λ p k q. kept_plain p k q) (pieces text) (pieces_plain text)) e in
        let here : IsNormal (spelled slash cs final) = record { text = path_text-source cs final (clean-spelled slash cs final clean-slash clean); shape = inr (record { parts = cs; final = final; plain = parts; spelling = refl }) } in
        subst (λ b. IsNormal (spelled (cond b slash []) cs final)) (sym s) here
    by false s a clean plain =
        let filled : IsFilled cs = walked_filled (pieces text) (components start) cs (system_filled start a s) e in
        let here : IsNormal (spelled [] cs final) = record { text = path_text-system cs final (clean-spelled [] cs final clean-nil clean); shape = inl (system_spelled cs final filled plain) } in
        subst (λ b. IsNormal (spelled (cond b slash []) cs final)) (sym s) here

-- what a text leads to is in normal form
pub led_normal : (start text p : List ℕ) → IsNormal start → is_path_text text ≡ true → led start text ≡ Some p → IsNormal p
unfolding led
led_normal start text p h t e = by (walked (components start) (pieces text)) refl e
  where
    by : (o : Option (List (List ℕ))) → walked (components start) (pieces text) ≡ o → option_map (λ cs. spelled (top_of start) cs (ends_in_slash text)) o ≡ Some p → IsNormal p
    by None w q = absurd cc
    by (Some cs) w q = let same : spelled (top_of start) cs (ends_in_slash text) ≡ p = cc in subst IsNormal same (spelled_normal start text cs (ends_in_slash text) h t w)

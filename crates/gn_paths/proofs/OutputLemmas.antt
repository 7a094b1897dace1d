-- The directories that stand for a directory below an output directory.
use Rattle.std.proofs.Common.{◌≡◌, ℕ, ◌<◌, Bool, true, false, cond, not, ◌&&◌, List, [], ◌∷◌, ◌++◌, ◌==◌, length, Some, arith, refl, sym, ap, ◌∙◌, subst, append_assoc}
use Rattle.std.specs.List.{All, filter}
use Rattle.std.specs.Str.{is_utf8, chars, bytes_eq}
use lib.Utf8.{encode}
use Rattle.std.proofs.lemmas.Bool.{false≢true, and_parts}
use Rattle.std.proofs.lemmas.Str.{IsUtf8-from_is_utf8}
use Rattle.std.proofs.lemmas.List.{append-nil}
use Rattle.std.proofs.lemmas.List.Elements.{All-nil, All-cons, All-head, All-tail, All-filter}
use Rattle.gn_paths.specs.Components.{is_slash, slash, two_dots, HasNoSlash, pieces, trail, top_of, components, spelled, without_final_slash}
use Rattle.gn_paths.specs.Normal.{is_path_text, IsNormal}
use Rattle.gn_paths.specs.Resolve.{stays_there, stepped, walked}
use Rattle.gn_paths.specs.Directory.{leads_down, IsOutputName, output_directory, obj, gen}
use Rattle.gn_paths.specs.Rebase.{parts, IsTrail}
use Rattle.gn_paths.proofs.PieceLemmas.{trail-append, parts-trail, pieces-joined, top-components, components_plain}
use Rattle.gn_paths.proofs.NormalLemmas.{empty_text}
use Rattle.gn_paths.proofs.RebaseLemmas.{parts-from_trail}
use Rattle.gn_paths.proofs.LedLemmas.{IsClean, clean-append, clean-trail, clean-components, clean-path_text, path_text-clean, absolute-normal, spelled_normal}

-- each component that leads down is put behind the others
down_parts : (a b : Bool) → (not a && not b) ≡ true → (a ≡ false) × (b ≡ false)
down_parts true b e = absurd (false≢true e)
down_parts false true e = absurd (false≢true e)
down_parts false false e = (refl, refl)

stepped_down : (cs : List (List ℕ)) (p : List ℕ) → leads_down p ≡ true → stepped cs p ≡ Some (cs ++ p ∷ [])
stepped_down cs p h = by (down_parts (stays_there p) (bytes_eq p two_dots) h)
  where
    by : (stays_there p ≡ false) × (bytes_eq p two_dots ≡ false) → stepped cs p ≡ Some (cs ++ p ∷ [])
    by k = rw (k.0, k.1) refl

pub walked_down : (ps cs : List (List ℕ)) → All (λ p. leads_down p ≡ true) ps → walked cs ps ≡ Some (cs ++ ps)
walked_down [] cs h = ap Some (sym (append-nil cs))
walked_down (p ∷ ps) cs h =
    rw (stepped_down cs p (All-head (λ x. leads_down x ≡ true) p ps h))
    (walked_down ps (cs ++ p ∷ []) (All-tail (λ x. leads_down x ≡ true) p ps h) ∙ ap Some (append_assoc cs (p ∷ []) ps))

pub filter_down : (xs : List (List ℕ)) → All (λ p. leads_down p ≡ true) (filter leads_down xs)
filter_down [] = All-nil _
filter_down (x ∷ xs) = by (leads_down x) refl (filter_down xs)
  where
    by : (b : Bool) → leads_down x ≡ b → All (λ p. leads_down p ≡ true) (filter leads_down xs) → All (λ p. leads_down p ≡ true) (cond b (x ∷ filter leads_down xs) (filter leads_down xs))
    by true e h = All-cons (λ p. leads_down p ≡ true) x (filter leads_down xs) e h
    by false e h = h

-- components behind slashes, where at least one stands
pub spelled-more : (top : List ℕ) (cs : List (List ℕ)) (c : List ℕ) (ds : List (List ℕ)) → spelled top (cs ++ c ∷ ds) false ≡ ((top ++ trail cs) ++ 47 ∷ c) ++ trail ds
spelled-more top cs c ds = by cs ∙ ap (λ t. top ++ t) (trail-append cs (c ∷ ds)) ∙ sym (append_assoc top (trail cs) (47 ∷ (c ++ trail ds))) ∙ sym (append_assoc (top ++ trail cs) (47 ∷ c) (trail ds))
  where
    by : (xs : List (List ℕ)) → spelled top (xs ++ c ∷ ds) false ≡ top ++ trail (xs ++ c ∷ ds)
    by [] = append-nil (top ++ trail (c ∷ ds))
    by (x ∷ xs) = append-nil (top ++ trail (x ∷ (xs ++ c ∷ ds)))

-- the directories have names that lead down
obj_utf8 : is_utf8 obj ≡ true
unfolding is_utf8 chars encode
obj_utf8 = refl

gen_utf8 : is_utf8 gen ≡ true
unfolding is_utf8 chars encode
gen_utf8 = refl

no_slash-three : (a b c : ℕ) → is_slash a ≡ false → is_slash b ≡ false → is_slash c ≡ false → HasNoSlash (a ∷ b ∷ c ∷ [])
no_slash-three a b c e f g =
    All-cons (λ x. is_slash x ≡ false) a (b ∷ c ∷ []) e (All-cons (λ x. is_slash x ≡ false) b (c ∷ []) f (All-cons (λ x. is_slash x ≡ false) c [] g (All-nil _)))

pub obj_name : IsOutputName obj
obj_name = record { down = refl; no_slash = no_slash-three 111 98 106 refl refl refl; bytes = refl; utf8 = obj_utf8 }

pub gen_name : IsOutputName gen
gen_name = record { down = refl; no_slash = no_slash-three 103 101 110 refl refl refl; bytes = refl; utf8 = gen_utf8 }

-- the directory is a path in normal form
pub output_directory-normal : (name out directory : List ℕ) → IsOutputName name → IsNormal out → IsNormal directory → IsNormal (output_directory name out directory)
unfolding output_directory
output_directory-normal [] out directory h o d = absurd (false≢true h.down)
output_directory-normal (b ∷ bs) out directory h o d =
    let ds : List (List ℕ) = filter leads_down (components directory) in
    let text : List ℕ = (b ∷ bs) ++ trail ds in
    let plain : All HasNoSlash ds = All-filter leads_down HasNoSlash (components directory) (components_plain directory) in
    let clean : All IsClean ds = All-filter leads_down IsClean (components directory) (clean-components directory (absolute-normal directory d) (clean-path_text directory d.text)) in
    let name : IsClean (b ∷ bs) = record { bytes = h.bytes; utf8 = IsUtf8-from_is_utf8 (b ∷ bs) h.utf8 } in
    let named : is_path_text text ≡ true = path_text-clean b (bs ++ trail ds) (clean-append (b ∷ bs) (trail ds) name (clean-trail ds clean)) in
    let down : All (λ p. leads_down p ≡ true) ((b ∷ bs) ∷ ds) = All-cons (λ p. leads_down p ≡ true) (b ∷ bs) ds h.down (filter_down (components directory)) in
    let walk : walked (components out) (pieces text) ≡ Some (components out ++ (b ∷ bs) ∷ ds) = ap (walked (components out)) (pieces-joined (b ∷ bs) ds h.no_slash plain) ∙ walked_down ((b ∷ bs) ∷ ds) (components out) down in
    spelled_normal out text (components out ++ (b ∷ bs) ∷ ds) false o named walk

-- what code makes of it
pub output_made : (name out directory o d w r x y z : List ℕ) → IsNormal out → o ≡ out → d ≡ directory → w ≡ without_final_slash o → r ≡ trail (components d) → x ≡ w → y ≡ x ++ 47 ∷ name → z ≡ y ++ trail (filter leads_down (parts r)) → z ≡ output_directory name out directory
unfolding output_directory
output_made name out directory o d w r x y z h eo ed ew er ex ey ez =
    let ps : parts r ≡ components directory = parts-from_trail r (components d) er (components_plain d) ∙ ap components ed in
    let xs : x ≡ top_of out ++ trail (components out) = ex ∙ ew ∙ ap without_final_slash eo ∙ top-components out (absolute-normal out h) in
    ez ∙ ap (λ t. t ++ trail (filter leads_down (parts r))) (ey ∙ ap (λ t. t ++ 47 ∷ name) xs) ∙ ap (λ l. ((top_of out ++ trail (components out)) ++ 47 ∷ name) ++ trail (filter leads_down l)) ps ∙ sym (spelled-more (top_of out) (components out) name (filter leads_down (components directory)))

-- one more component
pub down_more : (old first : List ℕ) (ps : List (List ℕ)) → (old ++ trail (filter leads_down (first ∷ []))) ++ trail (filter leads_down ps) ≡ old ++ trail (filter leads_down (first ∷ ps))
down_more old first ps = by (leads_down first)
  where
    by : (b : Bool) → (old ++ trail (cond b (first ∷ []) [])) ++ trail (filter leads_down ps) ≡ old ++ trail (cond b (first ∷ filter leads_down ps) (filter leads_down ps))
    by true = append_assoc old (47 ∷ (first ++ [])) (trail (filter leads_down ps)) ∙ ap (λ t. old ++ 47 ∷ (t ++ trail (filter leads_down ps))) (append-nil first)
    by false = ap (λ t. t ++ trail (filter leads_down ps)) (append-nil old)

-- the loop over components, at its end and on its way
pub down_done : (initial text rest path : List ℕ) → true ≡ (length rest == 0) → text ++ trail (filter leads_down (parts rest)) ≡ initial ++ trail (filter leads_down (parts path)) → text ≡ initial ++ trail (filter leads_down (parts path))
down_done initial text rest path e h = sym (append-nil text) ∙ ap (λ r. text ++ trail (filter leads_down (parts r))) (sym (empty_text rest e)) ∙ h

pub down_on : (initial text new first rest more path : List ℕ) → parts rest ≡ first ∷ parts more → new ≡ text ++ trail (filter leads_down (first ∷ [])) → text ++ trail (filter leads_down (parts rest)) ≡ initial ++ trail (filter leads_down (parts path)) → new ++ trail (filter leads_down (parts more)) ≡ initial ++ trail (filter leads_down (parts path))
down_on initial text new first rest more path p n h =
    ap (λ t. t ++ trail (filter leads_down (parts more))) n ∙ down_more text first (parts more) ∙ ap (λ l. text ++ trail (filter leads_down l)) (sym p) ∙ h

-- one component behind its slash
pub trail_one : (c : List ℕ) → trail (c ∷ []) ≡ 47 ∷ c
trail_one c = ap (λ t. 47 ∷ t) (append-nil c)

pub append_none : (t : List ℕ) → t ++ [] ≡ t
append_none t = append-nil t

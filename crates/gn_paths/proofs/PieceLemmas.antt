-- A text and its pieces, components behind slashes, and the last byte of a text.
use Rattle.std.proofs.Common.{◌≡◌, ℕ, ◌+◌, ◌-◌, Bool, true, false, cond, not, Decides, List, [], ◌∷◌, ◌++◌, length, take, drop, refl, sym, ap, ◌∙◌, subst, true≢false, arith, ◌⊎◌, inl, inr, ◌<◌, ◌≤◌, append_assoc, get_or}
use Rattle.std.specs.List.{All, onto_first, suffix_len, before_last}
use Rattle.std.specs.Str.{bytes_eq}
use Rattle.std.proofs.lemmas.Bool.Decides.{Decides-eqb, same_from_decides}
use Rattle.std.proofs.lemmas.List.{append-nil, take_at, drop_at, length-append, get_or_at, get_or-append_right}
use Rattle.std.proofs.lemmas.Slice.Eq.{bytes_eq-Decides}
use Rattle.std.proofs.lemmas.List.Elements.{All-nil, All-cons, All-head, All-tail}
use Rattle.std.proofs.lemmas.List.Splits.{slice_split-cons_yes, slice_split-cons_no, slice_split_none, slice_split_at}
use Rattle.std.proofs.lemmas.List.Sums.{suffix_len_is}
use Rattle.gn_paths.specs.Components.{is_slash, HasNoSlash, pieces, trail, ends_in_slash, without_final_slash, top_of, is_absolute, components}

-- the byte that passes for a slash is 47
pub slash_is : (b : ℕ) → is_slash b ≡ true → b ≡ 47
slash_is b e = (Decides-eqb b 47).0 e

-- a text as its first piece and the further ones behind slashes
pub record Cut (t : List ℕ) : Type 0 where
  pub first : List ℕ
  pub more : List (List ℕ)
  pub pieces_are : pieces t ≡ first ∷ more
  pub joins : t ≡ first ++ trail more
  pub first_plain : HasNoSlash first
  pub more_plain : All HasNoSlash more

pub cut : (t : List ℕ) → Cut t
cut [] = record { first = []; more = []; pieces_are = refl; joins = refl; first_plain = All-nil _; more_plain = All-nil _ }
cut (b ∷ bs) = by (is_slash b) refl (cut bs)
  where
    by : (s : Bool) → is_slash b ≡ s → Cut bs → Cut (b ∷ bs)
    by true e r = record {
      first = [];
      more = r.first ∷ r.more;
      pieces_are = slice_split-cons_yes is_slash b bs e ∙ ap (λ x. [] ∷ x) r.pieces_are;
      joins = ap (λ x. x ∷ bs) (slash_is b e) ∙ ap (λ x. 47 ∷ x) r.joins;
      first_plain = All-nil _;
      more_plain = All-cons HasNoSlash r.first r.more r.first_plain r.more_plain;
    }
    by false e r = record {
      first = b ∷ r.first;
      more = r.more;
      pieces_are = slice_split-cons_no is_slash b bs e ∙ ap (onto_first b) r.pieces_are;
      joins = ap (λ x. b ∷ x) r.joins;
      first_plain = All-cons (λ x. is_slash x ≡ false) b r.first e r.first_plain;
      more_plain = r.more_plain;
    }

-- the pieces of components that are joined by slashes
pub pieces-joined : (c : List ℕ) (cs : List (List ℕ)) → HasNoSlash c → All HasNoSlash cs → pieces (c ++ trail cs) ≡ c ∷ cs
pieces-joined c [] h hs = ap pieces (append-nil c) ∙ slice_split_none is_slash c h
pieces-joined c (d ∷ ds) h hs =
    slice_split_at is_slash c 47 (d ++ trail ds) h refl ∙ ap (λ x. c ∷ x) (pieces-joined d ds (All-head HasNoSlash d ds hs) (All-tail HasNoSlash d ds hs))

-- the components between the slashes of components that each stand behind one
pub parts-trail : (cs : List (List ℕ)) → All HasNoSlash cs → drop 1 (pieces (trail cs)) ≡ cs
parts-trail [] hs = refl
parts-trail (c ∷ cs) hs = pieces-joined c cs (All-head HasNoSlash c cs hs) (All-tail HasNoSlash c cs hs)

-- a text that is empty or begins with a slash
abbrev pub IsRooted : List ℕ → Type 0
IsRooted r = (r ≡ []) ⊎ ((s : List ℕ) × (r ≡ 47 ∷ s))

-- such a text is its components, each behind a slash
pub trail-parts : (r : List ℕ) → IsRooted r → trail (drop 1 (pieces r)) ≡ r
trail-parts r (inl e) = ap (λ x. trail (drop 1 (pieces x))) e ∙ sym e
trail-parts r (inr w) =
    let k = cut w.0 in
    ap (λ x. trail (drop 1 (pieces x))) w.1 ∙ ap trail k.pieces_are ∙ ap (λ x. 47 ∷ x) (sym k.joins) ∙ sym w.1

-- and its components hold no slash
pub parts_plain : (r : List ℕ) → All HasNoSlash (drop 1 (pieces r))
parts_plain r = let k = cut r in subst (λ x. All HasNoSlash (drop 1 x)) (sym k.pieces_are) k.more_plain

-- all pieces hold no slash
pub pieces_plain : (t : List ℕ) → All HasNoSlash (pieces t)
pieces_plain t = let k = cut t in subst (All HasNoSlash) (sym k.pieces_are) (All-cons HasNoSlash k.first k.more k.first_plain k.more_plain)

-- components behind slashes, one list after another
pub trail-append : (cs ds : List (List ℕ)) → trail (cs ++ ds) ≡ trail cs ++ trail ds
trail-append [] ds = refl
trail-append (c ∷ cs) ds = ap (λ x. 47 ∷ (c ++ x)) (trail-append cs ds) ∙ ap (λ x. 47 ∷ x) (sym (append_assoc c (trail cs) (trail ds)))

-- a list that isn't empty as its front and its last element
pub record Ends {X : Type 0} (xs : List X) : Type 0 where
  pub front : List X
  pub last : X
  pub is : xs ≡ front ++ last ∷ []

pub ends : {X : Type 0} (x : X) (xs : List X) → Ends (x ∷ xs)
ends x [] = record { front = []; last = x; is = refl }
ends x (y ∷ ys) = let e = ends y ys in record { front = x ∷ e.front; last = e.last; is = ap (λ l. x ∷ l) e.is }

-- what stands before the last slash
pub before_last-slash : (xs c : List ℕ) → HasNoSlash c → before_last is_slash (xs ++ 47 ∷ c) ≡ xs
before_last-slash xs c h =
    let zs : List ℕ = xs ++ 47 ∷ c in
    let long : length zs ≡ length xs + (length c + 1) = omega (arith, length-append xs (47 ∷ c)) in
    let same : zs ≡ (xs ++ 47 ∷ []) ++ c = sym (append_assoc xs (47 ∷ []) c) in
    let n : length (xs ++ 47 ∷ []) ≡ length xs + 1 = omega (arith, length-append xs (47 ∷ [])) in
    let after : (k : ℕ) → length xs + 1 ≤ k → k < length zs → not (is_slash (get_or zs k 0)) ≡ true = λ k a l. ap (λ b. not (is_slash b)) (ap (λ t. get_or t k 0) same ∙ get_or-append_right (xs ++ 47 ∷ []) c (length xs + 1) k 0 n a) ∙ ap not (h (k - (length xs + 1)) 0 (omega arith)) in
    let here : 0 < length xs + 1 → not (is_slash (get_or zs (length xs + 1 - 1) 0)) ≡ false = λ _. ap (λ b. not (is_slash b)) (get_or_at xs 47 c 0 (length xs + 1 - 1) (omega arith)) in
    let s : suffix_len (λ b. not (is_slash b)) zs ≡ length zs - (length xs + 1) = suffix_len_is (λ b. not (is_slash b)) zs (length xs + 1) 0 (omega arith) after here in
    take_at xs (47 ∷ c) _ (omega (arith, s))

-- a text of one byte is a slash where the byte is
pub one_slash : (b : ℕ) → bytes_eq (47 ∷ []) (b ∷ []) ≡ is_slash b
one_slash b = same_from_decides _ _ (slash_text b) (Decides-eqb b 47)
  where
    slash_text : (x : ℕ) → Decides (bytes_eq (47 ∷ []) (x ∷ [])) (x ≡ 47)
    slash_text x = (λ e. let q = (bytes_eq-Decides (47 ∷ []) (x ∷ [])).0 e in cc, λ e. (bytes_eq-Decides (47 ∷ []) (x ∷ [])).1 (ap (λ y. y ∷ []) (sym e)))

-- whether the last byte is a slash
pub ends_in_slash-last : (u : List ℕ) (b : ℕ) → ends_in_slash (u ++ b ∷ []) ≡ is_slash b
ends_in_slash-last u b =
    ap (bytes_eq (47 ∷ [])) (drop_at u (b ∷ []) (length (u ++ b ∷ []) - 1) (omega (arith, length-append u (b ∷ [])))) ∙ one_slash b

pub without_final_slash-last : (u : List ℕ) (b : ℕ) → without_final_slash (u ++ b ∷ []) ≡ cond (is_slash b) u (u ++ b ∷ [])
without_final_slash-last u b =
    let front : take (length (u ++ b ∷ []) - 1) (u ++ b ∷ []) ≡ u = take_at u (b ∷ []) (length (u ++ b ∷ []) - 1) (omega (arith, length-append u (b ∷ []))) in
    ap (λ s. cond s (take (length (u ++ b ∷ []) - 1) (u ++ b ∷ [])) (u ++ b ∷ [])) (ends_in_slash-last u b) ∙ ap (λ t. cond (is_slash b) t (u ++ b ∷ [])) front

-- what stands below the top of an absolute path, without its final slash
pub record Below (p : List ℕ) : Type 0 where
  pub rest : List ℕ
  pub rooted : IsRooted rest
  pub is : without_final_slash p ≡ top_of p ++ rest

front_rooted : (s front : List ℕ) (last : ℕ) → 47 ∷ s ≡ front ++ last ∷ [] → IsRooted front
front_rooted s [] last e = inl refl
front_rooted s (x ∷ xs) last e = inr (xs, let q : x ≡ 47 = cc in ap (λ y. y ∷ xs) q)

source_below : (s : List ℕ) → Below (47 ∷ 47 ∷ s)
source_below s =
    let e = ends 47 s in
    by e (is_slash e.last) refl
  where
    by : (e : Ends (47 ∷ s)) (b : Bool) → is_slash e.last ≡ b → Below (47 ∷ 47 ∷ s)
    by e true h = record {
      rest = e.front;
      rooted = front_rooted s e.front e.last e.is;
      is = ap (λ t. without_final_slash (47 ∷ t)) e.is ∙ without_final_slash-last (47 ∷ e.front) e.last ∙ ap (λ c. cond c (47 ∷ e.front) (47 ∷ (e.front ++ e.last ∷ []))) h;
    }
    by e false h = record {
      rest = 47 ∷ s;
      rooted = inr (s, refl);
      is = ap (λ t. without_final_slash (47 ∷ t)) e.is ∙ without_final_slash-last (47 ∷ e.front) e.last ∙ ap (λ c. cond c (47 ∷ e.front) (47 ∷ (e.front ++ e.last ∷ []))) h ∙ ap (λ t. 47 ∷ t) (sym e.is);
    }

system_below : (c : ℕ) (s : List ℕ) → is_slash c ≡ false → Below (47 ∷ c ∷ s)
system_below c s plain =
    let e = ends c s in
    by e (is_slash e.last) refl
  where
    top : top_of (47 ∷ c ∷ s) ≡ []
    top = ap (λ b. cond b (47 ∷ []) []) (one_slash c ∙ plain)

    by : (e : Ends (c ∷ s)) (b : Bool) → is_slash e.last ≡ b → Below (47 ∷ c ∷ s)
    by e true h = record {
      rest = 47 ∷ e.front;
      rooted = inr (e.front, refl);
      is = ap (λ t. without_final_slash (47 ∷ t)) e.is ∙ without_final_slash-last (47 ∷ e.front) e.last ∙ ap (λ x. cond x (47 ∷ e.front) (47 ∷ (e.front ++ e.last ∷ []))) h ∙ ap (λ t. t ++ (47 ∷ e.front)) (sym top);
    }
    by e false h = record {
      rest = 47 ∷ c ∷ s;
      rooted = inr (c ∷ s, refl);
      is = ap (λ t. without_final_slash (47 ∷ t)) e.is ∙ without_final_slash-last (47 ∷ e.front) e.last ∙ ap (λ x. cond x (47 ∷ e.front) (47 ∷ (e.front ++ e.last ∷ []))) h ∙ ap (λ t. 47 ∷ t) (sym e.is) ∙ ap (λ t. t ++ (47 ∷ c ∷ s)) (sym top);
    }

slash_below : (s : List ℕ) → Below (47 ∷ s)
slash_below [] = record { rest = []; rooted = inl refl; is = refl }
slash_below (c ∷ s) = by (is_slash c) refl
  where
    by : (b : Bool) → is_slash c ≡ b → Below (47 ∷ c ∷ s)
    by true e = subst (λ x. Below (47 ∷ x ∷ s)) (sym (slash_is c e)) (source_below s)
    by false e = system_below c s e

pub below : (p : List ℕ) → is_absolute p ≡ true → Below p
below [] h = absurd (true≢false (sym h))
below (b ∷ s) h = let q : b ≡ 47 = slash_is b (sym (one_slash b) ∙ h) in subst (λ x. Below (x ∷ s)) (sym q) (slash_below s)

-- an absolute path without its final slash is its top and its components, each behind a slash
pub trail-components : (p : List ℕ) → is_absolute p ≡ true → drop (length (top_of p)) (without_final_slash p) ≡ trail (components p)
unfolding components
trail-components p h =
    let w = below p h in
    let d : drop (length (top_of p)) (without_final_slash p) ≡ w.rest = ap (drop (length (top_of p))) w.is ∙ drop_at (top_of p) w.rest (length (top_of p)) refl in
    d ∙ sym (ap (λ t. trail (drop 1 (pieces t))) d ∙ trail-parts w.rest w.rooted)

pub top-components : (p : List ℕ) → is_absolute p ≡ true → without_final_slash p ≡ top_of p ++ trail (components p)
unfolding components
top-components p h =
    let w = below p h in
    let d : drop (length (top_of p)) (without_final_slash p) ≡ w.rest = ap (drop (length (top_of p))) w.is ∙ drop_at (top_of p) w.rest (length (top_of p)) refl in
    w.is ∙ ap (λ t. top_of p ++ t) (sym (ap (λ t. trail (drop 1 (pieces t))) d ∙ trail-parts w.rest w.rooted))

-- the components hold no slash
pub components_plain : (p : List ℕ) → All HasNoSlash (components p)
unfolding components
components_plain p = parts_plain (drop (length (top_of p)) (without_final_slash p))

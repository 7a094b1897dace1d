-- A path without its final slashes, and up to its last slash, is in normal form.
use Rattle.std.proofs.Common.{◌≡◌, ℕ, ◌+◌, ◌-◌, ◌<◌, ◌≤◌, Bool, true, false, cond, not, ◌||◌, List, [], ◌∷◌, ◌++◌, length, take, replicate, refl, sym, ap, ◌∙◌, subst, arith, get_or, append_assoc, ◌⊎◌, inl, inr, suc, zero}
use Rattle.std.specs.List.{All, suffix_len}
use Rattle.std.specs.Str.{bytes_eq}
use Rattle.std.proofs.lemmas.Bool.{false≢true}
use Rattle.std.proofs.lemmas.List.{append-nil, take_at, length-append, get_or_at, get_or-append_right, length-replicate, get_or-replicate}
use Rattle.std.proofs.lemmas.List.Elements.{All-nil, All-cons, All-head, All-tail}
use Rattle.std.proofs.lemmas.List.Sums.{suffix_len_is}
use Rattle.gn_basics.proofs.Tests.{neither_but_second}
use Rattle.gn_paths.specs.Components.{is_slash, slash, two_slashes, HasNoSlash, trail, top_of, is_absolute, is_source, is_system, spelled, ends_in_slash, without_final_slashes, up_to_last_slash}
use Rattle.gn_paths.specs.Normal.{is_path_text, IsNormal, IsInSource, IsPlain}
use Rattle.gn_paths.specs.Directory.{as_directory, is_directory}
use Rattle.gn_paths.proofs.NormalLemmas.{IsNormal-root}
use Rattle.gn_paths.proofs.PieceLemmas.{Ends, ends, slash_is, one_slash, trail-append, ends_in_slash-last}
use Rattle.gn_paths.proofs.LedLemmas.{IsClean, clean-append, clean-slash, clean-cut, clean-path_text, path_text-clean, path_text-source, absolute-normal}

-- a text whose last byte is no slash
pub record EndsPlain (t : List ℕ) : Type 0 where
  pub front : List ℕ
  pub last : ℕ
  pub is : t ≡ front ++ last ∷ []
  pub plain : is_slash last ≡ false

-- a text as what is left without its final slashes, and these
pub record Trimmed (t : List ℕ) : Type 0 where
  pub kept : List ℕ
  pub count : ℕ
  pub is : t ≡ kept ++ replicate count 47
  pub ending : (kept ≡ []) ⊎ EndsPlain kept

pub trimmed : (t : List ℕ) → Trimmed t
trimmed [] = record { kept = []; count = 0; is = refl; ending = inl refl }
trimmed (b ∷ bs) = by (is_slash b) refl (trimmed bs)
  where
    slashes : is_slash b ≡ true → (r : Trimmed bs) → r.kept ≡ [] → Trimmed (b ∷ bs)
    slashes e r k = record {
      kept = [];
      count = suc r.count;
      is = ap (λ x. x ∷ bs) (slash_is b e) ∙ ap (λ x. 47 ∷ x) (r.is ∙ ap (λ x. x ++ replicate r.count 47) k);
      ending = inl refl;
    }

    more : (r : Trimmed bs) → EndsPlain r.kept → Trimmed (b ∷ bs)
    more r w = record {
      kept = b ∷ r.kept;
      count = r.count;
      is = ap (λ x. b ∷ x) r.is;
      ending = inr (record { front = b ∷ w.front; last = w.last; is = ap (λ x. b ∷ x) w.is; plain = w.plain });
    }

    one : is_slash b ≡ false → (r : Trimmed bs) → r.kept ≡ [] → Trimmed (b ∷ bs)
    one e r k = record {
      kept = b ∷ r.kept;
      count = r.count;
      is = ap (λ x. b ∷ x) r.is;
      ending = inr (record { front = []; last = b; is = ap (λ x. b ∷ x) k; plain = e });
    }

    by : (s : Bool) → is_slash b ≡ s → Trimmed bs → Trimmed (b ∷ bs)
    by true e r = go r.ending
      where
        go : (r.kept ≡ []) ⊎ EndsPlain r.kept → Trimmed (b ∷ bs)
        go (inl k) = slashes e r k
        go (inr w) = more r w
    by false e r = go r.ending
      where
        go : (r.kept ≡ []) ⊎ EndsPlain r.kept → Trimmed (b ∷ bs)
        go (inl k) = one e r k
        go (inr w) = more r w

-- what is left is the text without its final slashes
pub without_final_slashes-is : (u : List ℕ) (k : ℕ) → (u ≡ []) ⊎ EndsPlain u → without_final_slashes (u ++ replicate k 47) ≡ u
without_final_slashes-is u k h =
    let zs : List ℕ = u ++ replicate k 47 in
    let long : length zs ≡ length u + k = omega (arith, length-append u (replicate k 47), length-replicate {A = ℕ} k 47) in
    let passes : (j : ℕ) → length u ≤ j → j < length zs → is_slash (get_or zs j 0) ≡ true = λ j a l. ap is_slash (get_or-append_right u (replicate k 47) (length u) j 0 refl a ∙ get_or-replicate {A = ℕ} k (j - length u) 47 0 (omega arith)) in
    let s : suffix_len is_slash zs ≡ length zs - length u = suffix_len_is is_slash zs (length u) 0 (omega arith) passes (stops h) in
    take_at u (replicate k 47) _ (omega (arith, s))
  where
    stops : (u ≡ []) ⊎ EndsPlain u → 0 < length u → is_slash (get_or (u ++ replicate k 47) (length u - 1) 0) ≡ false
    stops (inl e) l = absurd (omega (arith, ap length e))
    stops (inr w) l =
        let same : u ++ replicate k 47 ≡ w.front ++ w.last ∷ replicate k 47 = ap (λ x. x ++ replicate k 47) w.is ∙ append_assoc w.front (w.last ∷ []) (replicate k 47) in
        ap (λ x. is_slash (get_or x (length u - 1) 0)) same ∙ ap is_slash (get_or_at w.front w.last (replicate k 47) 0 (length u - 1) (omega (arith, ap length w.is, length-append w.front (w.last ∷ [])))) ∙ w.plain

-- as a directory, where something is left and where nothing is
pub as_directory-left : (p u : List ℕ) (k : ℕ) → p ≡ u ++ replicate k 47 → EndsPlain u → as_directory p ≡ u
unfolding as_directory
as_directory-left p u k e w =
    let left : without_final_slashes p ≡ u = ap without_final_slashes e ∙ without_final_slashes-is u k (inr w) in
    ap (λ t. cond (bytes_eq t []) (top_of p ++ slash) t) left ∙ by u w.is
  where
    by : (t : List ℕ) → t ≡ w.front ++ w.last ∷ [] → cond (bytes_eq t []) (top_of p ++ slash) t ≡ t
    by [] q = absurd (omega (arith, ap length q, length-append w.front (w.last ∷ [])))
    by (x ∷ xs) q = refl

pub as_directory-none : (p : List ℕ) (k : ℕ) → p ≡ replicate k 47 → as_directory p ≡ top_of p ++ slash
unfolding as_directory
as_directory-none p k e =
    let left : without_final_slashes p ≡ [] = ap without_final_slashes e ∙ without_final_slashes-is [] k (inl refl) in
    ap (λ t. cond (bytes_eq t []) (top_of p ++ slash) t) left

-- a directory in normal form
pub record IsDirectory (d : List ℕ) : Type 0 where
  pub normal : IsNormal d
  pub form : is_directory d ≡ true

or_true : (a b : Bool) → (a || (b || true)) ≡ true
or_true true b = refl
or_true false true = refl
or_true false false = refl

pub directory-plain : (d : List ℕ) → EndsPlain d → is_directory d ≡ true
unfolding is_directory
directory-plain d w =
    ap (λ b. bytes_eq d two_slashes || (bytes_eq d slash || not b)) (ap ends_in_slash w.is ∙ ends_in_slash-last w.front w.last ∙ w.plain) ∙ or_true (bytes_eq d two_slashes) (bytes_eq d slash)

pub root-directory : (b : Bool) → IsDirectory (cond b slash [] ++ slash)
unfolding is_directory
root-directory true = record { normal = IsNormal-root; form = refl }
root-directory false = record { normal = record { text = path_text-clean 47 [] clean-slash; shape = inl refl }; form = refl }

clean-front : (u : List ℕ) (k : ℕ) → IsClean (u ++ replicate k 47) → IsClean u
clean-front u zero h = subst IsClean (append-nil u) h
clean-front u (suc k) h = (clean-cut u (replicate k 47) h).before

path_text-filled : (t : List ℕ) → IsClean t → EndsPlain t → is_path_text t ≡ true
path_text-filled [] h w = absurd (omega (arith, ap length w.is, length-append w.front (w.last ∷ [])))
path_text-filled (b ∷ bs) h w = path_text-clean b bs h

-- what is left of a system path is one
system-first : (x : ℕ) (r : List ℕ) → is_system (x ∷ r) ≡ true → is_slash x ≡ true
system-first x r s = sym (one_slash x) ∙ (neither_but_second (is_source (x ∷ r)) (is_absolute (x ∷ r)) s).1

system-left : (u r : List ℕ) → EndsPlain u → is_system (u ++ r) ≡ true → is_system u ≡ true
system-left [] r w s = absurd (omega (arith, ap length w.is, length-append w.front (w.last ∷ [])))
system-left (x ∷ []) r w s = by w.front w.is
  where
    by : (f : List ℕ) → x ∷ [] ≡ f ++ w.last ∷ [] → is_system (x ∷ []) ≡ true
    by [] q = let same : x ≡ w.last = cc in absurd (false≢true (sym w.plain ∙ ap is_slash (sym same) ∙ system-first x r s))
    by (z ∷ zs) q = absurd (omega (arith, ap length q, length-append zs (w.last ∷ [])))
system-left (x ∷ y ∷ ys) r w s = s

system-directory : (p : List ℕ) → IsNormal p → is_system p ≡ true → IsDirectory (as_directory p)
system-directory p h s = by (trimmed p)
  where
    by : Trimmed p → IsDirectory (as_directory p)
    by t = go t.ending
      where
        go : (t.kept ≡ []) ⊎ EndsPlain t.kept → IsDirectory (as_directory p)
        go (inl e) = subst IsDirectory (sym (as_directory-none p t.count (t.is ∙ ap (λ x. x ++ replicate t.count 47) e))) (root-directory (is_source p))
        go (inr w) =
            let clean : IsClean t.kept = clean-front t.kept t.count (subst IsClean t.is (clean-path_text p h.text)) in
            subst IsDirectory (sym (as_directory-left p t.kept t.count t.is w))
            (record {
              normal = record { text = path_text-filled t.kept clean w; shape = inl (system-left t.kept (replicate t.count 47) w (sym (ap is_system t.is) ∙ s)) };
              form = directory-plain t.kept w;
            })

-- components behind slashes end in the last byte of the last one
trail-ends : (top : List ℕ) (c : List ℕ) (cs : List (List ℕ)) → All IsPlain (c ∷ cs) → EndsPlain (top ++ trail (c ∷ cs))
trail-ends top c cs h = by (ends c cs)
  where
    byte : (u last : List ℕ) → IsPlain last → EndsPlain (u ++ last)
    byte u [] k = absurd (k.not_empty refl)
    byte u (x ∷ xs) k =
        let e = ends x xs in
        record {
          front = u ++ e.front;
          last = e.last;
          is = ap (λ t. u ++ t) e.is ∙ sym (append_assoc u e.front (e.last ∷ []));
          plain = subst (λ b. is_slash b ≡ false) (get_or_at e.front e.last [] 0 (length e.front) refl) (subst HasNoSlash e.is k.no_slash (length e.front) 0 (omega (arith, length-append e.front (e.last ∷ []))));
        }

    by : Ends (c ∷ cs) → EndsPlain (top ++ trail (c ∷ cs))
    by e =
        let plain : IsPlain e.last = subst IsPlain (get_or_at e.front e.last [] [] (length e.front) refl) (subst (All IsPlain) e.is h (length e.front) [] (omega (arith, length-append e.front (e.last ∷ [])))) in
        let same : top ++ trail (c ∷ cs) ≡ ((top ++ trail e.front) ++ 47 ∷ []) ++ e.last = ap (λ l. top ++ trail l) e.is ∙ ap (λ t. top ++ t) (trail-append e.front (e.last ∷ []) ∙ ap (λ t. trail e.front ++ 47 ∷ t) (append-nil e.last)) ∙ sym (append_assoc top (trail e.front) (47 ∷ e.last)) ∙ sym (append_assoc (top ++ trail e.front) (47 ∷ []) e.last) in
        subst EndsPlain (sym same) (byte ((top ++ trail e.front) ++ 47 ∷ []) e.last plain)

-- a path of the source tree as a directory has the same components
pub source-as_directory : (parts : List (List ℕ)) (final : Bool) → All IsPlain parts → as_directory (spelled slash parts final) ≡ spelled slash parts false
source-as_directory [] final h = as_directory-none (spelled slash [] final) 2 refl
source-as_directory (c ∷ cs) final h =
    as_directory-left (spelled slash (c ∷ cs) final) (slash ++ trail (c ∷ cs)) (cond final 1 0) (by final) (trail-ends slash c cs h) ∙ sym (append-nil (slash ++ trail (c ∷ cs)))
  where
    by : (f : Bool) → spelled slash (c ∷ cs) f ≡ (slash ++ trail (c ∷ cs)) ++ replicate (cond f 1 0) 47
    by true = refl
    by false = refl

source-directory : (p : List ℕ) → IsNormal p → IsInSource p → IsDirectory (as_directory p)
source-directory p h w = subst IsDirectory (sym (ap as_directory w.spelling ∙ source-as_directory w.parts w.final w.plain)) (by w.parts w.plain (subst IsClean w.spelling (clean-path_text p h.text)))
  where
    by : (parts : List (List ℕ)) → All IsPlain parts → IsClean (spelled slash parts w.final) → IsDirectory (spelled slash parts false)
    by [] k c = root-directory true
    by (x ∷ xs) k c =
        let u : List ℕ = slash ++ trail (x ∷ xs) in
        let e : EndsPlain u = trail-ends slash x xs k in
        let clean : IsClean u = clean-front u (cond w.final 1 0) (subst IsClean (front w.final) c) in
        record {
          normal = record { text = path_text-clean 47 (trail (x ∷ xs) ++ []) (subst IsClean (sym (append-nil u)) clean); shape = inr (record { parts = x ∷ xs; final = false; plain = k; spelling = refl }) };
          form = ap is_directory (append-nil u) ∙ directory-plain u e;
        }
      where
        front : (f : Bool) → spelled slash (x ∷ xs) f ≡ (slash ++ trail (x ∷ xs)) ++ replicate (cond f 1 0) 47
        front true = refl
        front false = refl

-- a path as a directory
pub is_directory-normal : (p : List ℕ) → IsNormal p → IsDirectory (as_directory p)
is_directory-normal p h = by h.shape
  where
    by : (is_system p ≡ true) ⊎ IsInSource p → IsDirectory (as_directory p)
    by (inl s) = system-directory p h s
    by (inr w) = source-directory p h w

-- the same for what code makes of it
pub directory_by : (p d : List ℕ) → IsNormal p → d ≡ as_directory p → IsDirectory d
directory_by p d h e = subst IsDirectory (sym e) (is_directory-normal p h)

-- what stands up to the last slash
pub up_to_last_slash-is : (u c : List ℕ) → HasNoSlash c → up_to_last_slash (u ++ 47 ∷ c) ≡ u ++ 47 ∷ []
up_to_last_slash-is u c h =
    let zs : List ℕ = u ++ 47 ∷ c in
    let long : length zs ≡ length u + (length c + 1) = omega (arith, length-append u (47 ∷ c)) in
    let same : zs ≡ (u ++ 47 ∷ []) ++ c = sym (append_assoc u (47 ∷ []) c) in
    let n : length (u ++ 47 ∷ []) ≡ length u + 1 = omega (arith, length-append u (47 ∷ [])) in
    let after : (k : ℕ) → length u + 1 ≤ k → k < length zs → not (is_slash (get_or zs k 0)) ≡ true = λ k a l. ap (λ b. not (is_slash b)) (ap (λ t. get_or t k 0) same ∙ get_or-append_right (u ++ 47 ∷ []) c (length u + 1) k 0 n a) ∙ ap not (h (k - (length u + 1)) 0 (omega arith)) in
    let here : 0 < length u + 1 → not (is_slash (get_or zs (length u + 1 - 1) 0)) ≡ false = λ _. ap (λ b. not (is_slash b)) (get_or_at u 47 c 0 (length u + 1 - 1) (omega arith)) in
    let s : suffix_len (λ b. not (is_slash b)) zs ≡ length zs - (length u + 1) = suffix_len_is (λ b. not (is_slash b)) zs (length u + 1) 0 (omega arith) after here in
    ap (take (length zs - suffix_len (λ b. not (is_slash b)) zs)) same ∙ take_at (u ++ 47 ∷ []) c _ (omega (arith, s))

-- a text at its last slash
record AtLast (t : List ℕ) : Type 0 where
  before : List ℕ
  behind : List ℕ
  is : t ≡ before ++ 47 ∷ behind
  plain : HasNoSlash behind

at_last : (t : List ℕ) → HasNoSlash t ⊎ AtLast t
at_last [] = inl (All-nil _)
at_last (b ∷ bs) = by (at_last bs)
  where
    one : (s : Bool) → is_slash b ≡ s → HasNoSlash bs → HasNoSlash (b ∷ bs) ⊎ AtLast (b ∷ bs)
    one true e h = inr (record { before = []; behind = bs; is = ap (λ x. x ∷ bs) (slash_is b e); plain = h })
    one false e h = inl (All-cons (λ x. is_slash x ≡ false) b bs e h)

    by : HasNoSlash bs ⊎ AtLast bs → HasNoSlash (b ∷ bs) ⊎ AtLast (b ∷ bs)
    by (inl h) = one (is_slash b) refl h
    by (inr w) = inr (record { before = b ∷ w.before; behind = w.behind; is = ap (λ x. b ∷ x) w.is; plain = w.plain })

system-up : (u c : List ℕ) → is_system (u ++ 47 ∷ c) ≡ true → is_system (u ++ 47 ∷ []) ≡ true
system-up [] c s = refl
system-up (x ∷ []) c s = s
system-up (x ∷ y ∷ ys) c s = s

-- it stays clean
clean-up : (t : List ℕ) → is_absolute t ≡ true → IsClean t → IsClean (up_to_last_slash t)
clean-up t a c = by t a c (at_last t)
  where
    by : (x : List ℕ) → is_absolute x ≡ true → IsClean x → HasNoSlash x ⊎ AtLast x → IsClean (up_to_last_slash x)
    by [] q k (inl n) = absurd (false≢true q)
    by (y ∷ ys) q k (inl n) = absurd (false≢true (sym (n 0 0 (omega arith)) ∙ sym (one_slash y) ∙ q))
    by x q k (inr w) =
        subst IsClean (sym (ap up_to_last_slash w.is ∙ up_to_last_slash-is w.before w.behind w.plain)) (clean-append w.before (47 ∷ []) (clean-cut w.before w.behind (subst IsClean w.is k)).before clean-slash)

system-up-normal : (p : List ℕ) → IsNormal p → is_system p ≡ true → IsNormal (up_to_last_slash p)
system-up-normal p h s = by p h s (at_last p)
  where
    at : (t : List ℕ) → IsNormal t → is_system t ≡ true → AtLast t → IsNormal (up_to_last_slash t)
    at t n q w =
        let clean : IsClean (w.before ++ 47 ∷ []) = clean-append w.before (47 ∷ []) (clean-cut w.before w.behind (subst IsClean w.is (clean-path_text t n.text))).before clean-slash in
        subst IsNormal (sym (ap up_to_last_slash w.is ∙ up_to_last_slash-is w.before w.behind w.plain))
        (record { text = filled w.before clean; shape = inl (system-up w.before w.behind (sym (ap is_system w.is) ∙ q)) })
      where
        filled : (u : List ℕ) → IsClean (u ++ 47 ∷ []) → is_path_text (u ++ 47 ∷ []) ≡ true
        filled [] k = path_text-clean 47 [] k
        filled (x ∷ xs) k = path_text-clean x (xs ++ 47 ∷ []) k

    by : (t : List ℕ) → IsNormal t → is_system t ≡ true → HasNoSlash t ⊎ AtLast t → IsNormal (up_to_last_slash t)
    by [] n q (inl k) = absurd (false≢true q)
    by (x ∷ xs) n q (inl k) = absurd (false≢true (sym (k 0 0 (omega arith)) ∙ system-first x xs q))
    by t n q (inr w) = at t n q w

-- the components up to the last slash, in the source tree
source-up : (parts : List (List ℕ)) (final : Bool) → All IsPlain parts → (front : List (List ℕ)) × All IsPlain front × (up_to_last_slash (spelled slash parts final) ≡ spelled slash front true)
source-up [] final h = ([], h, up_to_last_slash-is slash [] (All-nil _))
source-up (c ∷ cs) true h = (c ∷ cs, h, up_to_last_slash-is (slash ++ trail (c ∷ cs)) [] (All-nil _))
source-up (c ∷ cs) false h = by (ends c cs)
  where
    shown : (front : List (List ℕ)) → (slash ++ trail front) ++ 47 ∷ [] ≡ spelled slash front true
    shown [] = refl
    shown (d ∷ ds) = refl

    by : Ends (c ∷ cs) → (front : List (List ℕ)) × All IsPlain front × (up_to_last_slash (spelled slash (c ∷ cs) false) ≡ spelled slash front true)
    by e =
        let all : All IsPlain (e.front ++ e.last ∷ []) = subst (All IsPlain) e.is h in
        let last : IsPlain e.last = subst IsPlain (get_or_at e.front e.last [] [] (length e.front) refl) (all (length e.front) [] (omega (arith, length-append e.front (e.last ∷ [])))) in
        let same : spelled slash (c ∷ cs) false ≡ (slash ++ trail e.front) ++ 47 ∷ e.last = append-nil (slash ++ trail (c ∷ cs)) ∙ ap (λ l. slash ++ trail l) e.is ∙ ap (λ t. slash ++ t) (trail-append e.front (e.last ∷ []) ∙ ap (λ t. trail e.front ++ 47 ∷ t) (append-nil e.last)) ∙ sym (append_assoc slash (trail e.front) (47 ∷ e.last)) in
        (e.front, All-front e.front (e.last ∷ []) all, ap up_to_last_slash same ∙ up_to_last_slash-is (slash ++ trail e.front) e.last last.no_slash ∙ shown e.front)
      where
        All-front : (xs ys : List (List ℕ)) → All IsPlain (xs ++ ys) → All IsPlain xs
        All-front [] ys k = All-nil _
        All-front (x ∷ xs) ys k = All-cons IsPlain x xs (All-head IsPlain x (xs ++ ys) k) (All-front xs ys (All-tail IsPlain x (xs ++ ys) k))

source-up-normal : (p : List ℕ) → IsNormal p → IsInSource p → IsNormal (up_to_last_slash p)
source-up-normal p h w = by (source-up w.parts w.final w.plain)
  where
    by : (front : List (List ℕ)) × All IsPlain front × (up_to_last_slash (spelled slash w.parts w.final) ≡ spelled slash front true) → IsNormal (up_to_last_slash p)
    by k =
        let e : up_to_last_slash p ≡ spelled slash k.0 true = ap up_to_last_slash w.spelling ∙ k.2 in
        subst IsNormal (sym e)
        (record { text = path_text-source k.0 true (subst IsClean e (clean-up p (absolute-normal p h) (clean-path_text p h.text))); shape = inr (record { parts = k.0; final = true; plain = k.1; spelling = refl }) })

-- what stands up to the last slash of a path is one
pub up_to_last_slash-normal : (p : List ℕ) → IsNormal p → IsNormal (up_to_last_slash p)
up_to_last_slash-normal p h = by h.shape
  where
    by : (is_system p ≡ true) ⊎ IsInSource p → IsNormal (up_to_last_slash p)
    by (inl s) = system-up-normal p h s
    by (inr w) = source-up-normal p h w

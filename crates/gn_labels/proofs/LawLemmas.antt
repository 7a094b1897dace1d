-- What holds of labels and patterns that were read.
use Rattle.std.proofs.Common.{◌≡◌, ◌⊎◌, inl, inr, ℕ, ◌-◌, Bool, true, false, cond, ◌&&◌, ◌||◌, List, [], ◌∷◌, ◌++◌, nat_eq, length, take, drop, Option, None, Some, Result, Ok, Err, refl, sym, ap, ◌∙◌, subst, append_assoc, take-append-drop, arith}
use Rattle.std.specs.List.{list_any, before_first, after_first, ends_with}
use Rattle.std.specs.Str.{bytes_eq}
use Rattle.std.specs.Cmp.Lexicographic.{bytes_decides}
use Rattle.std.proofs.lemmas.Bool.{false≢true, and_parts, and_from}
use Rattle.std.proofs.lemmas.List.{drop_at, length-append}
use Rattle.std.proofs.Math.Bool.{or-true}
use Rattle.gn_paths.specs.declared.error.PathFault.{PathFault}
use Rattle.gn_paths.specs.Components.{is_source, is_system, is_absolute, ends_in_slash}
use Rattle.gn_paths.specs.Normal.{IsNormal}
use Rattle.gn_paths.specs.Parts.{file_of}
use Rattle.gn_paths.specs.Resolve.{start_of, path_meant}
use Rattle.gn_paths.specs.Laws.{IsSourceDirectory}
use Rattle.gn_basics.proofs.Tests.{neither_but_second}
use Rattle.gn_basics.proofs.Texts.{bytes_eq-itself}
use Rattle.gn_labels.specs.declared.error.LabelFault.{LabelFault}
use Rattle.gn_labels.specs.declared.error.LabelFault.TheVariants.{BadLabel, Path}
use Rattle.gn_labels.specs.declared.error.PatternFault.TheVariants as faults
use Rattle.gn_labels.specs.declared.label.Label.{Label}
use Rattle.gn_labels.specs.declared.named.Named.{Named}
use Rattle.gn_labels.specs.declared.pattern.Extent.TheVariants.{Exact}
use Rattle.gn_labels.specs.Labels.{spelling}
use Rattle.gn_labels.specs.Names.{is_name}
use Rattle.gn_labels.specs.Reading.{is_open, is_colon, has, named, directory_text, directory_of, starts_in_source, named_in, named_last, named_apart, named_whole, written_last, named_read, without_last, is_closed, toolchain_of, toolchain_read, toolchain_in, told, both, label_under, label_of, label_read}
use Rattle.gn_labels.specs.Patterns.{is_star, star, colon_star, slash_star, exact, wild_read, extent_read, pattern_fault, pattern_under, pattern_of, pattern_read}
use Rattle.gn_labels.specs.Laws.{IsNamed, IsSpelled, IsReadLabel, IsExactly, AreOne}

-- where a directory's text starts, and that of its path
record IsDirectoryText (current text : List ℕ) : Type 0 where
  start : is_source (start_of current text) ≡ true
  relative : is_system text ≡ false
  open_end : ends_in_slash text ≡ false

dot_behind : (t : List ℕ) → ends_in_slash (t ++ 47 ∷ 46 ∷ []) ≡ false
dot_behind t =
    ap ends_in_slash (sym (append_assoc t (47 ∷ []) (46 ∷ [])))
    ∙ ap (bytes_eq (47 ∷ [])) (drop_at (t ++ 47 ∷ []) (46 ∷ []) (length ((t ++ 47 ∷ []) ++ 46 ∷ []) - 1) (omega (arith, length-append (t ++ 47 ∷ []) (46 ∷ []))))

-- a text of one byte that starts in the source tree begins with no slash, so the same with `/.` behind it starts there too
abbrev starts_by : List ℕ → Bool → Bool
starts_by current slash = cond (cond (slash && false) false (slash && true)) false (is_source (cond (slash && false) (47 ∷ 47 ∷ []) current))

one_starts : (current : List ℕ) (slash : Bool) → starts_by current slash ≡ true → (is_source (cond (slash && true) (47 ∷ 47 ∷ []) current) ≡ true) × (cond (slash && true) false (slash && true) ≡ false)
one_starts current true e = absurd (false≢true e)
one_starts current false e = (e, refl)

text_starts : (current text : List ℕ) → starts_in_source current text ≡ true → IsDirectoryText current (directory_text text)
text_starts current [] e = record { start = e; relative = refl; open_end = refl }
text_starts current (b ∷ []) e =
    let k = one_starts current (nat_eq 47 b) e in
    record { start = k.0; relative = k.1; open_end = dot_behind (b ∷ []) }
text_starts current (b ∷ c ∷ r) e =
    let k = neither_but_second (is_system (b ∷ c ∷ r)) (is_source (start_of current (b ∷ c ∷ r))) e in
    record { start = k.1; relative = k.0; open_end = dot_behind (b ∷ c ∷ r) }

-- a directory that was read
record IsGoodDirectory (dir : List ℕ) : Type 0 where
  normal : IsNormal dir
  place : IsSourceDirectory dir

-- what a text means at a path in normal form, and what it means where it starts in the source tree and has no final slash
abbrev pub MeansNormal : Type 0
MeansNormal = (current text path : List ℕ) → IsNormal current → path_meant current text ≡ Ok path → IsNormal path

abbrev pub MeansDirectory : Type 0
MeansDirectory = (current text path : List ℕ) → IsNormal current → is_source (start_of current text) ≡ true → is_system text ≡ false → ends_in_slash text ≡ false → path_meant current text ≡ Ok path → IsSourceDirectory path

module _ (normal : MeansNormal) (directory : MeansDirectory) where
  directory_good : (current text dir : List ℕ) → IsNormal current → starts_in_source current text ≡ true → directory_of current text ≡ Ok dir → IsGoodDirectory dir
  directory_good current text dir h s e =
      let k = text_starts current text s in
      record {
        normal = normal current (directory_text text) dir h e;
        place = directory current (directory_text text) dir h k.start k.relative k.open_end e;
      }

  source_starts : (current text : List ℕ) → is_source text ≡ true → starts_in_source current text ≡ true
  source_starts current text s =
      ap (λ b. cond (cond b false (is_absolute text)) false (is_source (cond b (47 ∷ 47 ∷ []) current))) s

  -- a name in a directory that was read
  apart_good : (current dir name : List ℕ) (n : Named) → IsNormal current → named_apart current dir name ≡ Ok n → IsNamed n
  apart_good current dir name n h e = by (is_name name && starts_in_source current dir) refl e
    where
      found : (r : Result (List ℕ) PathFault) → directory_of current dir ≡ r → is_name name ≡ true → starts_in_source current dir ≡ true → named_in name r ≡ Ok n → IsNamed n
      found (Ok d) f g s q =
          let same : named d name ≡ n = cc in
          let k = directory_good current dir d h s f in
          subst IsNamed same (record { name = g; directory = k.normal; place = k.place })
      found (Err x) f g s q = absurd cc

      by : (b : Bool) → (is_name name && starts_in_source current dir) ≡ b → cond b (named_in name (directory_of current dir)) (Err BadLabel) ≡ Ok n → IsNamed n
      by true f q = let k = and_parts (is_name name) (starts_in_source current dir) f in found (directory_of current dir) refl k.0 k.1 q
      by false f q = absurd cc

  whole_good : (current text : List ℕ) (n : Named) → IsNormal current → named_whole current text ≡ Ok n → IsNamed n
  whole_good current text n h e = by (is_source text) refl e
    where
      last : (d : List ℕ) → IsGoodDirectory d → (b : Bool) → is_name (file_of d) ≡ b → cond b (Ok (named d (file_of d))) (Err BadLabel) ≡ Ok n → IsNamed n
      last d k true g q = let same : named d (file_of d) ≡ n = cc in subst IsNamed same (record { name = g; directory = k.normal; place = k.place })
      last d k false g q = absurd cc

      found : (r : Result (List ℕ) PathFault) → directory_of current text ≡ r → is_source text ≡ true → named_last (written_last text) r ≡ Ok n → IsNamed n
      found (Ok d) f s q = last d (directory_good current text d h (source_starts current text s) f) (is_name (file_of d)) refl q
      found (Err x) f s q = absurd cc

      by : (b : Bool) → is_source text ≡ b → cond b (named_last (written_last text) (directory_of current text)) (Err BadLabel) ≡ Ok n → IsNamed n
      by true s q = found (directory_of current text) refl s q
      by false s q = absurd cc

  named_good : (current text : List ℕ) (n : Named) → IsNormal current → named_read current text ≡ Ok n → IsNamed n
  unfolding named_read
  named_good current text n h e = by (has is_colon text) e
    where
      by : (b : Bool) → cond b (named_apart current (before_first is_colon text) (after_first is_colon text)) (named_whole current text) ≡ Ok n → IsNamed n
      by true q = apart_good current (before_first is_colon text) (after_first is_colon text) n h q
      by false q = whole_good current text n h q

  toolchain_good : (current text tc : List ℕ) → IsNormal current → toolchain_in current text ≡ Ok (Some tc) → IsSpelled tc
  unfolding toolchain_in
  toolchain_good current text tc h e = by (has is_open text) e
    where
      tail : List ℕ
      tail = after_first is_open text

      spelled : (r : Result Named LabelFault) → named_read current (without_last tail) ≡ r → toolchain_of r ≡ Ok (Some tc) → IsSpelled tc
      spelled (Ok n) f q = let same : spelling n.dir n.name ≡ tc = cc in record { part = n; good = named_good current (without_last tail) n h f; is = sym same }
      spelled (Err x) f q = absurd cc

      closed : (b : Bool) → cond b (toolchain_of (named_read current (without_last tail))) (Err BadLabel) ≡ Ok (Some tc) → IsSpelled tc
      closed true q = spelled (named_read current (without_last tail)) refl q
      closed false q = absurd cc

      by : (b : Bool) → cond b (toolchain_read current tail) (Ok None) ≡ Ok (Some tc) → IsSpelled tc
      by true q = closed (is_closed tail) q
      by false q = absurd cc

  -- a label that was read
  pub label_good : (current toolchain text : List ℕ) (label : Label) → IsNormal current → label_read current toolchain text ≡ Ok label → IsReadLabel toolchain label
  unfolding label_read
  label_good current toolchain text label h e = by (named_read current (before_first is_open text)) (toolchain_in current text) refl refl e
    where
      by : (p : Result Named LabelFault) (t : Result (Option (List ℕ)) LabelFault) → named_read current (before_first is_open text) ≡ p → toolchain_in current text ≡ t → label_of toolchain (both p t) ≡ Ok label → IsReadLabel toolchain label
      by (Ok n) (Ok None) f g q = let same : label_under n toolchain ≡ label = cc in subst (IsReadLabel toolchain) same (record { part = named_good current (before_first is_open text) n h f; under = inl refl })
      by (Ok n) (Ok (Some tc)) f g q = let same : label_under n tc ≡ label = cc in subst (IsReadLabel toolchain) same (record { part = named_good current (before_first is_open text) n h f; under = inr (toolchain_good current text tc h g) })
      by (Ok n) (Err y) f g q = absurd cc
      by (Err x) (Ok o) f g q = absurd cc
      by (Err x) (Err y) f g q = absurd cc

-- a bad form of either part
pub label_bad : (current toolchain text : List ℕ) → (named_read current (before_first is_open text) ≡ Err BadLabel) ⊎ (toolchain_in current text ≡ Err BadLabel) → label_read current toolchain text ≡ Err BadLabel
unfolding label_read
label_bad current toolchain text (inl e) = ap (λ p. label_of toolchain (both p (toolchain_in current text))) e ∙ by (toolchain_in current text)
  where
    by : (t : Result (Option (List ℕ)) LabelFault) → label_of toolchain (both (Err BadLabel) t) ≡ Err BadLabel
    by (Ok o) = refl
    by (Err y) = refl
label_bad current toolchain text (inr e) = ap (λ t. label_of toolchain (both (named_read current (before_first is_open text)) t)) e ∙ by (named_read current (before_first is_open text))
  where
    by : (p : Result Named LabelFault) → label_of toolchain (both p (Err BadLabel)) ≡ Err BadLabel
    by (Ok n) = refl
    by (Err BadLabel) = refl
    by (Err (Path x)) = refl

-- a pattern of one label
same_text : (a b : List ℕ) → bytes_eq a b ≡ true → a ≡ b
same_text a b e = (bytes_decides a b).0 e

exactly_any : (text : List ℕ) (n : Named) (toolchain : List ℕ) → IsExactly (label_under n toolchain) (pattern_under text (Exact n) None)
exactly_any text n toolchain = record {
  has = and_from _ _ (and_from _ _ (bytes_eq-itself n.dir) (bytes_eq-itself n.name)) refl;
  dir = λ other h. same_text other.dir n.dir (and_parts _ _ (and_parts _ true h).0).0;
  name = λ other h. same_text other.name n.name (and_parts _ _ (and_parts _ true h).0).1;
  toolchain = λ other h. inl refl;
}

exactly_one : (text : List ℕ) (n : Named) (tc : List ℕ) → IsExactly (label_under n tc) (pattern_under text (Exact n) (Some tc))
exactly_one text n tc = record {
  has = and_from _ _ (and_from _ _ (bytes_eq-itself n.dir) (bytes_eq-itself n.name)) (bytes_eq-itself tc);
  dir = λ other h. same_text other.dir n.dir (and_parts _ _ (and_parts _ _ h).0).0;
  name = λ other h. same_text other.name n.name (and_parts _ _ (and_parts _ _ h).0).1;
  toolchain = λ other h. inr (same_text other.toolchain tc (and_parts _ _ h).1);
}

pub without_star : (current toolchain text : List ℕ) → list_any is_star text ≡ false → AreOne (label_read current toolchain text) (pattern_read current text)
unfolding label_read pattern_read extent_read
without_star current toolchain text e =
    subst (λ b. AreOne (label_read current toolchain text) (pattern_of text (both (cond b (wild_read current (before_first is_open text)) (exact (named_read current (before_first is_open text)))) (toolchain_in current text)))) (sym e)
    (by (named_read current (before_first is_open text)) (toolchain_in current text))
  where
    by : (p : Result Named LabelFault) (t : Result (Option (List ℕ)) LabelFault) → AreOne (label_of toolchain (both p t)) (pattern_of text (both (exact p) t))
    by (Ok n) (Ok None) = record {
      good = λ l q. (let same : label_under n toolchain ≡ l = cc in (pattern_under text (Exact n) None, refl, subst (λ x. IsExactly x (pattern_under text (Exact n) None)) same (exactly_any text n toolchain)));
      bad = λ f q. absurd cc;
    }
    by (Ok n) (Ok (Some tc)) = record {
      good = λ l q. (let same : label_under n tc ≡ l = cc in (pattern_under text (Exact n) (Some tc), refl, subst (λ x. IsExactly x (pattern_under text (Exact n) (Some tc))) same (exactly_one text n tc)));
      bad = λ f q. absurd cc;
    }
    by (Ok n) (Err y) = record { good = λ l q. absurd cc; bad = λ f q. (let same : y ≡ f = cc in ap (λ x. Err (pattern_fault x)) same) }
    by (Err x) (Ok o) = record { good = λ l q. absurd cc; bad = λ f q. (let same : x ≡ f = cc in ap (λ z. Err (pattern_fault z)) same) }
    by (Err x) (Err y) = record { good = λ l q. absurd cc; bad = λ f q. (let same : told x y ≡ f = cc in ap (λ z. Err (pattern_fault z)) same) }

-- a text that ends in `:*` or `/*` holds a star
any-append : (xs ys : List ℕ) → list_any is_star (xs ++ ys) ≡ (list_any is_star xs || list_any is_star ys)
any-append [] ys = refl
any-append (x ∷ xs) ys = by (is_star x) (any-append xs ys)
  where
    by : (b : Bool) → list_any is_star (xs ++ ys) ≡ (list_any is_star xs || list_any is_star ys) → (b || list_any is_star (xs ++ ys)) ≡ ((b || list_any is_star xs) || list_any is_star ys)
    by true h = refl
    by false h = h

or_star : (c : ℕ) → list_any is_star (c ∷ 42 ∷ []) ≡ true
or_star c = or-true (is_star c)

split_star : (t front back : List ℕ) (b : ℕ) → t ≡ front ++ back → back ≡ b ∷ 42 ∷ [] → list_any is_star t ≡ true
split_star t front back b e f =
    ap (list_any is_star) e ∙ any-append front back ∙ ap (λ x. list_any is_star front || list_any is_star x) f ∙ ap (λ x. list_any is_star front || x) (or_star b) ∙ or-true (list_any is_star front)

star_at_end : (t : List ℕ) (b : ℕ) → ends_with nat_eq t (b ∷ 42 ∷ []) ≡ true → list_any is_star t ≡ true
star_at_end t b e =
    split_star t (take (length t - length (b ∷ 42 ∷ [])) t) (drop (length t - length (b ∷ 42 ∷ [])) t) b (sym (take-append-drop (length t - length (b ∷ 42 ∷ [])) t)) (sym (same_text (b ∷ 42 ∷ []) (drop (length t - length (b ∷ 42 ∷ [])) t) e))

not_wild : (t : List ℕ) (b : Bool) → list_any is_star t ≡ false → (b ≡ true → list_any is_star t ≡ true) → b ≡ false
not_wild t true h f = absurd (false≢true (sym h ∙ f refl))
not_wild t false h f = refl

wild_none : (current t : List ℕ) → list_any is_star t ≡ false → wild_read current t ≡ Err BadLabel
wild_none current t h =
    let all : bytes_eq t star ≡ false = not_wild t (bytes_eq t star) h (λ e. ap (list_any is_star) (same_text t star e)) in
    let one : ends_with nat_eq t colon_star ≡ false = not_wild t (ends_with nat_eq t colon_star) h (star_at_end t 58) in
    let below : ends_with nat_eq t slash_star ≡ false = not_wild t (ends_with nat_eq t slash_star) h (star_at_end t 47) in
    rw (all, one, below) refl

pub star_behind : (current text : List ℕ) → list_any is_star text ≡ true → list_any is_star (before_first is_open text) ≡ false → pattern_read current text ≡ Err faults.BadPattern
unfolding pattern_read extent_read
star_behind current text e h =
    ap (λ b. pattern_of text (both (cond b (wild_read current (before_first is_open text)) (exact (named_read current (before_first is_open text)))) (toolchain_in current text))) e ∙ ap (λ p. pattern_of text (both p (toolchain_in current text))) (wild_none current (before_first is_open text) h) ∙ by (toolchain_in current text)
  where
    by : (t : Result (Option (List ℕ)) LabelFault) → pattern_of text (both (Err BadLabel) t) ≡ Err faults.BadPattern
    by (Ok o) = refl
    by (Err y) = refl

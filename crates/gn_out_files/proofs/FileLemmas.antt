-- What adding a file to a map of files does, and what one more put does.
use Rattle.std.proofs.Common.{◌≡◌, ℕ, ◌+◌, ◌<◌, ◌≤◌, if◌then◌else◌, List, [], ◌∷◌, ◌++◌, length, take, map, refl, sym, ap, ◌∙◌, subst, append_assoc, arith}
use Rattle.std.proofs.Math.Seq.{take-append_seam}
use Rattle.std.proofs.lemmas.List.{map-append}
use Rattle.std.specs.Prelude.{Option, None, Some, option_map}
use Rattle.std.specs.BTreeMap.{insert_entry}
use Rattle.std.specs.Cmp.{nat_cmp_is}
use Rattle.std.specs.Cmp.Lexicographic.{slice_cmp}
use Rattle.std.specs.Ordering.{nat_cmp, is_gt, ordering_then, match_ordering}
use Rattle.std.specs.declared.cmp.Ordering.{Ordering}
use Rattle.std.specs.declared.cmp.Ordering.TheVariants.{Less, Equal, Greater}
use Rattle.gn_outside.specs.Lists.{Extends}
use Rattle.gn_outside.specs.States.{PutFile, Put, SinkEvent}
use Rattle.gn_out_files.specs.declared.out_file.OutFile.{OutFile}
use Rattle.gn_out_files.specs.declared.out_files.FileKey.{FileKey}
use Rattle.gn_out_files.specs.Files.{put_of, with_file, with_files}
use Rattle.gn_out_files.specs.Keys.{file_of, files_of, AreFrom}

-- by path, and then by number
abbrev pub key_cmp : FileKey → FileKey → Ordering
key_cmp a b = ordering_then (slice_cmp nat_cmp a.path b.path) (nat_cmp a.number b.number)

less : (n m : ℕ) → n + 1 ≤ m → nat_cmp n m ≡ Less
less n m within = let before : n < m = omega (arith, within) in sym (nat_cmp_is n m Less before)

fewer : (n : ℕ) (es : List (FileKey × List ℕ)) → AreFrom (n + 1) es → AreFrom n es
fewer n [] numbers = tt
fewer n (e ∷ es) numbers = ((let within = numbers.0 in omega (arith, within)), fewer n es numbers.1)

-- an entry with a number that is less than those of the others
module _ (path : List ℕ) (n : ℕ) (bytes : List ℕ) where
  abbrev pub new_key : FileKey
  new_key = record { path = path; number = n }

  abbrev pub with_entry : List (FileKey × List ℕ) → List (FileKey × List ℕ)
  with_entry es = insert_entry key_cmp es new_key bytes

  pub put_files : (es : List (FileKey × List ℕ)) → AreFrom (n + 1) es → files_of (with_entry es) ≡ with_file (path, bytes) (files_of es)
  put_files [] numbers = refl
  put_files (e ∷ es) numbers = by (slice_cmp nat_cmp path e.0.path) (nat_cmp n e.0.number) (less n e.0.number numbers.0) (put_files es numbers.1)
    where
      by : (o r : Ordering) → r ≡ Less → files_of (with_entry es) ≡ with_file (path, bytes) (files_of es)
          → files_of (match_ordering (ordering_then o r) ((new_key, bytes) ∷ e ∷ es) ((e.0, bytes) ∷ es) (e ∷ with_entry es))
          ≡ (if is_gt o then file_of e ∷ with_file (path, bytes) (files_of es) else (path, bytes) ∷ file_of e ∷ files_of es)
      by Less r is more = refl
      by Equal Less is more = refl
      by Equal Equal is more = absurd (cc is)
      by Equal Greater is more = absurd (cc is)
      by Greater r is more = ap (λ (fs : List PutFile). file_of e ∷ fs) more

  pub put_numbers : (es : List (FileKey × List ℕ)) → AreFrom (n + 1) es → AreFrom n (with_entry es)
  put_numbers [] numbers = (omega arith, tt)
  put_numbers (e ∷ es) numbers = by (slice_cmp nat_cmp path e.0.path) (nat_cmp n e.0.number) (less n e.0.number numbers.0) (put_numbers es numbers.1)
    where
      all : AreFrom n (e ∷ es)
      all = fewer n (e ∷ es) numbers

      by : (o r : Ordering) → r ≡ Less → AreFrom n (with_entry es)
          → AreFrom n (match_ordering (ordering_then o r) ((new_key, bytes) ∷ e ∷ es) ((e.0, bytes) ∷ es) (e ∷ with_entry es))
      by Less r is more = (omega arith, all)
      by Equal Less is more = (omega arith, all)
      by Equal Equal is more = absurd (cc is)
      by Equal Greater is more = absurd (cc is)
      by Greater r is more = (all.0, more)

-- the last of several goes in first
pub one_less : (files : List OutFile) (file : OutFile) (others : List PutFile) → with_files (map put_of (files ++ file ∷ [])) others ≡ with_files (map put_of files) (with_file (put_of file) others)
one_less [] file others = refl
one_less (f ∷ fs) file others = ap (with_file (put_of f)) (one_less fs file others)

-- the same of files of which the last was taken out
pub one_put : (all rest : List OutFile) (file : OutFile) (others after whole : List PutFile) → all ≡ rest ++ file ∷ [] → after ≡ with_file (put_of file) others → with_files (map put_of all) others ≡ whole → with_files (map put_of rest) after ≡ whole
one_put all rest file others after whole last put h =
    ap (with_files (map put_of rest)) put ∙ sym (one_less rest file others) ∙ ap (λ (fs : List OutFile). with_files (map put_of fs) others) (sym last) ∙ h

-- Putting

pub extends_more : {X : Type 0} (before after last : Option (List X)) (xs ys : List X) → Extends before after xs → Extends after last ys → Extends before last (xs ++ ys)
extends_more None after last xs ys first second = second ∙ ap (λ (o : Option (List _)). option_map (λ zs. zs ++ ys) o) first
extends_more (Some zs) after last xs ys first second = second ∙ ap (λ (o : Option (List _)). option_map (λ zs. zs ++ ys) o) first ∙ ap (λ (ws : List _). Some ws) (append_assoc zs xs ys)

-- what was put before an error is the first of all
pub first_put : (before after : Option (List SinkEvent)) (all done left : List (FileKey × List ℕ)) → all ≡ done ++ left → Extends before after (map Put (files_of done))
    → (n : ℕ) × Extends before after (map Put (take n (files_of all)))
first_put before after all done left is put = (
  length (files_of done),
  subst (λ (files : List PutFile). Extends before after (map Put files))
      (sym (ap (λ (es : List (FileKey × List ℕ)). take (length (files_of done)) (files_of es)) is ∙ ap (take (length (files_of done))) (map-append file_of done left) ∙ take-append_seam (files_of done) (files_of left)))
      put,
)

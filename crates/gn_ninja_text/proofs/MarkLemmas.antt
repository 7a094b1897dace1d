-- Marks are read back.
use Rattle.std.proofs.Common.{◌≡◌, ℕ, Bool, true, false, cond, not, length, List, [], ◌∷◌, ◌++◌, ◌==◌, ◌||◌, ◌&&◌, Some, option_map, refl, sym, ap, ◌∙◌, subst, eq-eqb, true≢false}
use Rattle.std.proofs.lemmas.Bool.{eqb-true}
use Rattle.std.proofs.Math.Dec.{eqb-suc-zero}
use Rattle.std.specs.List.{list_all}
use Rattle.gn_basics.proofs.Tests.{first_true}
use Rattle.gn_basics.proofs.Texts.{not_one, one_of_more}
use Rattle.gn_ninja_text.specs.Marks.{is_one_of, all_marked, unmarked}
use Rattle.gn_ninja_text.specs.Escapes.{path_special, path_escaped, path_read, value_escaped, value_read, without_first_spaces, has_bare, has_bare_separator}
use Rattle.gn_ninja_text.specs.Words.{is_plain, quotes_special, quotes_read, shell_word_of, word_read}

-- the marks before the bytes of `written` are read back where those of `known` are read
read_marked : (mark : ℕ) (written known bytes : List ℕ) → is_one_of written mark ≡ true → ((b : ℕ) → is_one_of written b ≡ true → is_one_of known b ≡ true) → unmarked mark known false (all_marked mark written bytes) ≡ Some bytes
read_marked mark written known [] h sub = refl
read_marked mark written known (b ∷ more) h sub = by (is_one_of written b) refl (read_marked mark written known more h sub)
  where
    by : (v : Bool) → is_one_of written b ≡ v → unmarked mark known false (all_marked mark written more) ≡ Some more → unmarked mark known false (cond v (mark ∷ b ∷ []) (b ∷ []) ++ all_marked mark written more) ≡ Some (b ∷ more)
    by true e rest = rw (eq-eqb mark mark refl, sub b e) (ap (option_map (λ said. b ∷ said)) rest)
    by false e rest = rw (not_one written mark b h e) (ap (option_map (λ said. b ∷ said)) rest)

-- an escaped path is read back
pub path_reads_back : (path : List ℕ) → path_read (path_escaped path) ≡ Some path
unfolding path_read path_escaped
path_reads_back path = read_marked 36 path_special path_special path refl (λ b e. e)

-- no space or colon ends an escaped path
none_bare : (path : List ℕ) → has_bare false (all_marked 36 path_special path) ≡ false
none_bare [] = refl
none_bare (b ∷ more) = by (is_one_of path_special b) refl (none_bare more)
  where
    by : (v : Bool) → is_one_of path_special b ≡ v → has_bare false (all_marked 36 path_special more) ≡ false → has_bare false (cond v (36 ∷ b ∷ []) (b ∷ []) ++ all_marked 36 path_special more) ≡ false
    by true e rest = rest
    by false e rest = rw (not_one path_special 36 b refl e, not_one path_special 32 b refl e, not_one path_special 58 b refl e) rest

pub path_has_no_end : (path : List ℕ) → has_bare_separator (path_escaped path) ≡ false
unfolding has_bare_separator path_escaped
path_has_no_end path = none_bare path

-- the marks of a value are among those that are read
value_rest : (value : List ℕ) → unmarked 36 (36 ∷ 32 ∷ []) false (all_marked 36 (36 ∷ []) value) ≡ Some value
value_rest value = read_marked 36 (36 ∷ []) (36 ∷ 32 ∷ []) value refl (one_of_more (36 ∷ []) (32 ∷ []))

-- a value that begins with another byte than a space keeps its beginning
value_begins : (b : ℕ) (more : List ℕ) → b == 32 ≡ false → without_first_spaces (all_marked 36 (36 ∷ []) (b ∷ more)) ≡ all_marked 36 (36 ∷ []) (b ∷ more)
value_begins b more e = by (is_one_of (36 ∷ []) b)
  where
    by : (v : Bool) → without_first_spaces (cond v (36 ∷ b ∷ []) (b ∷ []) ++ all_marked 36 (36 ∷ []) more) ≡ cond v (36 ∷ b ∷ []) (b ∷ []) ++ all_marked 36 (36 ∷ []) more
    by true = refl
    by false = rw e refl

-- an escaped value is read back
pub value_reads_back : (value : List ℕ) → value_read (value_escaped value) ≡ Some value
unfolding value_read value_escaped
value_reads_back [] = refl
value_reads_back (b ∷ more) = by (32 == b) refl
  where
    by : (v : Bool) → 32 == b ≡ v → unmarked 36 (36 ∷ 32 ∷ []) false (without_first_spaces (cond (v && true) (36 ∷ []) [] ++ all_marked 36 (36 ∷ []) (b ∷ more))) ≡ Some (b ∷ more)
    by true q = subst (λ (x : ℕ). unmarked 36 (36 ∷ 32 ∷ []) false (without_first_spaces (36 ∷ all_marked 36 (36 ∷ []) (x ∷ more))) ≡ Some (x ∷ more)) (eqb-true 32 b q) (ap (option_map (λ said. 32 ∷ said)) (value_rest more))
    by false q = ap (unmarked 36 (36 ∷ 32 ∷ []) false) (value_begins b more (not_one (32 ∷ []) 32 b refl (ap (λ v. v || false) q))) ∙ value_rest (b ∷ more)

-- the second of two tests that both fail
second_fails : (p q : Bool) → p || q ≡ false → q ≡ false
second_fails true q e = absurd (true≢false e)
second_fails false q e = e

-- what stands between double quotes is read back
quotes_read_back : (word : List ℕ) → quotes_read false (all_marked 92 quotes_special word ++ 34 ∷ []) ≡ Some word
quotes_read_back [] = refl
quotes_read_back (b ∷ more) = by (is_one_of quotes_special b) refl (quotes_read_back more)
  where
    expands : is_one_of quotes_special b ≡ false → is_one_of (36 ∷ 96 ∷ []) b ≡ false
    expands e = second_fails (34 == b) (is_one_of (36 ∷ 96 ∷ []) b) (second_fails (92 == b) (is_one_of (34 ∷ 36 ∷ 96 ∷ []) b) e)

    by : (v : Bool) → is_one_of quotes_special b ≡ v → quotes_read false (all_marked 92 quotes_special more ++ 34 ∷ []) ≡ Some more → quotes_read false ((cond v (92 ∷ b ∷ []) (b ∷ []) ++ all_marked 92 quotes_special more) ++ 34 ∷ []) ≡ Some (b ∷ more)
    by true e rest = rw e (ap (option_map (λ said. b ∷ said)) rest)
    by false e rest = rw (not_one quotes_special 34 b refl e, not_one quotes_special 92 b refl e, expands e) (ap (option_map (λ said. b ∷ said)) rest)

quoted_reads_back : (word : List ℕ) → word_read (34 ∷ (all_marked 92 quotes_special word ++ 34 ∷ [])) ≡ Some word
unfolding word_read
quoted_reads_back word = quotes_read_back word

-- a byte that means itself is no double quote
plain_no_quote : (b : ℕ) → is_plain b ≡ true → b == 34 ≡ false
plain_no_quote b h = by (b == 34) refl
  where
    by : (v : Bool) → b == 34 ≡ v → v ≡ false
    by false q = refl
    by true q = sym h ∙ ap is_plain (eqb-true b 34 q)

plain_reads_back : (b : ℕ) (more : List ℕ) → list_all is_plain (b ∷ more) ≡ true → word_read (b ∷ more) ≡ Some (b ∷ more)
unfolding word_read
plain_reads_back b more e = rw (plain_no_quote b (first_true (is_plain b) (list_all is_plain more) e), e) refl

-- a word of a shell is read back
pub word_reads_back : (word : List ℕ) → word_read (shell_word_of word) ≡ Some word
unfolding shell_word_of
word_reads_back [] = quoted_reads_back []
word_reads_back (b ∷ more) = by (length (b ∷ more) == 0) (eqb-suc-zero (length more)) (list_all is_plain (b ∷ more)) refl
  where
    by : (u : Bool) → u ≡ false → (v : Bool) → list_all is_plain (b ∷ more) ≡ v → word_read (cond (not u && v) (b ∷ more) (34 ∷ (all_marked 92 quotes_special (b ∷ more) ++ 34 ∷ []))) ≡ Some (b ∷ more)
    by true h v e = absurd (true≢false h)
    by false h true e = plain_reads_back b more e
    by false h false e = quoted_reads_back (b ∷ more)

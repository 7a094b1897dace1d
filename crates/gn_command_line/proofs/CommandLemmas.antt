-- What words say that were read.
use Rattle.std.proofs.Common.{◌≡◌, ℕ, ◌<◌, ◌≤◌, ◌+◌, ◌-◌, Bool, true, false, not, cond, ◌||◌, if◌then◌else◌, List, [], ◌∷◌, ◌++◌, length, take, refl, sym, ◌∙◌, ap, subst, arith}
use Rattle.std.specs.Prelude.{Option, None, Some, option_map, option_and_then, nat_le, drop}
use Rattle.std.specs.List.{list_any, position_or_len, after_first}
use Rattle.std.proofs.Math.Seq.{take-length}
use Rattle.std.proofs.lemmas.List.{length-drop}
use Rattle.std.proofs.lemmas.Bool.{leb-true}
use Rattle.std.proofs.lemmas.Option.{same_Some}
use Rattle.gn_command_line.specs.Words.{Options, AreShort, max_arguments, with_threads, threads_of, with_arguments, with_switch, takes, switch_taken, switch_named, is_equals, name_said, value_said, is_switch, WordsRead, nothing_read, switch_read, word_read, words_read, Command, Line, line_of, form_of, command_named, line_named, line_said}
use Rattle.gn_command_line.specs.declared.words.CommandName.{CommandName}
use Rattle.gn_command_line.specs.declared.switches.Switch.{Switch}
use Rattle.gn_command_line.specs.declared.switches.Switch.TheVariants.{Threads, Arguments}

-- the build arguments of a line are short: those of its switches are, one after another

short_arguments : (text : List ℕ) (options found : Options) → with_arguments text options ≡ Some found → AreShort found.arguments
short_arguments text options found h = by (nat_le (length text) max_arguments) refl h
  where
    by : (b : Bool) → nat_le (length text) max_arguments ≡ b → (if b then Some (record options { arguments = Some text }) else None) ≡ Some found → AreShort found.arguments
    by true e h = subst (λ (o : Options). AreShort o.arguments) (same_Some (record options { arguments = Some text }) found h) (leb-true (length text) max_arguments e)
    by false e h = cc

short_threads : (threads : Option ℕ) (options found : Options) → AreShort options.arguments → with_threads threads options ≡ Some found → AreShort found.arguments
short_threads (Some n) options found short h = subst (λ (o : Options). AreShort o.arguments) (same_Some (record options { threads = Some n }) found h) short
short_threads None options found short h = cc

short_switch : (switch : Switch) (value : Option (List ℕ)) (options found : Options) → AreShort options.arguments → with_switch switch value options ≡ Some found → AreShort found.arguments
unfolding with_switch
short_switch Threads (Some text) options found short h = short_threads (threads_of text) options found short h
short_switch Arguments (Some text) options found short h = short_arguments text options found h
short_switch Threads None options found short h = cc
short_switch Arguments None options found short h = cc

short_taken : (command : CommandName) (switch : Option Switch) (value : Option (List ℕ)) (options found : Options) → AreShort options.arguments → switch_taken command switch value options ≡ Some found → AreShort found.arguments
short_taken command (Some switch) value options found short h = by (takes command switch) h
  where
    by : (b : Bool) → (if b then with_switch switch value options else None) ≡ Some found → AreShort found.arguments
    by true h = short_switch switch value options found short h
    by false h = cc
short_taken command None value options found short h = cc

short_read : (command : CommandName) (said : List ℕ) (read found : WordsRead) → AreShort read.options.arguments → switch_read command said read ≡ Some found → AreShort found.options.arguments
short_read command said read found short h = by (switch_taken command (switch_named (name_said said)) (value_said said) read.options) refl h
  where
    by : (x : Option Options) → switch_taken command (switch_named (name_said said)) (value_said said) read.options ≡ x → option_map (λ options. record read { options = options }) x ≡ Some found → AreShort found.options.arguments
    by (Some o) e h =
        subst (λ (r : WordsRead). AreShort r.options.arguments) (same_Some (record read { options = o }) found h)
        (short_taken command (switch_named (name_said said)) (value_said said) read.options o short e)
    by None e h = cc

short_word : (command : CommandName) (word : List ℕ) (read found : WordsRead) → AreShort read.options.arguments → word_read command word read ≡ Some found → AreShort found.options.arguments
short_word command word read found short h = by (is_switch word) h
  where
    by : (b : Bool) → (if b then switch_read command (drop 2 word) read else Some (record read { plain = read.plain ++ word ∷ [] })) ≡ Some found → AreShort found.options.arguments
    by true h = short_read command (drop 2 word) read found short h
    by false h = subst (λ (r : WordsRead). AreShort r.options.arguments) (same_Some (record read { plain = read.plain ++ word ∷ [] }) found h) short

short_words : (command : CommandName) (words : List (List ℕ)) (read found : WordsRead) → AreShort read.options.arguments → words_read command words read ≡ Some found → AreShort found.options.arguments
short_words command [] read found short h = subst (λ (r : WordsRead). AreShort r.options.arguments) (same_Some read found h) short
short_words command (w ∷ ws) read found short h = by (word_read command w read) refl (λ r kept g. short_words command ws r found kept g) h
  where
    by : (x : Option WordsRead) → word_read command w read ≡ x
        → ((r : WordsRead) → AreShort r.options.arguments → words_read command ws r ≡ Some found → AreShort found.options.arguments)
        → option_and_then (words_read command ws) x ≡ Some found → AreShort found.options.arguments
    by (Some r) e more h = more r (short_word command w read r short e) h
    by None e more h = cc

short_form : (form : Option Command) (options : Options) (line : Line) → AreShort options.arguments → option_map (λ (c : Command). record { command = c; options = options }) form ≡ Some line → AreShort line.options.arguments
short_form (Some form) options line short h = subst (λ (l : Line). AreShort l.options.arguments) (same_Some (record { command = form; options = options }) line h) short
short_form None options line short h = cc

short_named : (command : CommandName) (words : List (List ℕ)) (line : Line) → line_named (Some command) words ≡ Some line → AreShort line.options.arguments
short_named command words line h = by (words_read command words nothing_read) refl h
  where
    by : (r : Option WordsRead) → words_read command words nothing_read ≡ r → line_of command r ≡ Some line → AreShort line.options.arguments
    by (Some read) e h = short_form (form_of command read.plain) read.options line (short_words command words nothing_read read tt e) h
    by None e h = cc

pub line_short : (words : List (List ℕ)) (line : Line) → line_said words ≡ Some line → AreShort line.options.arguments
unfolding line_said
line_short [] line h = cc
line_short (word ∷ words) line h = by (command_named word) h
  where
    by : (c : Option CommandName) → line_named c words ≡ Some line → AreShort line.options.arguments
    by (Some command) h = short_named command words line h
    by None h = cc

-- whether something passes a test is told by the place of the first that does

pub any_before : (test : ℕ → Bool) (xs : List ℕ) → position_or_len test xs < length xs → list_any test xs ≡ true
any_before test [] within = absurd (omega (arith, within))
any_before test (x ∷ xs) within = by (test x) within (any_before test xs)
  where
    by : (b : Bool) → cond (not b) (1 + position_or_len test xs) 0 < length (x ∷ xs) → (position_or_len test xs < length xs → list_any test xs ≡ true) → (b || list_any test xs) ≡ true
    by true within more = refl
    by false within more = more (omega (arith, within))

pub any_nowhere : (test : ℕ → Bool) (xs : List ℕ) → position_or_len test xs ≡ length xs → list_any test xs ≡ false
any_nowhere test [] none = refl
any_nowhere test (x ∷ xs) none = by (test x) none (any_nowhere test xs)
  where
    by : (b : Bool) → cond (not b) (1 + position_or_len test xs) 0 ≡ length (x ∷ xs) → (position_or_len test xs ≡ length xs → list_any test xs ≡ false) → (b || list_any test xs) ≡ false
    by true none more = absurd (omega (arith, none))
    by false none more = more (omega (arith, none))

-- the value of a switch

switch_value : List ℕ → Bool → Option (List ℕ)
switch_value text b = if b then Some (after_first is_equals text) else None

pub no_value : (text : List ℕ) (len : ℕ) → len ≡ position_or_len is_equals text → len ≡ length text → None ≡ value_said text
unfolding switch_value
no_value text len is all = ap (switch_value text) (sym (any_nowhere is_equals text (sym is ∙ all)))

pub one_value : (text : List ℕ) (len : ℕ) → len ≡ position_or_len is_equals text → len ≤ length text → (len ≡ length text → ⊥) → Some (take (length text - (len + 1)) (drop (len + 1) text)) ≡ value_said text
unfolding switch_value
one_value text len is within differ =
    let less : len < length text = omega (arith, within, differ) in
    let before : position_or_len is_equals text < length text = subst (λ (n : ℕ). n < length text) is less in
    ap (λ (n : ℕ). Some (take n (drop (len + 1) text))) (sym (length-drop (len + 1) text)) ∙ ap (λ (ys : List ℕ). Some ys) (take-length (drop (len + 1) text))
    ∙ ap (λ (n : ℕ). Some (drop (n + 1) text)) is ∙ ap (switch_value text) (sym (any_before is_equals text before))

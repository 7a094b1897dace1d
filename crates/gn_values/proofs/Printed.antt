-- The texts of lists and scopes with one more item.
use Rattle.std.proofs.Common.{◌≡◌, ℕ, zero, suc, ◌+◌, ◌<◌, false, cond, ◌==◌, List, [], ◌∷◌, ◌++◌, length, get_or, take, map, codes, sym, ap, ◌∙◌, append_assoc, append-nil, arith}
use Rattle.std.proofs.lemmas.Bool.Decides.{nat_tests}
use Rattle.gn_values.specs.Val.{Val, vals_of, binds_of}
use Rattle.gn_values.specs.Text.{inner_text, items_text, further_text, entries_text}
use Rattle.gn_values.specs.View.{val_of, entry_of}
use Rattle.gn_values.specs.declared.value.Value.{Value}
use Rattle.gn_values.specs.declared.value.Entry.{Entry}
use Rattle.gn_basics.proofs.Lists.{took_more}

further_text-push : (vs : List Val) (v : Val) → further_text (vals_of (vs ++ v ∷ [])) ≡ further_text (vals_of vs) ++ (codes ", " ++ inner_text v)
unfolding inner_text items_text further_text entries_text
further_text-push [] v = simp append-nil
further_text-push (u ∷ vs) v = ap (λ t. codes ", " ++ inner_text u ++ t) (further_text-push vs v) ∙ simp append_assoc

items_text-first : (v : Val) → items_text (vals_of (v ∷ [])) ≡ inner_text v
unfolding inner_text items_text further_text entries_text
items_text-first v = append-nil (inner_text v)

items_text-push : (u : Val) (vs : List Val) (v : Val) → items_text (vals_of ((u ∷ vs) ++ v ∷ [])) ≡ items_text (vals_of (u ∷ vs)) ++ (codes ", " ++ inner_text v)
unfolding inner_text items_text further_text entries_text
items_text-push u vs v = ap (λ t. inner_text u ++ t) (further_text-push vs v) ∙ sym (append_assoc (inner_text u) (further_text (vals_of vs)) (codes ", " ++ inner_text v))

regrouped : (start items comma inner : List ℕ) → ((start ++ items) ++ comma) ++ inner ≡ start ++ (items ++ (comma ++ inner))
regrouped start items comma inner = simp append_assoc

line_regrouped : (start lines a b d e f : List ℕ) → (((((start ++ lines) ++ a) ++ b) ++ d) ++ e) ++ f ≡ start ++ (lines ++ ((((a ++ b) ++ d) ++ e) ++ f))
line_regrouped start lines a b d e f = simp append_assoc

not_first : (i : ℕ) → (suc i == 0) ≡ false
not_first i = grind (arith, nat_tests)

items_text-more : (xs : List Value) (i : ℕ) (x : Value) → i < length xs → x ≡ get_or xs i x → items_text (vals_of (take (i + 1) (map val_of xs))) ≡ items_text (vals_of (take i (map val_of xs))) ++ (cond (i == 0) [] (codes ", ") ++ inner_text (val_of x))
unfolding inner_text items_text further_text entries_text
items_text-more [] i x l e = absurd (omega arith)
items_text-more (y ∷ ys) zero x l e = items_text-first (val_of y) ∙ ap (λ z. inner_text (val_of z)) (sym e)
items_text-more (y ∷ ys) (suc i) x l e =
    ap (λ vs. items_text (vals_of vs)) (took_more val_of (y ∷ ys) (suc i) x l e) ∙ items_text-push (val_of y) (take i (map val_of ys)) (val_of x)
    ∙ ap (λ b. items_text (vals_of (take (suc i) (map val_of (y ∷ ys)))) ++ (cond b [] (codes ", ") ++ inner_text (val_of x))) (sym (not_first i))

pub no_items_text : (start : List ℕ) → start ≡ start ++ items_text (vals_of [])
unfolding inner_text items_text further_text entries_text
no_items_text start = sym (append-nil start)

pub no_entries_text : (start : List ℕ) → start ≡ start ++ entries_text (binds_of [])
unfolding inner_text items_text further_text entries_text
no_entries_text start = sym (append-nil start)

-- one more item
pub items_step : (xs : List Value) (i : ℕ) (x : Value) (start text middle new : List ℕ) → i < length xs → x ≡ get_or xs i x → text ≡ start ++ items_text (vals_of (take i (map val_of xs))) → middle ≡ text ++ cond (i == 0) [] (codes ", ") → new ≡ middle ++ inner_text (val_of x) → new ≡ start ++ items_text (vals_of (take (i + 1) (map val_of xs)))
items_step xs i x start text middle new l e h m n =
    n ∙ ap (λ t. t ++ inner_text (val_of x)) (m ∙ ap (λ t. t ++ cond (i == 0) [] (codes ", ")) h)
    ∙ regrouped start (items_text (vals_of (take i (map val_of xs)))) (cond (i == 0) [] (codes ", ")) (inner_text (val_of x))
    ∙ ap (λ t. start ++ t) (sym (items_text-more xs i x l e))

entries_text-push : (bs : List (List ℕ × Val)) (n : List ℕ) (v : Val) → entries_text (binds_of (bs ++ (n, v) ∷ [])) ≡ entries_text (binds_of bs) ++ (codes "  " ++ n ++ codes " = " ++ inner_text v ++ codes "\n")
unfolding inner_text items_text further_text entries_text
entries_text-push [] n v = append-nil (codes "  " ++ n ++ codes " = " ++ inner_text v ++ codes "\n")
entries_text-push (b ∷ bs) n v =
    ap (λ t. (codes "  " ++ b.0 ++ codes " = " ++ inner_text b.1 ++ codes "\n") ++ t) (entries_text-push bs n v)
    ∙ sym (append_assoc (codes "  " ++ b.0 ++ codes " = " ++ inner_text b.1 ++ codes "\n") (entries_text (binds_of bs)) (codes "  " ++ n ++ codes " = " ++ inner_text v ++ codes "\n"))

-- one more entry
pub entries_step : (xs : List Entry) (i : ℕ) (x : Entry) (start text t1 t2 t3 t4 new : List ℕ) → i < length xs → x ≡ get_or xs i x → text ≡ start ++ entries_text (binds_of (take i (map entry_of xs)))
    → t1 ≡ text ++ codes "  " → t2 ≡ t1 ++ x.name → t3 ≡ t2 ++ codes " = " → t4 ≡ t3 ++ inner_text (val_of x.value) → new ≡ t4 ++ codes "\n" → new ≡ start ++ entries_text (binds_of (take (i + 1) (map entry_of xs)))
entries_step xs i x start text t1 t2 t3 t4 new l e h h1 h2 h3 h4 h5 =
    h5 ∙ ap (λ t. t ++ codes "\n") (h4 ∙ ap (λ t. t ++ inner_text (val_of x.value)) (h3 ∙ ap (λ t. t ++ codes " = ") (h2 ∙ ap (λ t. t ++ x.name) (h1 ∙ ap (λ t. t ++ codes "  ") h))))
    ∙ line_regrouped start (entries_text (binds_of (take i (map entry_of xs)))) (codes "  ") x.name (codes " = ") (inner_text (val_of x.value)) (codes "\n")
    ∙ ap (λ t. start ++ t) (sym (ap (λ bs. entries_text (binds_of bs)) (took_more entry_of xs i x l e) ∙ entries_text-push (take i (map entry_of xs)) x.name (val_of x.value)))

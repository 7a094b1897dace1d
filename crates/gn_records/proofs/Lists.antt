-- Lists that are lent.
use Rattle.std.proofs.Common.{◌≡◌, ℕ, List, [], ◌∷◌, ◌++◌, ap, sym, ◌∙◌, append_assoc}
use Rattle.std.specs.List.{flat_map, filter}
use Rattle.std.proofs.lemmas.Grind.{flat_map-append}
use Rattle.std.specs.Borrow.{Bor}
use Rattle.std.proofs.lemmas.List.{append-nil}
use Rattle.gn_paths.specs.declared.texts.Texts.{Texts}
use Rattle.gn_rows.specs.declared.variable.Variable.{Variable}
use Rattle.gn_define.specs.declared.fields.Fields.{Fields}
use Rattle.gn_define.specs.Held.{Held}
use Rattle.gn_writing.specs.Rest.{is_missing, joined, rest}
use Rattle.gn_records.specs.Flags.{texts_at, all_texts}

-- one list, joined, is that list
pub joined_one : (texts : Bor Texts) → joined (texts ∷ []) ≡ texts.now
joined_one texts = append-nil texts.now

-- the done files of two lists that are none of five
joined_two : (a b : Bor Texts) → joined (a ∷ b ∷ []) ≡ a.now ++ b.now
joined_two a b = ap (λ (z : List (List ℕ)). a.now ++ z) (append-nil b.now)

joined_five : (a b c d e : Bor Texts) → joined (a ∷ b ∷ c ∷ d ∷ e ∷ []) ≡ a.now ++ (b.now ++ (c.now ++ (d.now ++ e.now)))
joined_five a b c d e = ap (λ (z : List (List ℕ)). a.now ++ (b.now ++ (c.now ++ (d.now ++ z)))) (append-nil e.now)

pub rest_of_two : (p q a b c d e : Bor Texts) → rest (p ∷ q ∷ []) (a ∷ b ∷ c ∷ d ∷ e ∷ []) ≡ filter (is_missing (a.now ++ (b.now ++ (c.now ++ (d.now ++ e.now))))) (p.now ++ q.now)
rest_of_two p q a b c d e =
    ap (λ (z : List (List ℕ)). filter (is_missing z) (joined (p ∷ q ∷ []))) (joined_five a b c d e)
    ∙ ap (λ (z : List (List ℕ)). filter (is_missing (a.now ++ (b.now ++ (c.now ++ (d.now ++ e.now))))) z) (joined_two p q)

-- what further lists have stands behind what the lists before them have
pub further_texts : (v : Variable) (own : List (Variable × Held)) (configs more : List Fields) → all_texts v own (configs ++ more) ≡ all_texts v own configs ++ flat_map (texts_at v) more
further_texts v own configs more =
    ap (λ (z : List (List ℕ)). texts_at v own ++ z) (flat_map-append (texts_at v) configs more)
    ∙ sym (append_assoc (texts_at v own) (flat_map (texts_at v) configs) (flat_map (texts_at v) more))

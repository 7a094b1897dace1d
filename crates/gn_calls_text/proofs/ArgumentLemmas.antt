-- Lists of strings.
use Rattle.std.proofs.Common.{◌≡◌, true, false, List, [], ◌∷◌, Some, None, map, option_map, refl, sym, ap, true≢false}
use Rattle.std.specs.List.{list_all}
use Rattle.gn_values.specs.View.{val_of}
use Rattle.gn_values.specs.declared.value.Value.{Value}
use Rattle.gn_values.specs.declared.value.Value.TheVariants.{Bool as VBool, Int, Str, List as VList, Scope}
use Rattle.gn_calls_text.specs.Answers.{texts_among}
use Rattle.gn_calls_text.specs.Views.{is_text, bytes_in}

pub all_texts : (xs : List Value) → list_all is_text xs ≡ true → texts_among (map val_of xs) ≡ Some (map bytes_in xs)
all_texts [] h = refl
all_texts (Str t ∷ xs) h = ap (option_map (λ ts. t ∷ ts)) (all_texts xs h)
all_texts (VBool b ∷ xs) h = absurd (true≢false (sym h))
all_texts (Int n ∷ xs) h = absurd (true≢false (sym h))
all_texts (VList vs ∷ xs) h = absurd (true≢false (sym h))
all_texts (Scope bs ∷ xs) h = absurd (true≢false (sym h))

pub not_all_texts : (xs : List Value) → list_all is_text xs ≡ false → texts_among (map val_of xs) ≡ None
not_all_texts [] h = absurd (true≢false h)
not_all_texts (Str t ∷ xs) h = ap (option_map (λ ts. t ∷ ts)) (not_all_texts xs h)
not_all_texts (VBool b ∷ xs) h = refl
not_all_texts (Int n ∷ xs) h = refl
not_all_texts (VList vs ∷ xs) h = refl
not_all_texts (Scope bs ∷ xs) h = refl

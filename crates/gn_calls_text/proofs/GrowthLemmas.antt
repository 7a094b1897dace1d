-- What is above the limits is refused, and what is within them is made.
use Rattle.std.proofs.Common.{◌≡◌, ℕ, ◌+◌, ◌≤◌, true, cond, ◌<◌, List, [], ◌∷◌, ◌++◌, length, map, take, drop, get_or, Option, None, Result, Ok, Err, OnOk, IfErr, refl, sym, ap, ◌∙◌, subst, arith, append_assoc}
use Rattle.std.proofs.lemmas.List.{append-nil, take-append-drop}
use Rattle.gn_values.specs.View.{val_of}
use Rattle.gn_values.specs.declared.value.Value.{Value}
use Rattle.gn_basics.proofs.Lists.{took_more}
use Rattle.gn_faults.specs.declared.code.Code.{Code}
use Rattle.gn_faults.specs.declared.code.Code.TheVariants.{TooLong}
use Rattle.gn_values.specs.Val.{Val, vstr, vlist, vals_of, list_depth}
use Rattle.gn_values.specs.Limits.{text_fits, list_fits, max_items}
use Rattle.gn_value_model.proofs.Within.{list_fits-list, text_over, first_fit, list_over}
use Rattle.gn_calls_text.specs.Answers.{gives, refuses, too_long, text_answer, list_answer}
use Rattle.gn_calls_text.specs.Views.{Settles, IsOver}
use Rattle.gn_calls_text.specs.declared.error.CallError.{CallError}
use Rattle.gn_calls_text.specs.declared.error.CallError.TheVariants.{Refused, Memory}

refused : (code : Code) (argument : Option ℕ) → code ≡ TooLong → argument ≡ None → too_long ≡ refuses code argument
refused code argument h g = λ i. refuses (sym h i) (sym g i)

pub text_refused : {T : Type 0} (view : T → Val) (e : CallError) (a b whole : List ℕ) → IsOver e (text_fits a) → whole ≡ a ++ b → Settles view (Err e) (text_answer whole)
text_refused view Memory a b whole h is = tt
text_refused view (Refused code argument) a b whole h is =
    ap text_answer is ∙ ap (λ f. cond f (gives (vstr (a ++ b))) too_long) (text_over a b h.1.1) ∙ refused code argument h.0 h.1.0

pub text_made : (t whole : List ℕ) → text_fits t ≡ true → whole ≡ t → text_answer whole ≡ gives (vstr t)
text_made t whole h is = ap text_answer is ∙ ap (λ f. cond f (gives (vstr t)) too_long) h

pub list_refused : {T : Type 0} (view : T → Val) (e : CallError) (a b whole : List Val) → IsOver e (list_fits a) → whole ≡ a ++ b → Settles view (Err e) (list_answer whole)
list_refused view Memory a b whole h is = tt
list_refused view (Refused code argument) a b whole h is =
    ap list_answer is ∙ ap (λ f. cond f (gives (vlist (vals_of (a ++ b)))) too_long) (list_over a b h.1.1) ∙ refused code argument h.0 h.1.0

pub list_made : (vs whole : List Val) → list_fits vs ≡ true → whole ≡ vs → list_answer whole ≡ gives (vlist (vals_of vs))
list_made vs whole h is = ap list_answer is ∙ ap (λ f. cond f (gives (vlist (vals_of vs))) too_long) h

-- a step of a loop that puts a part of what is still to come at the end
pub moved : {A : Type 0} (done done' part more to_come whole : List A) → done ++ to_come ≡ whole → to_come ≡ part ++ more → done' ≡ done ++ part → done' ++ more ≡ whole
moved done done' part more to_come whole inv cut grown =
    ap (λ d. d ++ more) grown ∙ append_assoc done part more ∙ ap (λ r. done ++ r) (sym cut) ∙ inv

-- the same where the part can't be put
pub not_moved : {A : Type 0} (done part more to_come whole : List A) → done ++ to_come ≡ whole → to_come ≡ part ++ more → whole ≡ (done ++ part) ++ more
not_moved done part more to_come whole inv cut = sym inv ∙ ap (λ r. done ++ r) cut ∙ sym (append_assoc done part more)

-- strings are within the limits where they are few enough
texts_depth : (ts : List (List ℕ)) → list_depth (map vstr ts) ≡ 1
texts_depth [] = refl
texts_depth (t ∷ ts) = let e = texts_depth ts in omega arith

length_texts : (ts : List (List ℕ)) → length (map vstr ts) ≡ length ts
length_texts [] = refl
length_texts (t ∷ ts) = omega (arith, length_texts ts)

pub texts_fit : (ts : List (List ℕ)) → length ts ≤ max_items → list_fits (map vstr ts) ≡ true
texts_fit ts h = list_fits-list (map vstr ts) (record { shallow = omega (arith, texts_depth ts); short = omega (arith, length_texts ts) })

-- the same of what a `?` returns
pub text_fails : {T : Type 0} (view : T → Val) (r : Result T CallError) (x e : CallError) (a b whole : List ℕ) → r ≡ Err x → x ≡ e → IsOver e (text_fits a) → whole ≡ a ++ b → Settles view r (text_answer whole)
text_fails view r x e a b whole is same h cut = subst (λ q. Settles view q (text_answer whole)) (sym (is ∙ ap Err same)) (text_refused view e a b whole h cut)

pub list_fails : {T : Type 0} (view : T → Val) (r : Result T CallError) (x e : CallError) (a b whole : List Val) → r ≡ Err x → x ≡ e → IsOver e (list_fits a) → whole ≡ a ++ b → Settles view r (list_answer whole)
list_fails view r x e a b whole is same h cut = subst (λ q. Settles view q (list_answer whole)) (sym (is ∙ ap Err same)) (list_refused view e a b whole h cut)

-- the end of a call that puts the last part
pub text_settled : (r : Result (Unit {0}) CallError) (new a whole : List ℕ) → OnOk r (new ≡ a) → OnOk r (text_fits new ≡ true) → IfErr r (λ e. IsOver e (text_fits a)) → whole ≡ a → Settles (λ u. vstr new) r (text_answer whole)
text_settled (Ok u) new a whole ok fits err is = text_made new whole fits (is ∙ sym ok)
text_settled (Err e) new a whole ok fits err is = text_refused {T = Unit {0}} (λ u. vstr new) e a [] whole err (is ∙ sym (append-nil a))

pub list_settled : (r : Result (Unit {0}) CallError) (new a whole : List Val) → OnOk r (new ≡ a) → OnOk r (list_fits new ≡ true) → IfErr r (λ e. IsOver e (list_fits a)) → whole ≡ a → Settles (λ u. vlist (vals_of new)) r (list_answer whole)
list_settled (Ok u) new a whole ok fits err is = list_made new whole fits (is ∙ sym ok)
list_settled (Err e) new a whole ok fits err is = list_refused {T = Unit {0}} (λ u. vlist (vals_of new)) e a [] whole err (is ∙ sym (append-nil a))

-- one more copy of a value
pub copied : (xs : List Value) (i : ℕ) (x : Value) (y : Val) (items : List Val) → i < length xs → x ≡ get_or xs i x → y ≡ val_of x → items ≡ take i (map val_of xs) → items ++ y ∷ [] ≡ take (i + 1) (map val_of xs)
copied xs i x y items h is same made = (λ j. made j ++ same j ∷ []) ∙ sym (took_more val_of xs i x h is)

pub copy_room : (xs : List Value) (i : ℕ) (x : Value) (y : Val) (items : List Val) → i < length xs → x ≡ get_or xs i x → y ≡ val_of x → items ≡ take i (map val_of xs) → list_fits (map val_of xs) ≡ true → list_fits (items ++ y ∷ []) ≡ true
copy_room xs i x y items h is same made fits =
    ap list_fits (copied xs i x y items h is same made)
    ∙ first_fit (take (i + 1) (map val_of xs)) (drop (i + 1) (map val_of xs)) (ap list_fits (take-append-drop (i + 1) (map val_of xs)) ∙ fits)

-- What was set and is put back is as it was.
use Rattle.std.proofs.Common.{◌≡◌, List, [], ◌∷◌, ◌++◌, Bool, true, false, cond, Option, Some, None, refl, sym, ap, ◌∙◌}
use Rattle.std.specs.declared.cmp.Ordering.{Ordering}
use Rattle.std.specs.Cmp.{IsTotalOrder}
use Rattle.std.specs.Map.{lookup, set_value, keys_of}
use Rattle.std.specs.BTreeMap.{is_at, insert_entry}
use Rattle.std.specs.List.Sorted.{IsStrictlySortedBy}
use Rattle.std.proofs.lemmas.Map.Steps.{set_value_same}
use Rattle.gn_basics.proofs.Tables.{new_gone}
use Rattle.gn_layers.specs.Undoing.{put_back, all_put_back}
use Rattle.gn_layers.proofs.Tables.{set_value-is_insert_entry}

-- a value is written nowhere where there is none
pub set_value_nowhere : {K A : Type 0} (test : K → Bool) (es : List (K × A)) (w : A) → lookup test es ≡ None → set_value test es w ≡ es
set_value_nowhere test [] w h = refl
set_value_nowhere {K} {A} test (e ∷ es) w h =
    elim (test e.0) as (λ b. cond b (Some e.1) (lookup test es) ≡ None → cond b ((e.0, w) ∷ es) (e ∷ set_value test es w) ≡ e ∷ es) [ true ↦ λ g. cc | false ↦ λ g. ap (λ (ys : List (K × A)). e ∷ ys) (set_value_nowhere test es w g) ] h

-- of two values that are written in turn the latter stays
written_twice : {K A : Type 0} (test : K → Bool) (es : List (K × A)) (v w : A) → set_value test (set_value test es v) w ≡ set_value test es w
written_twice test [] v w = refl
written_twice {K} {A} test (e ∷ es) v w =
    elim (test e.0) as (λ b. (b ≡ test e.0) → set_value test (cond b ((e.0, v) ∷ es) (e ∷ set_value test es v)) w ≡ cond b ((e.0, w) ∷ es) (e ∷ set_value test es w)) [
      | true ↦ λ is. ap (λ b. cond b ((e.0, w) ∷ es) ((e.0, v) ∷ set_value test es w)) (sym is)
      | false ↦ λ is. ap (λ b. cond b ((e.0, w) ∷ set_value test es v) (e ∷ set_value test (set_value test es v) w)) (sym is) ∙ ap (λ (ys : List (K × A)). e ∷ ys) (written_twice test es v w)
    ] refl

pub all_put_back-push : {K A : Type 0} (cmp : K → K → Ordering) (bs : List (K × Option A)) (b : K × Option A) (es : List (K × A)) → all_put_back cmp (bs ++ b ∷ []) es ≡ all_put_back cmp bs (put_back cmp b.0 b.1 es)
all_put_back-push cmp [] b es = refl
all_put_back-push cmp (d ∷ bs) b es = ap (put_back cmp d.0 d.1) (all_put_back-push cmp bs b es)

-- one more key that is put back, the last of those that are left
pub one_less_back : {K A : Type 0} (cmp : K → K → Ordering) (all rest : List (K × Option A)) (b : K × Option A) (es after whole : List (K × A)) → all ≡ rest ++ b ∷ [] → after ≡ put_back cmp b.0 b.1 es → all_put_back cmp all es ≡ whole → all_put_back cmp rest after ≡ whole
one_less_back cmp all rest b es after whole last put h =
    ap (all_put_back cmp rest) put ∙ sym (all_put_back-push cmp rest b es) ∙ ap (λ bs. all_put_back cmp bs es) (sym last) ∙ h

-- what a key had before it was set, put back
module _ {K A : Type 0} {cmp : K → K → Ordering} (total : IsTotalOrder cmp) where
  pub put_back-set : (k : K) (a : A) (es : List (K × A)) → IsStrictlySortedBy cmp (keys_of es) → (before : Option A) → before ≡ lookup (is_at (cmp k)) es → put_back cmp k before (insert_entry cmp es k a) ≡ es
  put_back-set k a es s None h = new_gone total k a es (sym h)
  put_back-set k a es s (Some b) h =
      let test : K → Bool = is_at (cmp k) in
      ap (λ ys. set_value test ys b) (sym (set_value-is_insert_entry total k b a es s (sym h))) ∙ written_twice test es a b ∙ set_value_same test es b (sym h)

  -- one more key that is set, by a copy of it, with what it had behind those before
  pub one_more_back : (bs : List (K × Option A)) (k j : K) (a : A) (es : List (K × A)) (before : Option A) → IsStrictlySortedBy cmp (keys_of es) → j ≡ k → before ≡ lookup (is_at (cmp j)) es → all_put_back cmp (bs ++ (k, before) ∷ []) (insert_entry cmp es k a) ≡ all_put_back cmp bs es
  one_more_back bs k j a es before s same h =
      all_put_back-push cmp bs (k, before) (insert_entry cmp es k a) ∙ ap (all_put_back cmp bs) (put_back-set k a es s before (h ∙ ap (λ x. lookup (is_at (cmp x)) es) same))

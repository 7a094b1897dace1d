-- The test of equality says whether values are equal.
use Rattle.std.proofs.Common.{◌≡◌, Bool, true, false, ◌&&◌, not, cond, refl, sym, ap, ◌∙◌, Decides}
use Rattle.std.specs.Cmp.{signed_Decides}
use Rattle.std.proofs.lemmas.Bool.{false≢true, and_parts, and_from}
use Rattle.std.proofs.lemmas.Bool.Decides.{same_from_decides}
use Rattle.std.proofs.lemmas.Slice.Eq.{bytes_eq-Decides}
use Rattle.gn_value_model.specs.Val.{Val, vbool, vint, vstr, vlist, vscope, Vals, no_vals, val_then, Binds, no_binds, bind_then}
use Rattle.gn_value_model.specs.Equal.{equals, all_equal, entries_equal}

bools_equal : (a b : Bool) → cond a b (not b) ≡ true → a ≡ b
bools_equal true b h = sym h
bools_equal false true h = absurd (false≢true h)
bools_equal false false h = refl

bool_itself : (a : Bool) → cond a a (not a) ≡ true
bool_itself true = refl
bool_itself false = refl

mutual
  pub equal_from_test : (v w : Val) → equals v w ≡ true → v ≡ w
  equal_from_test (vbool a) (vbool b) h = ap vbool (bools_equal a b h)
  equal_from_test (vint a) (vint b) h = ap vint ((signed_Decides a b).0 h)
  equal_from_test (vstr s) (vstr t) h = ap vstr ((bytes_eq-Decides s t).0 h)
  equal_from_test (vlist vs) (vlist ws) h = ap vlist (items_from_test vs ws h)
  equal_from_test (vscope bs) (vscope cs) h = ap vscope (entries_from_test bs cs h)
  equal_from_test _ _ h = absurd (false≢true h)

  items_from_test : (vs ws : Vals) → all_equal vs ws ≡ true → vs ≡ ws
  items_from_test no_vals no_vals h = refl
  items_from_test (val_then v vs) (val_then w ws) h =
      let a = equal_from_test v w (and_parts (equals v w) (all_equal vs ws) h).0 in
      let b = items_from_test vs ws (and_parts (equals v w) (all_equal vs ws) h).1 in
      λ i. val_then (a i) (b i)
  items_from_test _ _ h = absurd (false≢true h)

  entries_from_test : (bs cs : Binds) → entries_equal bs cs ≡ true → bs ≡ cs
  entries_from_test no_binds no_binds h = refl
  entries_from_test (bind_then m v bs) (bind_then n w cs) h =
      let g = and_parts _ (equals v w && entries_equal bs cs) h in
      let k = and_parts (equals v w) (entries_equal bs cs) g.1 in
      let a = (bytes_eq-Decides m n).0 g.0 in
      let b = equal_from_test v w k.0 in
      let d = entries_from_test bs cs k.1 in
      λ i. bind_then (a i) (b i) (d i)
  entries_from_test _ _ h = absurd (false≢true h)

mutual
  pub equals-itself : (v : Val) → equals v v ≡ true
  equals-itself (vbool a) = bool_itself a
  equals-itself (vint a) = (signed_Decides a a).1 refl
  equals-itself (vstr s) = (bytes_eq-Decides s s).1 refl
  equals-itself (vlist vs) = all_equal-itself vs
  equals-itself (vscope bs) = entries_equal-itself bs

  all_equal-itself : (vs : Vals) → all_equal vs vs ≡ true
  all_equal-itself no_vals = refl
  all_equal-itself (val_then v vs) = and_from (equals v v) (all_equal vs vs) (equals-itself v) (all_equal-itself vs)

  entries_equal-itself : (bs : Binds) → entries_equal bs bs ≡ true
  entries_equal-itself no_binds = refl
  entries_equal-itself (bind_then n v bs) =
      and_from _ (equals v v && entries_equal bs bs) ((bytes_eq-Decides n n).1 refl) (and_from (equals v v) (entries_equal bs bs) (equals-itself v) (entries_equal-itself bs))

pub equals-Decides : (v w : Val) → Decides (equals v w) (v ≡ w)
equals-Decides v w = (equal_from_test v w, λ e. ap (equals v) (sym e) ∙ equals-itself v)

-- an answer that is true exactly where the values are equal is that of the test
pub test_from_answer : (v w : Val) (r : Bool) → Decides r (v ≡ w) → r ≡ equals v w
test_from_answer v w r h = same_from_decides r (equals v w) h (equals-Decides v w)

use Rattle.std.proofs.Common.{◌≡◌, ℕ, List, Option, Some, None, Bool, true, false, cond, ◌||◌, ap, sym, ◌∙◌, refl, arith, nat_cmp, nat_eq, is_eq}
use Rattle.std.specs.BTreeMap.{get}
use Rattle.std.proofs.lemmas.Bool.Decides.{nat_tests}
use Rattle.gn_chains.specs.Numbers.{among}
use Rattle.gn_chains.specs.Counts.{numbers}
use Rattle.gn_chains.proofs.Among.{among-push}
use Rattle.gn_chains.proofs.Tallies.{numbers_more}
use Rattle.gn_chains.proofs.counts.zeros.Goals as goal

either : (a b : Bool) (z : Option ℕ) → cond b z (cond a z None) ≡ cond (a || b) z None
either true true z = refl
either true false z = refl
either false true z = refl
either false false z = refl

eq_test : (d q : ℕ) → is_eq (nat_cmp d q) ≡ nat_eq q d
eq_test d q = grind (arith, nat_tests)

pub loop-number-preserved : goal.loop-number-preserved
loop-number-preserved c = λ q.
    let i = c.loop-number.number in
    c.in_ok-insert.ensures.updates.0 q
    ∙ ap (λ (b : Bool). cond {A = Option ℕ} b (Some 0) (get nat_cmp c.loop-number.counts q)) (eq_test i q)
    ∙ ap (λ (o : Option ℕ). cond {A = Option ℕ} (nat_eq q i) (Some 0) o) (c.loop-number.invariant q)
    ∙ either (among (numbers i) q) (nat_eq q i) (Some 0)
    ∙ ap (λ (b : Bool). cond {A = Option ℕ} b (Some 0) None) (sym (ap (λ (xs : List ℕ). among xs q) (numbers_more i) ∙ among-push (numbers i) i q))

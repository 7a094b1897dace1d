use Rattle.std.proofs.Common.{◌≡◌, ◌<◌, ℕ, Option, IfSome, take, get_or, nat_cmp, true, false, ap, sym, subst, ◌∙◌, arith, nat_eq, eqb-true}
use Rattle.std.proofs.lemmas.List.{take_all}
use Rattle.std.specs.BTreeMap.{get}
use Rattle.gn_chains.specs.Numbers.{among}
use Rattle.gn_chains.specs.Counts.{lessened}
use Rattle.gn_chains.proofs.Among.{among-take_more, before_apart, among_at}
use Rattle.gn_chains.proofs.Tallies.{lessened-lessened, lessened_false}
use Rattle.gn_chains.proofs.counts.lessen.Goals as goal

pub loop-number-init : goal.loop-number-init
loop-number-init c = λ q. sym (lessened_false (get nat_cmp c.args.counts.now q))

pub lessen_one-requires : goal.lessen_one-requires
lessen_one-requires c =
    let list = c.args.list.now in
    let i = c.loop-number.number-index in
    let d = get_or list i 0 in
    let o : Option ℕ = get nat_cmp c.args.counts.now d in
    let same : get nat_cmp c.loop-number.counts d ≡ o
    = c.loop-number.invariant d ∙ ap (λ b. lessened b o) (before_apart list i c.requires.once (omega arith) i (omega arith)) ∙ lessened_false o in
    subst (λ (z : Option ℕ). IfSome z (λ n. 0 < n)) (sym same) (c.requires.some d (among_at list i (omega arith)))

pub loop-number-preserved : goal.loop-number-preserved
loop-number-preserved c = λ q.
    let list = c.args.list.now in
    let i = c.loop-number.number-index in
    let d = get_or list i 0 in
    let o : Option ℕ = get nat_cmp c.args.counts.now q in
    let apart : nat_eq q d ≡ true → among (take i list) q ≡ false
    = λ e. ap (among (take i list)) (eqb-true q d e) ∙ before_apart list i c.requires.once (omega arith) i (omega arith) in
    c.lessen_one.ensures q ∙ ap (lessened (nat_eq q d)) (c.loop-number.invariant q) ∙ lessened-lessened (among (take i list) q) (nat_eq q d) o apart
    ∙ ap (λ b. lessened b o) (sym (among-take_more list i q (omega arith)))

pub returns : goal.returns
returns c = λ q. c.loop-number.invariant q ∙ ap (λ z. lessened (among z q) (get nat_cmp c.args.counts.now q)) (take_all c.loop-number.number-index c.args.list.now (omega arith))

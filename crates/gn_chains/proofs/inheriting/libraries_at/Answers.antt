use Rattle.std.proofs.Common.{◌≡◌, ℕ, ◌+◌, ◌<◌, Some, slice_get, List, [], ◌∷◌, ◌++◌, Bool, true, false, cond, length, take, get_or, map, filter, slice_index_or, ap, sym, ◌∙◌, refl, arith}
use Rattle.std.proofs.lemmas.List.{take_all, take_more, map-append}
use Rattle.std.proofs.lemmas.List.Elements.{filter-append}
use Rattle.gn_labels.specs.declared.label.Label.{Label}
use Rattle.gn_dependencies.specs.Inherited.{is_library}
use Rattle.std.proofs.lemmas.Option.{slice_get-get_or}
use Rattle.gn_chains.proofs.Among.{among_at}
use Rattle.gn_chains.specs.Reached.{Facts, facts_of, shown}
use Rattle.gn_chains.proofs.Reaching.{known_at}
use Rattle.gn_chains.proofs.inheriting.libraries_at.Goals as goal
use Rattle.gn_chains.proofs.inheriting.libraries_at.Goals.{then-is_library+in_ok-push_copy, else-is_library}

one_more : (p : Label → Bool) (f : ℕ → Label) (order : List ℕ) (i : ℕ) → i < length order → filter p (map f (take (i + 1) order)) ≡ filter p (map f (take i order)) ++ filter p (f (get_or order i 0) ∷ [])
one_more p f order i l =
    ap (λ (z : List ℕ). filter p (map f z)) (take_more order i 0 l) ∙ ap (filter p) (map-append f (take i order) (get_or order i 0 ∷ []))
    ∙ filter-append p (map f (take i order)) (f (get_or order i 0) ∷ [])

is_kept : (p : Label → Bool) (x : Label) → p x ≡ true → filter p (x ∷ []) ≡ x ∷ []
is_kept p x h = ap (λ b. cond b (x ∷ []) []) h

not_kept : (p : Label → Bool) (x : Label) → p x ≡ false → filter p (x ∷ []) ≡ []
not_kept p x h = ap (λ b. cond b (x ∷ []) []) h

append_none : (xs : List Label) → xs ++ [] ≡ xs
append_none [] = refl
append_none (x ∷ xs) = ap (λ (z : List Label). x ∷ z) (append_none xs)

pub node_at-node-requires : goal.node_at-node-requires
node_at-node-requires c =
    let l : get_or c.args.order.now c.loop-number.number-index 0 < length c.args.walked.now
    = c.requires.below (get_or c.args.order.now c.loop-number.number-index 0) (among_at c.args.order.now c.loop-number.number-index (omega arith)) in
    omega (arith, l, c.requires.sized)

pub label_at-requires : goal.label_at-requires
label_at-requires c = c.requires.below (get_or c.args.order.now c.loop-number.number-index 0) (among_at c.args.order.now c.loop-number.number-index (omega arith))

pub loop-number-init : goal.loop-number-init
loop-number-init c = λ g h d. c.in_ok-labels.ensures.items

pub loop-number-preserved : goal.loop-number-preserved
loop-number-preserved c = λ g h d.
    let kind = g.kind in
    let p : Label → Bool = λ q. is_library (kind q) in
    let order = c.args.order.now in
    let i = c.loop-number.number-index in
    let ws = c.args.walked.now in
    let n : ℕ = get_or order i 0 in
    let f : ℕ → Label = λ n. slice_index_or ws n d in
    let x : Label = f n in
    let old : List Label = filter p (map f (take i order)) in
    let node = c.node_at-node.result in
    let here : slice_get ws n ≡ Some x = slice_get-get_or ws n d (c.requires.below n (among_at order i (omega arith))) in
    let known : shown node ≡ facts_of g x = known_at g ws c.args.nodes.now n x node h here c.node_at-node.ensures in
    let test : c.is_library.result ≡ p x = c.is_library.ensures ∙ ap (λ (z : Facts). is_library z.kind) known in
    elim c.if-is_library.branch [
      | then-is_library+in_ok-push_copy w ↦
          ap (λ v. v.items) w.labels-is ∙ w.in_ok-push_copy.ensures ∙ ap (λ (z : List Label). z ++ w.label_at.result.now ∷ []) (c.loop-number.invariant g h d) ∙ ap (λ y. old ++ y ∷ []) (w.label_at.ensures d)
          ∙ ap (λ (z : List Label). old ++ z) (sym (is_kept p x (sym test ∙ w.if-is_library.true))) ∙ sym (one_more p f order i (omega arith))
      | else-is_library w ↦
          ap (λ v. v.items) w.labels-is ∙ c.loop-number.invariant g h d ∙ sym (append_none old)
          ∙ ap (λ (z : List Label). old ++ z) (sym (not_kept p x (sym test ∙ w.if-is_library.false))) ∙ sym (one_more p f order i (omega arith))
    ]

pub returns : goal.returns
returns c = λ g h d.
    c.loop-number.invariant g h d ∙ ap (λ (z : List ℕ). filter (λ q. is_library (g.kind q)) (map (λ n. slice_index_or c.args.walked.now n d) z)) (take_all c.loop-number.number-index c.args.order.now (omega arith))

use Rattle.std.proofs.Common.{◌≡◌, ℕ, List, ◌∷◌, [], ◌++◌, Bor, Some, cond, sym, subst, ◌∙◌, ap}
use Rattle.std.proofs.lemmas.List.{map-append}
use Rattle.indexmap.specs.IndexMap.{get_by}
use Rattle.gn_labels.specs.contracts.label.LabelPartialEq.TheImpl.{eq-value}
use Rattle.gn_items.specs.declared.item.Item.{Item}
use Rattle.gn_labelled.specs.Index.{lent, is_label, IsIndex}
use Rattle.gn_labelled.proofs.Indexing.{again_one, first_one}
use Rattle.gn_labelled.proofs.index.put.Goals as goal

pub returns-in_ok-push-clause-ok : goal.returns-in_ok-push-clause-ok
returns-in_ok-push-clause-ok c items at h =
    let pushed : lent c.push.new.self.items ≡ lent c.args.repeated.now.items ++ c.args.item.now ∷ [] = ap lent c.in_ok-push.ensures.items ∙ map-append (λ (item : Bor Item). item.now) c.args.repeated.now.items (c.args.item ∷ []) in
    subst (λ (rest : List Item). IsIndex (items ++ c.args.item.now ∷ []) c.args.firsts.now rest) (sym pushed)
    (again_one items c.args.item.now c.args.firsts.now (lent c.args.repeated.now.items) (sym c.contains_key.ensures ∙ c.if-contains_key.true) h)

pub returns-in_ok-insert-clause-ok : goal.returns-in_ok-insert-clause-ok
returns-in_ok-insert-clause-ok c items at h =
    first_one items c.args.item.now c.args.firsts.now c.insert.new.self (lent c.args.repeated.now.items) (sym c.contains_key.ensures ∙ c.if-contains_key.false)
    (λ q. c.in_ok-insert.ensures.updates.0 (record { ref_ptr = (0, 0); now = q })
    ∙ ap (λ (n : ℕ). cond (eq-value.it c.args.item.now.label q) (Some n) (get_by (is_label q) c.args.firsts.now)) at) h

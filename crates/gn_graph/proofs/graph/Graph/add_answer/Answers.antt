use Rattle.std.proofs.Common.{◌≡◌, ◌∷◌, ◌++◌, [], List, None, map, option_copied, sym, ap, subst, ◌∙◌}
use Rattle.std.proofs.lemmas.List.{map-append}
use Rattle.gn_closure.specs.Closure.{Horn}
use Rattle.gn_closure.specs.Reach.{Setup}
use Rattle.gn_closure.specs.Ground.{Step}
use Rattle.gn_graph.specs.declared.graph.Answered.{Answered}
use Rattle.gn_graph.specs.Graphs.{Answers, reply_of, told_by}
use Rattle.gn_graph.specs.Numbers.{IsWhole}
use Rattle.gn_graph.specs.Replies.{Reply, units_in, AreSingle, default_in, named, after, all_rules, more_rules}
use Rattle.gn_graph.proofs.Answers.{single_more, default_more, rules_more, early_more, after_none}
use Rattle.gn_graph.proofs.graph.Graph.add_answer.Goals as goal

pub invariant_of-self-2 : goal.invariant_of-self-2
invariant_of-self-2 c =
    let a : Answered = record { unit = c.args.unit; needs = c.args.needs } in
    let r : Reply = reply_of a in
    let rs : List Reply = map told_by c.self.inside.told.items in
    let es : List Reply = map reply_of c.self.inside.early.items in
    let fresh : units_in rs r.unit ≡ None = subst (λ (z : Answers). units_in z.replies r.unit ≡ None) (sym c.self.view_is) c.requires in
    let now : map told_by c.take.new.told.items ≡ rs ++ r ∷ [] = c.in_ok-default.ensures.told in
    let before : option_copied c.as_ref.result ≡ default_in (units_in rs (Setup [])) = c.as_ref.ensures.value ∙ c.self.invariant.default in
    let same : more_rules (option_copied c.as_ref.result) (named r) es r ≡ more_rules (option_copied c.as_ref.result) (named r) rs r
    = early_more (option_copied c.as_ref.result) (named r) es rs r (λ e. c.self.invariant.early (sym c.as_ref.ensures.value ∙ e)) in
    let more : all_rules rs ++ more_rules (option_copied c.as_ref.result) (named r) es r ≡ all_rules (rs ++ r ∷ [])
    = ap (λ (z : List (Horn Step)). all_rules rs ++ z) same ∙ (λ i. all_rules rs ++ more_rules (before i) (named r) rs r) ∙ rules_more rs r fresh in
    let whole : IsWhole (all_rules (rs ++ r ∷ [])) c.take.new.closure
    = subst (λ (z : List (Horn Step)). IsWhole z c.take.new.closure) more (c.in_ok-default.ensures.added.whole (all_rules rs) c.self.invariant.whole) in
    let default : c.set_default.new.default ≡ default_in (units_in (rs ++ r ∷ []) (Setup []))
    = c.set_default.ensures ∙ (λ i. after (c.self.invariant.default i) (c.in_ok-default.ensures.named i)) ∙ sym (default_more rs r fresh) in
    let kept : c.self.inside.default ≡ None → map reply_of c.take.new.early.items ≡ rs ++ r ∷ []
    = λ none. ap (map reply_of) (c.in_ok-default.ensures.early (c.as_ref.ensures.value ∙ none)) ∙ map-append reply_of c.self.inside.early.items (a ∷ [])
    ∙ ap (λ (z : List Reply). z ++ r ∷ []) (c.self.invariant.early none) in
    record {
      whole = subst (λ (z : List Reply). IsWhole (all_rules z) c.take.new.closure) (sym now) whole;
      default = default ∙ ap (λ (z : List Reply). default_in (units_in z (Setup []))) (sym now);
      early = λ none. kept (after_none c.self.inside.default c.in_ok-default.default (sym c.set_default.ensures ∙ none)) ∙ sym now;
      single = subst AreSingle (sym now) (single_more rs r c.self.invariant.single fresh);
      counts = c.counted-self-inside.ensures.counts;
      all = c.counted-self-inside.ensures.all;
    }

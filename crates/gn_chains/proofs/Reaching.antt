-- The labels that a walk for libraries meets, with what the graph has of each.
use Rattle.std.proofs.Common.{◌≡◌, ℕ, List, [], ◌∷◌, ◌++◌, Bool, true, false, cond, filter, map, length, Option, Some, option_map, slice_get, refl, sym, ◌∙◌, ap, append-nil}
use Rattle.std.proofs.lemmas.List.{map-append, length-map}
use Rattle.std.proofs.lemmas.Option.{slice_get-map}
use Rattle.gn_labels.specs.declared.label.Label.{Label}
use Rattle.gn_rows.specs.declared.kinds.ItemKind.{ItemKind}
use Rattle.gn_dependencies.specs.Lists.{has, added}
use Rattle.gn_dependencies.specs.Shape.{Shape}
use Rattle.gn_dependencies.specs.Inherited.{walks}
use Rattle.gn_dependencies.proofs.Joins.{filter_more, filter_less, filtered_two}
use Rattle.gn_dependencies.proofs.At.{one_there}
use Rattle.gn_chains.specs.declared.graph.Node.{Node}
use Rattle.gn_chains.specs.declared.reached.Reached.{Reached}
use Rattle.gn_chains.specs.Reached.{Facts, facts_of, shown, AreNodes, IsNext, IsMore}

pub same_facts : (a b : Option ItemKind) (c d e f : List Label) → a ≡ b → c ≡ d → e ≡ f
    → (let x : Facts = record { kind = a; public = c; private = e } in let y : Facts = record { kind = b; public = d; private = f } in x ≡ y)
same_facts a b c d e f p q r = λ i. record { kind = p i; public = q i; private = r i }

pub as_many : (g : Shape) (labels : List Label) (nodes : List Node) → AreNodes g labels nodes → length nodes ≡ length labels
as_many g labels nodes h = sym (length-map nodes shown) ∙ ap length h ∙ length-map labels (facts_of g)

-- what is known of the label of a number is what the graph has of it
pub known_at : (g : Shape) (labels : List Label) (nodes : List Node) (n : ℕ) (z : Label) (node : Node) → AreNodes g labels nodes → slice_get labels n ≡ Some z → slice_get nodes n ≡ Some node
    → shown node ≡ facts_of g z
known_at g labels nodes n z node h a b =
    one_there (shown node) (facts_of g z)
    (sym (ap (option_map shown) b) ∙ sym (slice_get-map shown nodes n) ∙ ap (λ (m : List Facts). slice_get m n) h ∙ slice_get-map (facts_of g) labels n ∙ ap (option_map (facts_of g)) a)

pub one_node : (g : Shape) (labels : List Label) (nodes : List Node) (x : Label) (node : Node) → shown node ≡ facts_of g x → AreNodes g labels nodes → AreNodes g (labels ++ x ∷ []) (nodes ++ node ∷ [])
one_node g labels nodes x node e h =
    map-append shown nodes (node ∷ []) ∙ ap (λ (z : List Facts). z ++ shown node ∷ []) h ∙ ap (λ z. map (facts_of g) labels ++ z ∷ []) e ∙ sym (map-append (facts_of g) labels (x ∷ []))

nothing_more : (out : List Label) → added out [] ≡ out
nothing_more out = append-nil out

-- a label that is there, one that isn't met, and one that stands behind the others
pub met_before : (p : Label → Bool) (out : List Label) (x : Label) → has out x ≡ true → out ≡ added out (filter p (x ∷ []))
met_before p out x h = by (p x) refl
  where
    by : (b : Bool) → p x ≡ b → out ≡ added out (filter p (x ∷ []))
    by true e = sym (filter_more p out x [] e ∙ ap (λ b. added (cond b out (out ++ x ∷ [])) []) h ∙ nothing_more out)
    by false e = sym (filter_less p out x [] e ∙ nothing_more out)

pub not_met : (p : Label → Bool) (out : List Label) (x : Label) → p x ≡ false → out ≡ added out (filter p (x ∷ []))
not_met p out x e = sym (filter_less p out x [] e ∙ nothing_more out)

pub met_now : (p : Label → Bool) (out new : List Label) (x : Label) → p x ≡ true → has out x ≡ false → new ≡ out ++ x ∷ [] → new ≡ added out (filter p (x ∷ []))
met_now p out new x e h n = n ∙ sym (filter_more p out x [] e ∙ ap (λ b. added (cond b out (out ++ x ∷ [])) []) h ∙ nothing_more (out ++ x ∷ []))

-- none more, and some behind others
pub none_more : (g : Shape) (r : Reached) → IsMore g [] r r
none_more g r = record { labels = sym (nothing_more r.labels); nodes = λ h. h }

pub more_behind : (g : Shape) (xs ys : List Label) (a b c : Reached) → IsMore g xs a b → IsMore g ys b c → IsMore g (xs ++ ys) a c
more_behind g xs ys a b c m n = record {
  labels = filtered_two (λ d. walks (g.kind d)) a.labels b.labels c.labels xs ys m.labels n.labels;
  nodes = λ h. n.nodes (m.nodes h);
}

-- a label that stands behind the others
pub next_one : (g : Shape) (x : Label) (old new : Reached) (node : Node) → has old.labels x ≡ false → new.labels ≡ cond (has old.labels x) old.labels (old.labels ++ x ∷ [])
    → new.nodes.items ≡ old.nodes.items ++ node ∷ [] → shown node ≡ facts_of g x → IsNext g x old new
next_one g x old new node h a b e = record {
  labels = labels;
  nodes = λ k. ap (λ (z : List Node). map shown z) b ∙ one_node g old.labels old.nodes.items x node e k ∙ sym (ap (λ (z : List Label). map (facts_of g) z) labels);
}
  where
    labels : new.labels ≡ old.labels ++ x ∷ []
    labels = a ∙ ap (λ b. cond b old.labels (old.labels ++ x ∷ [])) h

pub more_there : (g : Shape) (x : Label) (r : Reached) → has r.labels x ≡ true → IsMore g (x ∷ []) r r
more_there g x r h = record { labels = met_before (λ d. walks (g.kind d)) r.labels x h; nodes = λ k. k }

pub more_not : (g : Shape) (x : Label) (r : Reached) → walks (g.kind x) ≡ false → IsMore g (x ∷ []) r r
more_not g x r h = record { labels = not_met (λ d. walks (g.kind d)) r.labels x h; nodes = λ k. k }

pub more_next : (g : Shape) (x : Label) (old new : Reached) → walks (g.kind x) ≡ true → has old.labels x ≡ false → IsNext g x old new → IsMore g (x ∷ []) old new
more_next g x old new w h n = record { labels = met_now (λ d. walks (g.kind d)) old.labels new.labels x w h n.labels; nodes = n.nodes }

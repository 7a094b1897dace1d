-- The labels that a walk for libraries has met, with what the graph has of each.
use Rattle.std.specs.Prelude.{◌≡◌, List, [], ◌∷◌, ◌++◌, Option, map, filter, cond}
use Rattle.gn_labels.specs.declared.label.Label.{Label}
use Rattle.gn_rows.specs.declared.kinds.ItemKind.{ItemKind}
use Rattle.gn_rows.specs.declared.variable.Variable.TheVariants.{PublicDeps, Deps}
use Rattle.gn_dependencies.specs.Lists.{added}
use Rattle.gn_dependencies.specs.Shape.{Shape}
use Rattle.gn_dependencies.specs.Inherited.{walks, opens}
use Rattle.gn_chains.specs.declared.graph.Node.{Node}
use Rattle.gn_chains.specs.declared.reached.Reached.{Reached}
use Rattle.gn_chains.specs.Walked.{AreWalked}

-- what a graph has of a label: the kind of its item, and its public and private dependencies
pub record Facts : Type 0 where
  pub kind : Option ItemKind
  pub public : List Label
  pub private : List Label

abbrev pub facts_of : Shape → Label → Facts
facts_of g label = record { kind = g.kind label; public = g.lists label PublicDeps; private = g.lists label Deps }

-- the same, where it is lent
abbrev pub shown : Node → Facts
shown node = record { kind = node.kind; public = node.public.now; private = node.private.now }

-- all these dependencies
abbrev pub near_of : Facts → List Label
near_of facts = facts.public ++ facts.private

-- the dependencies at which the walk looks behind the label: none where it doesn't go through it
abbrev pub opened_by : Facts → List Label
opened_by facts = cond (opens facts.kind) (near_of facts) []

-- they are what the graph has of the labels, one for each
abbrev pub AreNodes : Shape → List Label → List Node → Type 0
AreNodes g labels nodes = map shown nodes ≡ map (facts_of g) labels

-- a label stands behind the others, and what the graph has of it
pub record IsNext (g : Shape) (label : Label) (old new : Reached) : Type 0 where
  pub labels : new.labels ≡ old.labels ++ label ∷ []
  pub nodes : AreNodes g old.labels old.nodes.items → AreNodes g new.labels new.nodes.items

-- those of the labels that the walk meets are there too
pub record IsMore (g : Shape) (more : List Label) (old new : Reached) : Type 0 where
  pub labels : new.labels ≡ added old.labels (filter (λ d. walks (g.kind d)) more)
  pub nodes : AreNodes g old.labels old.nodes.items → AreNodes g new.labels new.nodes.items

-- they are those that the walk from the target meets
pub record IsReached (g : Shape) (t : Label) (reached : Reached) : Type 0 where
  pub walked : AreWalked g t reached.labels
  pub nodes : AreNodes g reached.labels reached.nodes.items

-- What holds of labels and patterns that were read.
use Rattle.std.specs.Prelude.{ℕ, Bool, true, List, ◌≡◌, ◌⊎◌, Option, None, Result, Ok, Err}
use Rattle.gn_paths.specs.Normal.{IsNormal}
use Rattle.gn_paths.specs.Laws.{IsSourceDirectory}
use Rattle.gn_labels.specs.declared.error.LabelFault.{LabelFault}
use Rattle.gn_labels.specs.declared.error.PatternFault.{PatternFault}
use Rattle.gn_labels.specs.declared.label.Label.{Label}
use Rattle.gn_labels.specs.declared.named.Named.{Named}
use Rattle.gn_labels.specs.declared.pattern.Pattern.{Pattern}
use Rattle.gn_labels.specs.Labels.{spelling}
use Rattle.gn_labels.specs.Names.{is_name}
use Rattle.gn_labels.specs.Reading.{named}
use Rattle.gn_labels.specs.Patterns.{pattern_fault, matches}

-- a name in a directory of the source tree
pub record IsNamed (part : Named) : Type 0 where
  pub name : is_name part.name ≡ true
  pub directory : IsNormal part.dir
  pub place : IsSourceDirectory part.dir

-- a text that spells a name in a directory
pub record IsSpelled (text : List ℕ) : Type 0 where
  pub part : Named
  pub good : IsNamed part
  pub is : text ≡ spelling part.dir part.name

-- a label that was read under a toolchain: its name is good, its directory is one of the source tree in normal form,
-- and its toolchain is the one that was given or is spelled
pub record IsReadLabel (toolchain : List ℕ) (label : Label) : Type 0 where
  pub part : IsNamed (named label.dir label.name)
  pub under : (label.toolchain ≡ toolchain) ⊎ IsSpelled label.toolchain

-- a pattern that has one label: it matches that one, and others only where they differ in the toolchain and it names none
pub record IsExactly (label : Label) (pattern : Pattern) : Type 0 where
  pub has : matches pattern label ≡ true
  pub dir : (other : Label) → matches pattern other ≡ true → other.dir ≡ label.dir
  pub name : (other : Label) → matches pattern other ≡ true → other.name ≡ label.name
  pub toolchain : (other : Label) → matches pattern other ≡ true → (pattern.toolchain ≡ None) ⊎ (other.toolchain ≡ label.toolchain)

-- a text's pattern is exactly its label, and has its fault
pub record AreOne (label : Result Label LabelFault) (pattern : Result Pattern PatternFault) : Type 0 where
  pub good : (l : Label) → label ≡ Ok l → (p : Pattern) × (pattern ≡ Ok p) × IsExactly l p
  pub bad : (fault : LabelFault) → label ≡ Err fault → pattern ≡ Err (pattern_fault fault)

-- The done files of targets that may have names besides them.
use Rattle.std.proofs.Common.{◌≡◌, List, [], ◌∷◌, map, refl, ap}
use Rattle.gn_items.specs.declared.item.Item.{Item}
use Rattle.gn_labels.specs.declared.label.Label.{Label}
use Rattle.gn_files.specs.Files.{Knowledge, done_of, claimant_of}

pub dones_are : (k : Knowledge) (items : List Item) (ts : List Label) → map (λ c. c.done) (map (claimant_of k items) ts) ≡ map (done_of k) ts
dones_are k items [] = refl
dones_are k items (t ∷ ts) = ap (λ ds. done_of k t ∷ ds) (dones_are k items ts)

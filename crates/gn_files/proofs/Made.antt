-- What threads make of what is gathered is all files by what is known.
use Rattle.std.proofs.Common.{◌≡◌, ℕ, List, ◌∷◌, ◌++◌, map, ap, ◌∙◌}
use Rattle.gn_labels.specs.declared.label.Label.{Label}
use Rattle.gn_items.specs.declared.item.Item.{Item}
use Rattle.gn_outside.specs.States.{PutFile}
use Rattle.gn_writing.specs.declared.records.Written.{Written}
use Rattle.gn_ninja.specs.Claims.{Claimant}
use Rattle.gn_ninja.specs.Root.{Root}
use Rattle.gn_toolchains.specs.Toolchains.{Surroundings}
use Rattle.gn_files.specs.Files.{Knowledge, toolchains_used, root_of, all_written, claimants_of, root_out, toolchain_out, target_out, files_by}
use Rattle.gn_files.specs.Making.{root_made}

pub files_are : (s : Surroundings) (k : Knowledge) (items : List Item) (ts : List Label) (root : Root) (written : List Written) (claimants : List Claimant)
    (toolchains : List (List ℕ)) (files : List PutFile) → root ≡ root_of s k items ts → written ≡ all_written k ts → claimants ≡ claimants_of s.default k items ts
    → toolchains ≡ toolchains_used s.default ts → files ≡ map (target_out s k) ts
    → root_made s.build root written claimants ∷ map (toolchain_out s k ts) toolchains ++ files ≡ files_by s k items ts
unfolding files_by
files_are s k items ts root written claimants toolchains files r w c x f =
    let behind : List PutFile = map (toolchain_out s k ts) toolchains ++ files in
    ap (λ z. root_made s.build z written claimants ∷ behind) r
    ∙ ap (λ z. root_made s.build (root_of s k items ts) z claimants ∷ behind) w
    ∙ ap (λ z. root_made s.build (root_of s k items ts) (all_written k ts) z ∷ behind) c
    ∙ ap (λ z. root_out s k items ts ∷ map (toolchain_out s k ts) z ++ files) x
    ∙ ap (λ z. root_out s k items ts ∷ map (toolchain_out s k ts) (toolchains_used s.default ts) ++ z) f

use Rattle.std.proofs.Common.{◌≡◌, ◌++◌, List, ap, ◌∙◌, append_assoc}
use Rattle.std.proofs.lemmas.Result.{on_ok_weaker}
use Rattle.gn_file_faults.proofs.fault.add_faults.Goals as goal

-- four lists that are put behind another, one after the other
joined : {X : Type 0} (old a b c d s t u v : List X) → s ≡ old ++ a → t ≡ s ++ b → u ≡ t ++ c → v ≡ u ++ d → v ≡ old ++ (a ++ (b ++ (c ++ d)))
joined old a b c d s t u v h i j k =
    k ∙ ap (λ zs. zs ++ d) (j ∙ ap (λ zs. zs ++ c) (i ∙ ap (λ zs. zs ++ b) h))
    ∙ append_assoc ((old ++ a) ++ b) c d ∙ append_assoc (old ++ a) b (c ++ d) ∙ append_assoc old a (b ++ (c ++ d))

pub returns : goal.returns
returns c =
    on_ok_weaker c.add_import_faults.result
    (λ e. joined _ _ _ _ _ _ _ _ _ c.in_ok-add_argument_faults.ensures c.in_ok-add_default_fault.ensures c.in_ok-add_write_faults.ensures e) c.add_import_faults.ensures

-- The left sides of the build lines of a file whose blocks stand for the parts of a target.
use Rattle.std.proofs.Common.{◌≡◌, ℕ, List, [], ◌∷◌, ◌++◌, map, refl, sym, ap, ◌∙◌}
use Rattle.std.specs.List.{flat_map}
use Rattle.std.proofs.lemmas.List.{append-nil}
use mathlib.Core.List.{append_assoc}
use Rattle.gn_writing.specs.declared.records.Group.{Group}
use Rattle.gn_writing.specs.declared.records.CopyTarget.{CopyTarget}
use Rattle.gn_writing.specs.declared.records.Action.{Action}
use Rattle.gn_writing.specs.declared.records.Compiled.{Compiled}
use Rattle.gn_writing.specs.Lines.{Line, a_build, made, line_outs}
use Rattle.gn_writing.specs.Kinds.{group_blocks, copied_block, copied_outs, copy_blocks, run_block, run_outs, action_blocks, source_block, source_outs, compiled_blocks}

-- blocks, each of which makes this of its part, make it of all parts, and then what the further blocks make
made_each : {A : Type 0} → (block : A → List Line) (outs : A → List (List ℕ)) → ((x : A) → flat_map line_outs (block x) ≡ outs x) → (xs : List A) (rest : List (List Line)) → made (map block xs ++ rest) ≡ flat_map outs xs ++ made rest
unfolding made
made_each block outs each [] rest = refl
made_each block outs each (x ∷ xs) rest =
    ap (λ (z : List (List ℕ)). z ++ made (map block xs ++ rest)) (each x)
    ∙ ap (λ (z : List (List ℕ)). outs x ++ z) (made_each block outs each xs rest)
    ∙ sym (append_assoc (outs x) (flat_map outs xs) (made rest))

-- the same of parts and of the step behind them, behind what others make
behind : (before parts step all : List (List ℕ)) → all ≡ parts ++ step → (before ++ parts) ++ step ≡ before ++ all
behind before parts step all e = append_assoc before parts step ∙ ap (λ (z : List (List ℕ)). before ++ z) (sym e)

made_by_line : (line : Line) → made ((line ∷ []) ∷ []) ≡ line_outs line
unfolding made
made_by_line line = append-nil (line_outs line ++ []) ∙ append-nil (line_outs line)

-- parts, and one step behind them
parts_and_step : {A : Type 0} → (block : A → List Line) (outs : A → List (List ℕ)) → ((x : A) → flat_map line_outs (block x) ≡ outs x) → (before : List (List ℕ)) (xs : List A) (step : Line) → (before ++ flat_map outs xs) ++ line_outs step ≡ before ++ made (map block xs ++ (step ∷ []) ∷ [])
parts_and_step block outs each before xs step =
    behind before (flat_map outs xs) (line_outs step) (made (map block xs ++ (step ∷ []) ∷ []))
    (made_each block outs each xs ((step ∷ []) ∷ []) ∙ ap (λ (z : List (List ℕ)). flat_map outs xs ++ z) (made_by_line step))

pub made_by_group : (before : List (List ℕ)) (g : Group) → before ++ g.stamp.outs ≡ before ++ made (group_blocks g)
made_by_group before g = ap (λ (z : List (List ℕ)). before ++ z) (sym (made_by_line (a_build (record { outs = g.stamp.outs; rule = g.stamp.rule; ins = g.dones.deps; implicit = []; order = g.dones.data_deps }))))

pub made_by_copy : (before : List (List ℕ)) (c : CopyTarget) → (before ++ flat_map copied_outs c.files) ++ c.stamp.outs ≡ before ++ made (copy_blocks c)
made_by_copy before c =
    parts_and_step (copied_block c) copied_outs (λ f. append-nil f.outs) before c.files
    (a_build (record { outs = c.stamp.outs; rule = c.stamp.rule; ins = flat_map copied_outs c.files; implicit = []; order = c.dones.data_deps }))

pub made_by_action : (before : List (List ℕ)) (a : Action) → (before ++ flat_map run_outs a.runs) ++ a.stamp.outs ≡ before ++ made (action_blocks a)
unfolding made
made_by_action before a =
    parts_and_step (run_block a) run_outs (λ r. append-nil r.outs) before a.runs
    (a_build (record { outs = a.stamp.outs; rule = a.stamp.rule; ins = flat_map run_outs a.runs; implicit = []; order = a.dones.data_deps }))

pub made_by_compiled : (before : List (List ℕ)) (c : Compiled) → (before ++ flat_map source_outs c.sources.units) ++ c.join.step.outs ≡ before ++ made (compiled_blocks c)
unfolding made compiled_blocks
made_by_compiled before c =
    parts_and_step (source_block c) source_outs (λ s. append-nil s.outs) before c.sources.units
    (a_build (record { outs = c.join.step.outs; rule = c.join.step.rule; ins = c.sources.objects ++ c.join.set_objects ++ c.join.statics; implicit = c.join.shared; order = c.join.rest }))

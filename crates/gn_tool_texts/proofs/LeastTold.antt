-- What is told of an item is the least of what its texts have.
use Rattle.std.proofs.Common.{◌≡◌, ◌≤◌, Option, None, Some, option_map, refl, subst, sym}
use Rattle.gn_paths.specs.declared.error.PathFault.{PathFault}
use Rattle.gn_faults.specs.declared.code.Code.{Code}
use Rattle.gn_faults.specs.Numbers.{code_number}
use Rattle.gn_tool_texts.specs.Least.{least, path_code}
use Rattle.gn_tool_texts.specs.Used.{faults_used, wrong_text}
use Rattle.gn_tool_texts.specs.Laws.{IsAmong, WhatIsToldIsLeast}
use Rattle.gn_tool_texts.proofs.LeastLaw.{least_in, least_below}

-- the fault of a code
fault_of : (o : Option PathFault) (code : Code) → option_map path_code o ≡ Some code → (fault : PathFault) × (o ≡ Some fault) × (code ≡ path_code fault)
fault_of None code h = absurd (cc h)
fault_of (Some fault) code h = let s : path_code fault ≡ code = cc h in (fault, refl, sym s)

pub told_is_least : WhatIsToldIsLeast
unfolding wrong_text
told_is_least c i code h =
    let r = fault_of (least (faults_used c i)) code h in
    let there = least_in (faults_used c i) r.0 r.1 in
    ((there.0, r.0, there.1, r.2), λ other m. below r.0 r.1 r.2 other m)
  where
    below : (fault : PathFault) → least (faults_used c i) ≡ Some fault → code ≡ path_code fault → (other : Code) → IsAmong c i other → code_number code ≤ code_number other
    below fault e s other m =
        let least_of_all = least_below (faults_used c i) fault e m.0 m.1 m.2 in
        subst (λ (z : Code). code_number z ≤ code_number other) (sym s) (subst (λ (z : Code). code_number (path_code fault) ≤ code_number z) (sym m.3) least_of_all)

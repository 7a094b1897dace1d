use Rattle.std.proofs.Common.{◌∷◌, subst}
use Rattle.std.proofs.lemmas.Result.{IfOk-weaker}
use Rattle.gn_perform.specs.Kept.{AreKept}
use Rattle.gn_perform.proofs.kept.take_rest.Goals as goal

pub returns-in-Some-clause-left : goal.returns-in-Some-clause-left
returns-in-Some-clause-left c =
    IfOk-weaker c.taken_or_back.result _ _
    (λ rest left base filed kept.
    let all : AreKept base filed (c.in-Some.first ∷ c.pop_front.new.self.items) = subst (AreKept base filed) c.in-Some.ensures.items kept in
    left base filed all.0 all.1)
    c.taken_or_back.ensures.left

pub returns-in-Some-clause-taken : goal.returns-in-Some-clause-taken
returns-in-Some-clause-taken c =
    IfOk-weaker c.taken_or_back.result _ _
    (λ rest taken base filed kept.
    let all : AreKept base filed (c.in-Some.first ∷ c.pop_front.new.self.items) = subst (AreKept base filed) c.in-Some.ensures.items kept in
    taken base filed all.0)
    c.taken_or_back.ensures.taken

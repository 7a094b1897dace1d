use Rattle.std.proofs.Common.{◌≡◌, ℕ, List, sym, subst, ap, ◌∙◌, Some, length, arith}
use Rattle.gn_graph.specs.Places.{ArePlaces}
use Rattle.gn_graph.proofs.Places.{placed_more, placed_still}
use Rattle.gn_graph.proofs.held.put_last.Goals as goal

pub returns-in_err-make_room-clause-places : goal.returns-in_err-make_room-clause-places
returns-in_err-make_room-clause-places c = λ i p e. c.in_err-make_room.ensures.same p i (c.requires.places i p e)

pub returns-in_err-push-clause-places : goal.returns-in_err-push-clause-places
returns-in_err-push-clause-places c =
    subst (λ (z : List ℕ). ArePlaces z c.note_place.new.places.items) (sym c.in_err-push.ensures.items)
    (placed_still c.args.list.now.items c.args.places.now.items c.note_place.new.places.items c.args.p c.requires.places c.requires.fresh
    (λ q i n e. c.note_place.ensures.others q i n (c.in_ok-make_room.ensures.same q i e)))

pub returns-clause-places : goal.returns-clause-places
returns-clause-places c =
    let at : c.len.result ≡ length c.args.list.now.items = omega (arith, c.len.ensures, c.args.list.now.ok.0) in
    subst (λ (z : List ℕ). ArePlaces z c.note_place.new.places.items) (sym c.in_ok-push.ensures.items)
    (placed_more c.args.list.now.items c.args.places.now.items c.note_place.new.places.items c.args.p c.requires.places c.requires.fresh
    (c.note_place.ensures.own ∙ ap Some at)
    (λ q i n e. c.note_place.ensures.others q i n (c.in_ok-make_room.ensures.same q i e)))

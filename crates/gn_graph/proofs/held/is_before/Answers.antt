use Rattle.std.proofs.Common.{length, refl, sym}
use Rattle.std.proofs.lemmas.Option.{slice_get_read, slice_get_past}
use Rattle.gn_graph.proofs.Places.{no_place, far_place, near_place}
use Rattle.gn_graph.proofs.held.is_before.Goals as goal

pub returns-in-None : goal.returns-in-None
returns-in-None c =
    sym (no_place c.args.list.now c.args.places.now c.requires.places c.args.p c.args.n c.requires.within (slice_get_past c.args.places.now c.args.p c.in-None.ensures.lookup.3))

pub returns-then-place-n : goal.returns-then-place-n
returns-then-place-n c =
    near_place c.args.list.now c.args.places.now c.requires.places c.args.p c.args.n c.requires.within c.in-Some.place.now (slice_get_read c.args.places.now (length c.args.places.now) c.args.p c.in-Some.place.now refl c.in-Some.ensures.lookup.3.0 c.in-Some.ensures.lookup.1) c.if-place-n.true

pub returns-else-place-n : goal.returns-else-place-n
returns-else-place-n c =
    sym (far_place c.args.list.now c.args.places.now c.requires.places c.args.p c.args.n c.requires.within c.in-Some.place.now (slice_get_read c.args.places.now (length c.args.places.now) c.args.p c.in-Some.place.now refl c.in-Some.ensures.lookup.3.0 c.in-Some.ensures.lookup.1) c.if-place-n.false)

use Rattle.std.proofs.Common.{map, nat_cmp, refl, ◌∙◌, ap}
use Rattle.std.specs.BTreeMap.{get}
use Rattle.std.specs.List.{list_any}
use Rattle.gn_core.specs.Keys.{same_key}
use Rattle.gn_book.specs.contracts.task.TaskOrd.TheImpl.{cmp-value}
use Rattle.gn_book.specs.Keys.{key_of}
use Rattle.gn_book.specs.Rosters.{Table, table_of, with_key}
use Rattle.gn_book.specs.Standings.{standing_of}
use Rattle.gn_book.proofs.Rostering.{roster_also, roster_new, fresh_in, statuses_behind, keys_behind, last_number}
use Rattle.gn_book.proofs.roster.Roster.add.Goals as goal

pub put_key-requires-clause-is_new : goal.put_key-requires-clause-is_new
put_key-requires-clause-is_new g c = fresh_in c.self.inside.keys.keys c.make_places.new.keys.keys (key_of c.args.key) (map (standing_of g.A.Answer.meaning) c.self.inside.statuses.items) c.args.self.now c.self.view_is c.requires c.make_places.ensures.keys

pub invariant_of-self : goal.invariant_of-self
invariant_of-self g c =
    roster_also (map key_of c.self.inside.keys.keys) (map key_of c.make_places.new.keys.keys) (map (standing_of g.A.Answer.meaning) c.self.inside.statuses.items) (map (standing_of g.A.Answer.meaning) c.make_places.new.statuses.items)
    (get cmp-value.it c.self.inside.ready) (get cmp-value.it c.self.inside.ready) (get nat_cmp c.self.inside.held) (get nat_cmp c.self.inside.held) c.self.invariant
    (ap (map key_of) c.make_places.ensures.keys) (ap (map (standing_of g.A.Answer.meaning)) c.make_places.ensures.statuses) (λ t. refl) (λ n. refl)

pub invariant_of-self-2 : goal.invariant_of-self-2
invariant_of-self-2 g c =
    roster_new (map key_of c.self.inside.keys.keys) (map key_of c.put_key.new.keys.keys) (map (standing_of g.A.Answer.meaning) c.self.inside.statuses.items) (map (standing_of g.A.Answer.meaning) c.put_open.new.statuses.items)
    (get cmp-value.it c.self.inside.ready) (get nat_cmp c.self.inside.held) c.self.invariant (key_of c.args.key)
    (ap (λ (t : Table). list_any (same_key (key_of c.args.key)) t.keys) c.self.view_is ∙ c.requires)
    (keys_behind c.self.inside.keys.keys c.make_places.new.keys.keys c.put_key.new.keys.keys (key_of c.args.key) c.put_key.ensures c.make_places.ensures.keys)
    (statuses_behind g.A.Answer.meaning c.self.inside.statuses.items c.make_places.new.statuses.items c.put_open.new.statuses.items c.put_open.ensures c.make_places.ensures.statuses)

pub returns-clause-number : goal.returns-clause-number
returns-clause-number g c = last_number c.make_places.new.keys.keys (map key_of c.put_key.new.keys.keys) (key_of c.args.key) c.len-number.result c.put_key.ensures c.len-number.ensures.len

pub returns-clause-ok : goal.returns-clause-ok
returns-clause-ok g c =
    (λ i. table_of
    (keys_behind c.self.inside.keys.keys c.make_places.new.keys.keys c.put_key.new.keys.keys (key_of c.args.key) c.put_key.ensures c.make_places.ensures.keys i)
    (statuses_behind g.A.Answer.meaning c.self.inside.statuses.items c.make_places.new.statuses.items c.put_open.new.statuses.items c.put_open.ensures c.make_places.ensures.statuses i))
    ∙ ap (λ (t : Table). with_key t (key_of c.args.key)) c.self.view_is

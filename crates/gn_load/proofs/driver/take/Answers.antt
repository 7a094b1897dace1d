use Rattle.std.proofs.Common.{subst, sym, ◌≡◌, Some, slice_get}
use Rattle.std.proofs.lemmas.Option.{slice_get_within}
use Rattle.gn_book.specs.Keys.{key_of}
use Rattle.gn_book.specs.Logs.{Log}
use Rattle.gn_book.specs.Blocks.{BlocksAs}
use Rattle.gn_builds.specs.Driving.{IsClaim}
use Rattle.gn_builds.proofs.Going.{named_claim}
use Rattle.gn_load.proofs.TakeLemmas.{claimed_by, takes_work, takes_none, not_ready, no_wait}
use Rattle.gn_load.proofs.driver.take.Goals as goal

pub block-requires-clause-numbers : goal.block-requires-clause-numbers
block-requires-clause-numbers c = (
  (subst (λ (l : Log). IsClaim l c.args.claim.now) (sym c.in_ok-number.ensures.ok) (named_claim c.args.book.now (key_of c.args.on) c.args.claim.now c.requires.claim)).held.number,
  slice_get_within c.number.new.self.keys c.in_ok-number.number (key_of c.args.on) c.in_ok-number.ensures.number,
)

pub block-requires-clause-claimed : goal.block-requires-clause-claimed
block-requires-clause-claimed c =
    claimed_by c.number.new.self c.args.claim.now (subst (λ (l : Log). IsClaim l c.args.claim.now) (sym c.in_ok-number.ensures.ok) (named_claim c.args.book.now (key_of c.args.on) c.args.claim.now c.requires.claim))

pub returns-in-Work : goal.returns-in-Work
returns-in-Work c =
    takes_work c.args.book.now c.args.claim.now (key_of c.args.on) c.in_ok-number.number c.args.place c.requires.claim
    (subst (λ (l : Log). slice_get l.keys c.in_ok-number.number ≡ Some (key_of c.args.on)) c.in_ok-number.ensures.ok c.in_ok-number.ensures.number) c.block.new.self c.in_ok-other.field-0 c.in-Work.other c.in-Work.is
    (subst (λ (l : Log). BlocksAs l c.block.new.self c.args.claim.now.seat c.args.claim.now.number c.in_ok-number.number c.args.place c.in_ok-other.field-0) c.in_ok-number.ensures.ok c.in_ok-other.ensures.ok)

pub returns-in-Cyclic : goal.returns-in-Cyclic
returns-in-Cyclic c =
    takes_none c.args.book.now c.args.claim.now (key_of c.args.on) c.in_ok-number.number c.args.place c.requires.claim
    (subst (λ (l : Log). slice_get l.keys c.in_ok-number.number ≡ Some (key_of c.args.on)) c.in_ok-number.ensures.ok c.in_ok-number.ensures.number) c.block.new.self c.in_ok-other.field-0 c.in-Cyclic.is
    (subst (λ (l : Log). BlocksAs l c.block.new.self c.args.claim.now.seat c.args.claim.now.number c.in_ok-number.number c.args.place c.in_ok-other.field-0) c.in_ok-number.ensures.ok c.in_ok-other.ensures.ok)

pub unreachable-requires : goal.unreachable-requires
unreachable-requires c =
    not_ready c.args.book.now c.args.claim.now (key_of c.args.on) c.in_ok-number.number c.args.place c.requires.claim
    (subst (λ (l : Log). slice_get l.keys c.in_ok-number.number ≡ Some (key_of c.args.on)) c.in_ok-number.ensures.ok c.in_ok-number.ensures.number) c.block.new.self c.requires.lacked c.in_ok-other.field-0 c.in-Ready.is
    (subst (λ (l : Log). BlocksAs l c.block.new.self c.args.claim.now.seat c.args.claim.now.number c.in_ok-number.number c.args.place c.in_ok-other.field-0) c.in_ok-number.ensures.ok c.in_ok-other.ensures.ok)

pub unreachable-requires-in-Wait : goal.unreachable-requires-in-Wait
unreachable-requires-in-Wait c =
    no_wait c.args.book.now c.args.claim.now (key_of c.args.on) c.in_ok-number.number c.args.place c.requires.claim
    (subst (λ (l : Log). slice_get l.keys c.in_ok-number.number ≡ Some (key_of c.args.on)) c.in_ok-number.ensures.ok c.in_ok-number.ensures.number) c.block.new.self c.requires.lacked c.in_ok-other.field-0 c.in-Wait.field-0 c.in-Wait.is
    (subst (λ (l : Log). BlocksAs l c.block.new.self c.args.claim.now.seat c.args.claim.now.number c.in_ok-number.number c.args.place c.in_ok-other.field-0) c.in_ok-number.ensures.ok c.in_ok-other.ensures.ok)

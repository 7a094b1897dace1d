-- What comes next is what the rules of loading say.
use Rattle.std.proofs.Common.{◌≡◌, ℕ, [], Option, Some, None, unwrap_or, slice_get, refl, sym, ◌∙◌, ap, subst}
use Rattle.gn_core.specs.Keys.{Key, Read}
use Rattle.gn_core.specs.Worlds.{World}
use Rattle.gn_core.specs.Machine.{Cause, IsReady}
use Rattle.gn_book.specs.declared.next.Next.TheVariants.{Work, Later, Quiet, Stopped}
use Rattle.gn_book.specs.Logs.{Log, state_of, key_at, IsFree, cause_in, first_cause}
use Rattle.gn_book.specs.Tasks.{is_task, IsNoLater}
use Rattle.gn_book.specs.Next.{IsReadyNumber, NoneIsReady}
use Rattle.gn_book.specs.NextLaws.{NumbersAreReached, NextIsByRules, ReadyMeansWork, QuietMeansQuiet}
use Rattle.gn_book.proofs.Standing.{named_at}
use Rattle.gn_book.proofs.Rostering.{got_within}

-- the number of a key that is ready
numbered : (w : World) (l : Log) → NumbersAreReached w l → (k : Key) → IsReady w (state_of l) k → (n : ℕ) × (key_at l n ≡ k) × IsReadyNumber l n
numbered w l reached k r =
    let has = (reached k r.2).0 r.0 in
    let n : ℕ = has.1.0 in
    let at : slice_get l.keys n ≡ Some k = has.1.1 in
    let same : key_at l n ≡ k = ap (λ (o : Option Key). unwrap_or o (Read [])) at in (
      n,
      same,
      record {
        number = got_within l.keys n k at;
        task = ap is_task same ∙ has.0;
        free = subst (λ (z : Key). IsFree (state_of l) z) (sym same) (record { unclaimed = r.1; unfiled = r.2 });
      },
    )

none_ready : (w : World) (l : Log) → NumbersAreReached w l → NoneIsReady l → (k : Key) → IsReady w (state_of l) k → ⊥
none_ready w l reached none k r = let n = numbered w l reached k r in none n.0 n.2

-- a number that is ready is that of a key that is ready by the rules
ready : (w : World) (l : Log) → NumbersAreReached w l → (state_of l).stops ≡ [] → (n : ℕ) → IsReadyNumber l n → IsReady w (state_of l) (key_at l n)
ready w l reached stops n r = (
  (reached (key_at l n) r.free.unfiled).1 (r.task, (n, named_at l.keys n r.number)),
  r.free.unclaimed,
  r.free.unfiled,
  stops,
)

pub by_rules : NextIsByRules
by_rules w l seat (Work n) reached is = (
  ready w l reached is.0 n is.1,
  λ k r. let m = numbered w l reached k r in subst (λ (z : Key). IsNoLater (key_at l n) z) m.1 (is.2 m.0 m.2),
)
by_rules w l seat (Later n other) reached is = (none_ready w l reached is.1, is.3, is.4)
by_rules w l seat Quiet reached is = (none_ready w l reached is.1, is.2, is.0)
by_rules w l seat (Stopped cause) reached is = is

-- nothing has stopped where there is no first cause
stopped_not : (l : Log) (c : Cause) → first_cause (state_of l).stops ≡ Some c → (state_of l).stops ≡ [] → ⊥
stopped_not l c some none = let no_cause : first_cause (state_of l).stops ≡ None = ap first_cause none in cc (some, no_cause)

pub ready_work : ReadyMeansWork
ready_work w l seat (Work n) reached is k r = (n, refl)
ready_work w l seat (Later n other) reached is k r = absurd (none_ready w l reached is.1 k r)
ready_work w l seat Quiet reached is k r = absurd (none_ready w l reached is.1 k r)
ready_work w l seat (Stopped cause) reached is k r = absurd (stopped_not l (cause_in (key_at l) cause) is r.3)

pub quiet_quiet : QuietMeansQuiet
quiet_quiet w l seat (Work n) reached is quiet = absurd (quiet.0 (key_at l n) (ready w l reached is.0 n is.1))
quiet_quiet w l seat (Later n other) reached is quiet = let none : (state_of l).claims (key_at l n) ≡ None = quiet.1 (key_at l n) in let some : (state_of l).claims (key_at l n) ≡ Some other = is.3 in absurd (cc (none, some))
quiet_quiet w l seat Quiet reached is quiet = refl
quiet_quiet w l seat (Stopped cause) reached is quiet = absurd (stopped_not l (cause_in (key_at l) cause) is quiet.2)

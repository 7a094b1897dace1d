-- What threads may share, where they may share a base and copies of what is filed.
use mir.Syntax.{Sym}
use denote.Ref.{NamedLft}
use denote.Struct.Tuple.{TupleAt}
use denote.Param.Send.{IsSync, sendable, shr_sync, shr_slice_sync}
use Rattle.std.proofs.Crossing.{crosses}
use Rattle.gn_threads.proofs.Captured.{captured_sync}
use Rattle.gn_evaluation_base.specs.contracts.base.Base as Base
use Rattle.gn_prepared.specs.contracts.copies.Copies as Copies
use Rattle.gn_prepared.specs.contracts.wanted.Wanted as Wanted
use Rattle.gn_prepared.specs.Captures.{captures}

wanted : IsSync Wanted.the_row
wanted = search (sendable, crosses) depth 60 fits 10000

module _ (base : IsSync Base.the_row) (copies : IsSync Copies.the_row) where
  pub captures_sync : (name : Sym) (alloc base copies wanted : NamedLft) → IsSync (TupleAt name (captures alloc base copies wanted))
  captures_sync name a b k w =
      captured_sync name (captures a b k w)
      (search (sendable, crosses) depth 30, (shr_sync _ _ _ base, (shr_sync _ _ _ copies, (shr_slice_sync _ _ _ wanted, tt))))

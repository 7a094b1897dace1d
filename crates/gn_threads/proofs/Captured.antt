-- Closures that threads may take or share, by what they capture.
use mir.Syntax.{Sym}
use mathlib.Core.List.{List}
use denote.RattleType.{RattleType}
use denote.Struct.Declared.{shape}
use denote.Struct.Tuple.{TupleAt, type_at}
use denote.Param.Send.{IsSend, IsSync, AllSend, AllSync, recorded_send, recorded_sync, struct_send, struct_sync}

pub captured_send : (ν : Sym) (Ts : List RattleType) → AllSend (shape (type_at ν Ts)).fields → IsSend (TupleAt ν Ts)
captured_send ν Ts each = recorded_send _ _ _ (type_at ν Ts).to_one (struct_send (shape (type_at ν Ts)) each)

pub captured_sync : (ν : Sym) (Ts : List RattleType) → AllSync (shape (type_at ν Ts)).fields → IsSync (TupleAt ν Ts)
captured_sync ν Ts each = recorded_sync _ _ _ (type_at ν Ts).to_one (struct_sync (shape (type_at ν Ts)) each)

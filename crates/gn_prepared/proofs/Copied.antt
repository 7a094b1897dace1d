-- What threads may share of copies of what is filed.
use denote.RattleType.{RattleType}
use denote.Struct.Declared.{shape}
use denote.Param.Send.{IsSync, sendable, view_sync, recorded_sync, struct_sync}
use Rattle.std.proofs.Crossing.{crosses, Vec-sync}
use Rattle.std.specs.contracts.alloc.Global as Global
use Rattle.std.specs.contracts.hash.BuildHasherDefault as Builder
use Rattle.std.specs.contracts.hash.FoldHasher as Hasher
use Rattle.std.specs.contracts.impls.GlobalAllocator.TheImpl as allocates
use Rattle.std.specs.contracts.prelude.FoldHasherHasher.TheImpl as feeds
use Rattle.std.specs.declared.hash.BuildHasher as builder
use Rattle.indexmap.specs.contracts.columns.Columns as Columns
use Rattle.indexmap.specs.contracts.columns.Columns.TheInside as TheColumns
use Rattle.indexmap.specs.contracts.index_table.IndexTable as Table
use Rattle.indexmap.specs.contracts.map.IndexMap as IndexMap
use Rattle.indexmap.specs.contracts.map.IndexMap.TheInside as TheMap
use Rattle.gn_items.specs.contracts.key.Key as Key
use Rattle.gn_items.specs.contracts.key.KeyPartialEq.TheImpl as equal
use Rattle.gn_items.specs.contracts.key.KeyHash.TheImpl as hashed
use Rattle.gn_answers.specs.contracts.answer.Answer as Answer
use Rattle.gn_prepared.specs.contracts.copies.Copies as Copies

abbrev hasher : RattleType
hasher = Builder.the_row Hasher.the_row

key : IsSync Key.the_row
key = search (sendable, crosses) depth 60 fits 10000

table : IsSync (Table.the_field Global.the_row allocates.ghosts).row
table = search (sendable, crosses) depth 40 fits 10000

module _ (answer : IsSync Answer.the_row) where
  inside_columns : IsSync (TheColumns.the_row Key.the_row Answer.the_row Global.the_row allocates.ghosts)
  inside_columns = recorded_sync _ _ _ (TheColumns.the_type Key.the_row Answer.the_row Global.the_row allocates.ghosts).to_one
      (struct_sync (shape (TheColumns.the_type Key.the_row Answer.the_row Global.the_row allocates.ghosts)) (Vec-sync _ key, (Vec-sync _ answer, tt)))

  columns : IsSync (Columns.the_field Key.the_row Answer.the_row Global.the_row allocates.ghosts).row
  columns = view_sync _ _ _ _ _ inside_columns

  -- however its hasher is built
  module _ (b : builder.Ghosts hasher.Denot (Hasher.the_row).Denot) where
    inside_map : IsSync (TheMap.the_row Key.the_row Answer.the_row hasher Global.the_row Hasher.the_row equal.ghosts hashed.ghosts b feeds.ghosts allocates.ghosts)
    inside_map = recorded_sync _ _ _ (TheMap.the_type Key.the_row Answer.the_row hasher Global.the_row Hasher.the_row equal.ghosts hashed.ghosts b feeds.ghosts allocates.ghosts).to_one
        (struct_sync (shape (TheMap.the_type Key.the_row Answer.the_row hasher Global.the_row Hasher.the_row equal.ghosts hashed.ghosts b feeds.ghosts allocates.ghosts)) (columns, (table, (search (sendable, crosses) depth 40, tt))))

    map : IsSync (IndexMap.the_field Key.the_row Answer.the_row hasher Global.the_row Hasher.the_row equal.ghosts hashed.ghosts b feeds.ghosts allocates.ghosts).row
    map = view_sync _ _ _ _ _ inside_map

  pub copies : IsSync Copies.the_row
  copies = recorded_sync _ _ _ (Copies.the_type).to_one (struct_sync (shape Copies.the_type) (map _, (search sendable depth 20, tt)))

-- What is written of groups and copies.
use Rattle.std.specs.Prelude.{ℕ, List, map}
use Rattle.gn_paths.specs.Rebase.{seen_from}
use Rattle.gn_labels.specs.declared.label.Label.{Label}
use Rattle.gn_rows.specs.declared.kinds.ToolName.TheVariants as tools
use Rattle.gn_rows.specs.declared.variable.Variable.TheVariants.{Sources}
use Rattle.gn_define.specs.Fields.{field_at, paths_of}
use Rattle.gn_items.specs.declared.item.Item.{Item}
use Rattle.gn_writing.specs.declared.records.Dones.{Dones}
use Rattle.gn_writing.specs.declared.records.Copied.{Copied}
use Rattle.gn_writing.specs.declared.records.Written.{Written}
use Rattle.gn_writing.specs.declared.records.Written.TheVariants as written
use Rattle.gn_records.specs.Around.{Around}
use Rattle.gn_records.specs.Outputs.{source_outs}
use Rattle.gn_records.specs.Steps.{rule_of, where_had, stamp_step}

-- a group: its stamp stands for its dependencies
abbrev pub group_record : Around → Label → Dones → Written
group_record c label d = written.Group (record { stamp = stamp_step c label; dones = d })

-- a source that is copied, and what is made of it
abbrev pub copied : Around → Item → List ℕ → Copied
copied c i source = record { source = seen_from c.build source; outs = where_had c tools.Copy (source_outs c i source) }

-- a copy: each source in order, and the stamp of all
abbrev pub copy_record : Around → Item → Dones → Written
copy_record c i d = written.Copy (record {
  rule = rule_of c tools.Copy;
  files = map (copied c i) (paths_of (field_at i.fields Sources));
  stamp = stamp_step c i.label;
  dones = d;
})

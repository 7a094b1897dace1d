use Rattle.std.proofs.Common.{◌≡◌, take, map}
use Rattle.gn_writing.specs.Kinds.{tool_block}
use Rattle.gn_ninja.specs.Format.{with_blocks}
use Rattle.gn_ninja.proofs.toolchains.append_tools.Given as goal

abbrev pub invariant-loop-tool : goal.invariant-loop-tool
invariant-loop-tool l = l.text.items ≡ with_blocks l.fn.text.items (map tool_block (take l.tool-index l.tools))

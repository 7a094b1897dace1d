-- A build that was loaded, as its meaning sees it.
use Rattle.std.specs.Prelude.{◌++◌}
use Rattle.gn_dotfile.specs.Names.{dotfile_state}
use Rattle.gn_built.specs.Built.{build_of}
use Rattle.gn_top.specs.Stages.{First, Build}
use Rattle.gn_top.specs.declared.building.Started.{Started}
use Rattle.gn_top.specs.declared.building.Build.{Build as BuildCode}

-- what the first stage has left, by what a build is loaded from
abbrev pub started_view : Started → First
started_view start = record { dotfile = dotfile_state start.setup.dotfile; arguments = start.setup.arguments; prints = start.setup.dotfile.prints ++ start.prints }

abbrev pub build_view : BuildCode → Build
build_view build = record { directory = build.start.setup.build_directory; first = started_view build.start; loaded = build_of build.loaded; files = build.files }

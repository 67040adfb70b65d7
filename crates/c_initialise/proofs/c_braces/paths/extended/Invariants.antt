use Rattle.std.proofs.Common.{◌≡◌, ◌++◌, take}
use Rattle.c_inits.specs.Cursor.{path_of}
use Rattle.c_initialise.proofs.c_braces.paths.extended.Given as goal

abbrev pub invariant-loop-frame : goal.invariant-loop-frame
invariant-loop-frame l = l.whole.items ≡ l.path ++ path_of (take l.frame-index l.frames)

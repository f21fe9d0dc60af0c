use Rattle.std.proofs.Common.{map, drop}
use Rattle.vc_files.specs.MemFile.{entry}
use Rattle.vc_files.proofs.Names.{SameFile}
use Rattle.vc_files.proofs.mem_files.find.Given as goal

-- the files from here on have the same file of this name as all of them
abbrev pub invariant-loop-file : goal.invariant-loop-file
invariant-loop-file l = SameFile (map entry (drop l.file-index l.files)) (map entry l.files) l.name

-- What the files of the system show: their faults alone.
use Rattle.std.specs.Prelude.{List, map, string_bytes}
use Rattle.vc_files.specs.declared.real.RealFiles.{RealFiles}
use Rattle.vc_files.specs.Files.{Bytes}

-- the names whose reading has failed
abbrev pub real_faults : {R : Type 0} → RealFiles R → List Bytes
real_faults s = map string_bytes s.failed.items

-- What files in memory show: what they hold, their faults, and which calls fail.
use Rattle.std.specs.Prelude.{ℕ, List, map, string_bytes}
use Rattle.vc_files.specs.declared.mem_files.MemFiles.{MemFiles}
use Rattle.vc_files.specs.Files.{Bytes, Held}
use Rattle.vc_files.specs.MemFile.{entry}

-- the names with their bytes
abbrev pub mem_held : MemFiles → Held
mem_held s = map entry s.files.items

-- the names whose reading has failed
abbrev pub mem_faults : MemFiles → List Bytes
mem_faults s = map string_bytes s.failed.items

-- the numbers of the calls that are to fail
abbrev pub mem_failing : MemFiles → List ℕ
mem_failing s = s.failing.items

-- the number of the next call
abbrev pub mem_calls : MemFiles → ℕ
mem_calls s = s.calls

-- A file in memory as an entry of a store.
use Rattle.std.specs.Prelude.{string_bytes}
use Rattle.vc_files.specs.declared.mem_files.MemFile.{MemFile}
use Rattle.vc_files.specs.Files.{Bytes}

-- its name with its bytes
abbrev pub entry : MemFile → Bytes × Bytes
entry f = (string_bytes f.name, f.bytes.items)

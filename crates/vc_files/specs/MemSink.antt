-- What a sink in memory shows.
use Rattle.std.specs.Prelude.{ℕ, List, ◌-◌, vec_len}
use Rattle.vc_files.specs.declared.mem_sink.MemSink.{MemSink}

-- what was written
abbrev pub sink_bytes : MemSink → List ℕ
sink_bytes s = s.bytes.items

-- how often it has failed
abbrev pub sink_faults : MemSink → ℕ
sink_faults s = s.faults

-- the room that is left
abbrev pub sink_room : MemSink → ℕ
sink_room s = s.most - vec_len s.bytes

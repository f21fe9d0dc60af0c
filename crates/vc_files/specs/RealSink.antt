-- What a writer as a sink shows: its faults, and the writer.
use Rattle.std.specs.Prelude.{ℕ}
use Rattle.vc_files.specs.declared.real.RealSink.{RealSink}

-- how often it has failed
abbrev pub real_sink_faults : {W : Type 0} → RealSink W → ℕ
real_sink_faults s = s.faults

-- the writer that takes the bytes
abbrev pub real_sink_target : {W : Type 0} → RealSink W → W
real_sink_target s = s.to

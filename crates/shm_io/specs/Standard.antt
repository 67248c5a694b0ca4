-- What stands behind the standard sides, and their counts of faults.
use Rattle.std.specs.Prelude.{ℕ}
use Rattle.shm_io.specs.declared.standard.{StdSource.StdSource, StdSink.StdSink}

-- the reader that the bytes come from
abbrev pub reader_of : {R : Type 0} → StdSource R → R
reader_of s = s.reader

-- the reads that failed
abbrev pub source_faults : {R : Type 0} → StdSource R → ℕ
source_faults s = s.faults

-- the writer that the bytes go to
abbrev pub writer_of : {W : Type 0} → StdSink W → W
writer_of s = s.writer

-- the writes that failed
abbrev pub sink_faults : {W : Type 0} → StdSink W → ℕ
sink_faults s = s.faults

-- What readers and writers that falter hold.
use Rattle.std.specs.Prelude.{ℕ, List, Option}
use Rattle.hv_fixtures.specs.declared.faltering.FalteringReader.{FalteringReader}
use Rattle.hv_fixtures.specs.declared.faltering.Falter.{Falter}
use Rattle.hv_fixtures.specs.declared.faltering.FalteringWriter.{FalteringWriter}

-- the bytes that a reader has left
abbrev pub bytes_left : FalteringReader → List ℕ
bytes_left r = r.left.now

-- how many reads go well before the one that fails, if one is still to fail
abbrev pub reads_before : FalteringReader → Option ℕ
reads_before r = r.reads_before

-- how many reads have failed
abbrev pub reads_failed : FalteringReader → ℕ
reads_failed r = r.failures

-- the bytes that a writer has taken
abbrev pub bytes_taken : FalteringWriter → List ℕ
bytes_taken w = w.bytes.items

-- how many writes go well before the one that falters, if one is still to falter
abbrev pub writes_before : FalteringWriter → Option ℕ
writes_before w = w.writes_before

-- how it falters
abbrev pub falter_of : FalteringWriter → Falter
falter_of w = w.falter

-- how many writes have failed, or took no byte of a text that is not empty
abbrev pub writes_failed : FalteringWriter → ℕ
writes_failed w = w.failures

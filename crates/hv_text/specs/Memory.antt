-- What readers and writers over memory hold.
use Rattle.std.specs.Prelude.{ℕ, List}
use Rattle.hv_text.specs.declared.memory.FromMemory.{FromMemory}
use Rattle.hv_text.specs.declared.memory.ToMemory.{ToMemory}

-- the bytes that a reader has left
abbrev pub left_in : FromMemory → List ℕ
left_in r = r.left.now

-- the bytes that a writer has taken
abbrev pub taken_by : ToMemory → List ℕ
taken_by w = w.bytes.items

-- how many writes were refused for want of memory
abbrev pub refused_by : ToMemory → ℕ
refused_by w = w.failures

use Rattle.std.proofs.Common.{◌≡◌, drop, map}
use Rattle.hv_text.specs.Names.{text_of}
use Rattle.hv_reading.specs.inside.Streams.{has_head}
use Rattle.hv_reading.proofs.stream.is_among.Given as goal

-- what is left decides as the whole does
abbrev pub invariant-loop-other : goal.invariant-loop-other
invariant-loop-other l = has_head (text_of l.name) (map text_of (drop l.other-index l.names)) ≡ has_head (text_of l.name) (map text_of l.names)

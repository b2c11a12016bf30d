use Rattle.std.proofs.Common.{◌≡◌, drop, map}
use Rattle.hv_text.specs.Bytes.{lower}
use Rattle.hv_text.specs.Trees.{tree}
use Rattle.hv_reading.specs.Sections.{occurs}
use Rattle.hv_reading.proofs.section.occurs.Given as goal

abbrev pub invariant-loop-e : goal.invariant-loop-e
invariant-loop-e l = occurs (lower l.word) (map tree (drop l.e-index l.es)) ≡ occurs (lower l.word) (map tree l.es)

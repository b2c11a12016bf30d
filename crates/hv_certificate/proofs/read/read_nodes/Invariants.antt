use Rattle.std.proofs.Common.{length}
use Rattle.hv_certificate.proofs.LineLemmas.{Reads}
use Rattle.hv_certificate.proofs.read.read_nodes.Given as goal

abbrev pub invariant-lines : goal.invariant-lines
invariant-lines l = Reads l.fn.left l.lines.items l.rest l.number

abbrev pub decreases-lines : goal.decreases-lines
decreases-lines l = length l.rest

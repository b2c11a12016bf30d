use Rattle.std.proofs.Common.{[]}
use Rattle.hv_text.proofs.at.Cursor.next.Goals as goal

pub invariant_of-result-clause-has_depth : goal.invariant_of-result-clause-has_depth
invariant_of-result-clause-has_depth c = (c.in_ok-depth.ensures []).0

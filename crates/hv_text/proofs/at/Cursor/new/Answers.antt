use Rattle.std.proofs.Common.{arith}
use Rattle.hv_text.proofs.RestLemmas.{whole_text}
use Rattle.hv_text.proofs.at.Cursor.new.Goals as goal

pub returns-clause-are : goal.returns-clause-are
returns-clause-are c = whole_text c.args.text.now (omega (arith, c.if-text-gt-MOST_BYTES.false))

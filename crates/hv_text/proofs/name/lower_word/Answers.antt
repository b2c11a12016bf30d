use Rattle.std.proofs.Common.{arith}
use Rattle.hv_text.proofs.NameLemmas.{lower_more}
use Rattle.hv_text.proofs.name.lower_word.Goals as goal

pub loop-i-preserved : goal.loop-i-preserved
loop-i-preserved c =
    lower_more c.args.bytes.now c.loop-i.word c.loop-i.i 8 _ (omega arith) (omega arith) c.loop-i.invariant c.to_ascii_lowercase.ensures.value

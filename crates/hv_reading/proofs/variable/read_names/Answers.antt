use Rattle.std.proofs.Common.{arith}
use Rattle.hv_reading.specs.declared.word.Sort.TheVariants as sorts
use Rattle.hv_reading.specs.inside.Words.{sorted_word_of}
use Rattle.hv_syntax.specs.Views.{word_view}
use Rattle.hv_reading.proofs.Lists.{read_more}
use Rattle.hv_reading.proofs.variable.read_names.Goals as goal

pub loop-e-preserved : goal.loop-e-preserved
loop-e-preserved c =
    let l = c.loop-e in
    rw c.in_ok-push.ensures.items
    (read_more (sorted_word_of sorts.Name) word_view c.args.es.now l.e-index c.e-item.result l.names.items c.in_ok-read_word.field-0 _ (omega arith) c.e-item.is c.in_ok-read_word.ensures l.invariant)

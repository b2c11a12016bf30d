use Rattle.std.proofs.Common.{arith}
use Rattle.hv_reading.specs.inside.Sections.{keyword_of}
use Rattle.hv_syntax.specs.Views.{word_view}
use Rattle.hv_reading.proofs.Lists.{read_more}
use Rattle.hv_reading.proofs.section.read_keywords.Goals as goal

pub loop-e-preserved : goal.loop-e-preserved
loop-e-preserved c =
    let l = c.loop-e in
    rw c.in_ok-push.ensures.items
    (read_more keyword_of word_view c.args.es.now l.e-index c.e-item.result l.keywords.items c.in_ok-read_word.field-0 _ (omega arith) c.e-item.is c.in_ok-read_word.ensures l.invariant)

use Rattle.hv_judge.specs.Prints.{IsPrint, IsPrintOf, IsUnreadRejection}
use Rattle.hv_judge.proofs.PrintingLemmas.{printed_of, unread_print}
use Rattle.hv_judge.proofs.RunLemmas.{wrote_as, halted_as, halted_text, wanted}
use Rattle.hv_judge.proofs.printing.run_print.Goals as goal

pub returns-in-Ok-clause-wrote : goal.returns-in-Ok-clause-wrote
returns-in-Ok-clause-wrote g c =
    wrote_as (IsPrint c.deref.result.now c.args.which) (IsPrintOf c.args.which g.R.Source.left c.args.reader.now c.read_all.new.reader) g.W.Sink.taken _ _ c.print_text.result
    (printed_of c.args.which g.R.Source.left c.args.reader.now c.read_all.new.reader c.in-Ok.text.items c.deref.result.now c.deref.ensures.value c.in-Ok.ensures.ok)
    c.print_text.ensures.wrote

pub returns-in-Err-clause-wrote : goal.returns-in-Err-clause-wrote
returns-in-Err-clause-wrote g c =
    wrote_as (IsUnreadRejection c.args.which c.in-Err.fault) (IsPrintOf c.args.which g.R.Source.left c.args.reader.now c.read_all.new.reader) g.W.Sink.taken _ _ c.print_unread.result
    (unread_print c.args.which g.R.Source.left c.args.reader.now c.read_all.new.reader c.in-Err.fault c.in-Err.ensures.err) c.print_unread.ensures.wrote

pub returns-in-Ok-clause-halted : goal.returns-in-Ok-clause-halted
returns-in-Ok-clause-halted g c =
    halted_as _ _ c.print_text.result (wanted c.args.which g.R.Source.left c.args.reader.now c.read_all.new.reader c.in-Ok.text.items c.in-Ok.ensures.ok)
    c.print_text.ensures.halted

pub returns-in-Err-clause-halted : goal.returns-in-Err-clause-halted
returns-in-Err-clause-halted g c =
    halted_as _ _ c.print_unread.result (halted_text c.args.which g.R.Source.left c.args.reader.now c.read_all.new.reader c.in-Err.fault c.in-Err.ensures.err)
    c.print_unread.ensures.halted

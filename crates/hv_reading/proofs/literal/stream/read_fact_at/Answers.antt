use Rattle.std.proofs.Common.{map}
use Rattle.hv_text.specs.Names.{text_of}
use Rattle.hv_text.specs.Cursors.{rest_at}
use Rattle.hv_syntax.specs.Views.{constant_view}
use Rattle.hv_reading.proofs.StreamLemmas.{fact_read, are_constant}
use Rattle.hv_reading.proofs.literal.stream.read_fact_at.Goals as goal

pub returns-clause-read : goal.returns-clause-read
returns-clause-read c =
    let begun = c.in-Some.begun in
    rw (c.new-literal.ensures, c.deref.ensures.value)
    (fact_read begun.start begun.symbol.span (text_of begun.symbol.name) (rest_at c.args.from) (rest_at begun.terms) (rest_at c.in_ok-end.end) (rest_at c.in-Some-leave.after) c.in-Some-leave._past (map constant_view c.fill_names.new.room.items)
    c.in-Some.ensures.begun c.in-Some.ensures.symbol c.in_ok-end.ensures.names (are_constant c.fill_names.new.room.items) c.in_ok-end.ensures.end c.in-Some-leave.ensures.some)

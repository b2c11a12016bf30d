use Rattle.hv_certificate.proofs.LineLemmas.{reads_more, reads_off, some_left}
use Rattle.hv_certificate.proofs.read.read_nodes.Goals as goal

pub returns-in_default-clause-err : goal.returns-in_default-clause-err
returns-in_default-clause-err c =
    reads_off c.args.left.now c.lines.rest.now c.lines.lines.items c.lines.number
    (some_left c.lines.rest.now c.is_empty.result c.is_empty.ensures c.lines-test.true)
    (rw c.in_default.is at c.in_ok-line.ensures.line) c.lines.invariant

pub lines-preserved : goal.lines-preserved
lines-preserved c =
    let read = rw c.in-Some.is at c.in_ok-line.ensures.line in
    let less = rw c.in-Some.is at c.in_ok-line.ensures.less in
    reads_more c.args.left.now c.lines.rest.now c.in-Some.behind.now c.lines.lines.items c.push.new.self.items c.in-Some.line c.lines.number
    c.in_ok-push.ensures.items read.0 read.1 less c.lines.invariant

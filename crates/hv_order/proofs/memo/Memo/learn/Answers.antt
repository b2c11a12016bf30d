use Rattle.std.proofs.lemmas.Option.{slice_get_read}
use Rattle.std.proofs.Common.{refl}
use Rattle.hv_order.proofs.Memos.{put_keeps, put_known, span_keeps, span_known}
use Rattle.hv_order.proofs.memo.Memo.learn.Goals as goal

-- the interval was empty, and is written
pub returns-then-span-clause-keeps : goal.returns-then-span-clause-keeps
returns-then-span-clause-keeps c =
    span_keeps c.args.self.now c.args.node c.args.start c.args.run c.index-span.result.now c.number_of.result c.requires.node c.requires.begun
    (slice_get_read c.args.self.now.spans.items _ c.args.node c.index-span.result.now refl c.requires.node c.index-span.ensures) c.if-span.true c.number_of.ensures

pub returns-then-span-clause-known : goal.returns-then-span-clause-known
returns-then-span-clause-known c =
    span_known c.args.self.now c.args.node c.args.start c.args.run c.index-span.result.now c.number_of.result c.requires.node c.requires.begun
    (slice_get_read c.args.self.now.spans.items _ c.args.node c.index-span.result.now refl c.requires.node c.index-span.ensures) c.if-span.true c.number_of.ensures

-- a further start goes into the tree
pub returns-clause-keeps : goal.returns-clause-keeps
returns-clause-keeps c =
    put_keeps c.args.self.now c.insert.new.self c.args.node c.args.start c.args.run c.requires.begun c.in_ok-insert.ensures.updates.0

pub returns-clause-known : goal.returns-clause-known
returns-clause-known c =
    put_known c.args.self.now c.insert.new.self c.args.node c.args.start c.args.run c.requires.begun c.in_ok-insert.ensures.updates.0 c.in_ok-insert.ensures.updates.1

use Rattle.std.proofs.Common.{◌∙◌, sym, ap, arith}
use Rattle.hv_text.specs.Rests.{ended}
use Rattle.hv_text.specs.Cursors.{rest_at}
use Rattle.hv_reading.specs.inside.Literals.{ground_literal_of}
use Rattle.hv_syntax.specs.ProblemViews.{init_view}
use Rattle.hv_syntax.specs.Views.{literal_view}
use Rattle.hv_reading.proofs.StreamLemmas.{read_one_next, ended_add}
use Rattle.hv_reading.proofs.literal.stream.read_ground_literals_at.Goals as goal

pub all-preserved : goal.all-preserved
all-preserved c =
    let more = rw (c.in-Some.is) at c.in_ok-after.ensures.read in
    let less = rw (c.in-Some.is) at c.in_ok-after.ensures.less in
    let one = more.read in (
      rw (more.put) (read_one_next ground_literal_of literal_view one.tree (rest_at c.all.cursor) (rest_at c.in-Some.after) one.first _ (init_view c.all.literals) more.one one.spells c.all.invariant.0),
      sym (ended_add one.tree (rest_at c.in-Some.after)) ∙ ap ended (sym one.first) ∙ c.all.invariant.1,
      omega (arith, less, c.all.invariant.2),
    )

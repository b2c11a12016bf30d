use Rattle.std.proofs.Common.{◌≡◌, ◌∙◌, Some, refl, sym, ap, arith}
use Rattle.hv_text.specs.Names.{text_of}
use Rattle.hv_text.specs.Trees.{Tree, word}
use Rattle.hv_text.specs.Rests.{ended}
use Rattle.hv_text.specs.Cursors.{rest_at}
use Rattle.hv_reading.specs.inside.Terms.{term_of}
use Rattle.hv_syntax.specs.Views.{constant_view}
use Rattle.hv_reading.proofs.StreamLemmas.{read_next, ended_add}
use Rattle.hv_reading.proofs.literal.stream.fill_names.Goals as goal

pub names-preserved : goal.names-preserved
names-preserved c =
    let name = c.in-Some.name in
    let t : Tree = word (text_of name.name) name.span in
    let room = c.names.room.items in
    let spelled : term_of t ≡ Some (constant_view name) = rw c.in-Some.ensures.sort refl in (
      rw (c.in_ok-push.ensures.items) (read_next term_of constant_view t (rest_at c.names.cursor) (rest_at c.in-Some.after) c.in-Some.ensures.name _ room name spelled c.names.invariant.0),
      sym (ended_add t (rest_at c.in-Some.after)) ∙ ap ended (sym c.in-Some.ensures.name) ∙ c.names.invariant.1,
      omega (arith, c.in-Some.ensures.less, c.names.invariant.2),
    )

use Rattle.std.proofs.Common.{sym, ap, ◌∙◌, arith}
use Rattle.hv_text.specs.Trees.{Tree, word}
use Rattle.hv_text.specs.Rests.{here, ended}
use Rattle.hv_text.specs.Cursors.{rest_at}
use Rattle.hv_reading.specs.inside.Typings.{typed_behind}
use Rattle.hv_syntax.specs.Views.{word_view}
use Rattle.hv_reading.proofs.StreamLemmas.{here_add, ended_add}
use Rattle.hv_reading.proofs.typed.stream.read_typed_list_at.Goals as goal

pub words-preserved : goal.words-preserved
words-preserved c =
    let l = c.words in
    let w = word_view c.in-Some.word in
    let t : Tree = word w.text w.place in
    let behind_it = rest_at c.in-Some.after in (
      sym (c.in_ok-take.ensures.ok (here behind_it)) ∙ ap (typed_behind l.typing) (sym (here_add t behind_it) ∙ ap here (sym c.in-Some.ensures.word)) ∙ l.invariant.0,
      sym (ended_add t behind_it) ∙ ap ended (sym c.in-Some.ensures.word) ∙ l.invariant.1,
      omega (arith, c.in-Some.ensures.less, l.invariant.2),
    )

pub returns-clause-list : goal.returns-clause-list
returns-clause-list c = λ over. sym c.words.invariant.0 ∙ ap (typed_behind c.words.typing) over ∙ c.in_ok-finish.ensures

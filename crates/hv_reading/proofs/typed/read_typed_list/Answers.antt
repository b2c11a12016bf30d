use Rattle.std.proofs.Common.{◌≡◌, ◌+◌, ap, sym, ◌∙◌, drop, arith}
use Rattle.std.proofs.lemmas.Result.{err_from_is_err_and}
use Rattle.hv_text.specs.Trees.{Trees, word, more, trees}
use Rattle.hv_reading.specs.inside.TypedLists.{typed_list_of}
use Rattle.hv_reading.specs.inside.Typings.{typed_behind}
use Rattle.hv_syntax.specs.Views.{typed_view, word_view}
use Rattle.std.specs.Prelude.{map}
use Rattle.hv_reading.proofs.Exits.{exits}
use Rattle.hv_reading.proofs.TypedLemmas.{here_is}
use Rattle.hv_reading.proofs.typed.read_typed_list.Goals as goal

pub returns-in_err-take : goal.returns-in_err-take
returns-in_err-take c =
    let l = c.loop-e in
    let es = c.args.es.now in
    let rest : Trees = trees (drop (l.e-index + 1) es) in
    let here = here_is es l.e-index c.e-item.result c.in-Word.name c.in-Word.span (omega arith) c.e-item.is c.in-Word.is in
    let same : typed_behind l.typing (more (word (word_view c.new.result).text (word_view c.new.result).place) rest) ≡ typed_list_of (trees es) =
    ap (λ w. typed_behind l.typing (more (word w.text w.place) rest)) c.new.ensures ∙ ap (typed_behind l.typing) (sym here) ∙ l.invariant in
    let r = c.from_residual in
    exits (λ v. map typed_view v.items) _ _ _ _ (err_from_is_err_and r.result r.ensures.1) (λ none. sym same ∙ none) (c.in_err-take.ensures.err rest)

pub loop-e-preserved : goal.loop-e-preserved
loop-e-preserved c =
    let l = c.loop-e in
    let es = c.args.es.now in
    let rest : Trees = trees (drop (l.e-index + 1) es) in
    let here = here_is es l.e-index c.e-item.result c.in-Word.name c.in-Word.span (omega arith) c.e-item.is c.in-Word.is in
    sym (c.in_ok-take.ensures.ok rest)
    ∙ ap (λ w. typed_behind l.typing (more (word w.text w.place) rest)) c.new.ensures ∙ ap (typed_behind l.typing) (sym here) ∙ l.invariant

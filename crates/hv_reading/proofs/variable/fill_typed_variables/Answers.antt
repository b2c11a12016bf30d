use Rattle.std.proofs.Common.{◌≡◌, ◌+◌, ◌∷◌, [], ◌++◌, arith, ap, sym, subst, ◌∙◌, map, drop, false, rules, vec_len, length}
use Rattle.std.proofs.lemmas.List.{map-append}
use Rattle.hv_text.specs.Names.{text_of}
use Rattle.hv_text.specs.Trees.{Trees, word, more, tree, trees}
use Rattle.hv_reading.specs.declared.word.Sort.TheVariants as sorts
use Rattle.hv_reading.specs.inside.Reading.{behind}
use Rattle.hv_syntax.specs.Values.{word_at}
use Rattle.hv_reading.specs.TypedLists.{with_type}
use Rattle.hv_reading.specs.inside.TypedLists.{typed_by, type_of, typed_variables_of, is_empty}
use Rattle.hv_syntax.specs.Views.{variable_view, word_view}
use Rattle.hv_reading.proofs.Lists.{member_at}
use Rattle.hv_reading.proofs.TypedLemmas.{here_is, after_type, after_dash, after_name, some_wait}
use Rattle.hv_reading.proofs.variable.fill_typed_variables.Goals.{then-wanted+in_ok-read_type+in_ok-give_type, else-wanted+in-Word+then-is+else-is_empty, else-wanted+in-Word+else-is+else-not-is_sort+in_ok-push}
use Rattle.hv_reading.proofs.variable.fill_typed_variables.Goals as goal

pub loop-e-preserved : goal.loop-e-preserved
loop-e-preserved c =
    let l = c.loop-e in
    let es = c.args.es.now in
    let rest : Trees = trees (drop (l.e-index + 1) es) in
    let here = member_at es l.e-index c.e-item.result (omega arith) c.e-item.is in
    let so_far : behind (map variable_view l.found.items) (typed_by type_of [] sorts.Variable l.wanted (map word_view l.waiting.items) (more (tree c.e-item.result) rest)) ≡ typed_variables_of (trees es) =
    subst (λ ts. behind (map variable_view l.found.items) (typed_by type_of [] sorts.Variable l.wanted (map word_view l.waiting.items) ts) ≡ typed_variables_of (trees es)) here l.invariant in
    let f = map variable_view c.if-wanted.found.items in
    let v = map word_view c.if-wanted.waiting.items in
    elim c.if-wanted.branch [
      | then-wanted+in_ok-read_type+in_ok-give_type w ↦
          let grown : f ≡ map variable_view l.found.items ++ with_type (map word_view w.in_ok-read_type.field-0.items) (map word_view l.waiting.items) =
          ap (λ x. map variable_view x.items) w.found-is ∙ w.in_ok-give_type.ensures.ok ∙ ap (λ xs. map variable_view l.found.items ++ with_type (map word_view w.in_ok-read_type.field-0.items) (map word_view xs)) w.deref.ensures.value in
          let emptied : v ≡ [] = ap (λ x. map word_view x.items) w.waiting-is ∙ ap (map word_view) w.clear.ensures.items in
          after_type type_of [] sorts.Variable _ f _ v _ _ rest _ (tree c.e-item.result) _ w.if-wanted.true w.in_ok-read_type.ensures grown emptied w.wanted-is so_far
      | else-wanted+in-Word+then-is+else-is_empty w ↦
          let n = w.in-Word.name in
          let s = w.in-Word.span in
          let word_here = here_is es l.e-index c.e-item.result n s (omega arith) c.e-item.is w.in-Word.is in
          let read_so_far : behind (map variable_view l.found.items) (typed_by type_of [] sorts.Variable l.wanted (map word_view l.waiting.items) (more (word (text_of n) s) rest)) ≡ typed_variables_of (trees es) =
          subst (λ ts. behind (map variable_view l.found.items) (typed_by type_of [] sorts.Variable l.wanted (map word_view l.waiting.items) ts) ≡ typed_variables_of (trees es)) word_here l.invariant in
          let len : vec_len l.waiting ≡ length l.waiting.items = search rules in
          let some : is_empty (map word_view l.waiting.items) ≡ false = some_wait l.waiting.items (rw len at (sym w.if-is_empty.false ∙ w.is_empty.ensures)) in
          after_dash type_of [] sorts.Variable _ f _ v _ _ rest _ (text_of n) s w.if-wanted.false (sym w.is.ensures ∙ w.if-is.true) some
          (ap (λ x. map variable_view x.items) w.found-is) (ap (λ x. map word_view x.items) w.waiting-is) w.wanted-is read_so_far
      | else-wanted+in-Word+else-is+else-not-is_sort+in_ok-push w ↦
          let n = w.in-Word.name in
          let s = w.in-Word.span in
          let word_here = here_is es l.e-index c.e-item.result n s (omega arith) c.e-item.is w.in-Word.is in
          let read_so_far : behind (map variable_view l.found.items) (typed_by type_of [] sorts.Variable l.wanted (map word_view l.waiting.items) (more (word (text_of n) s) rest)) ≡ typed_variables_of (trees es) =
          subst (λ ts. behind (map variable_view l.found.items) (typed_by type_of [] sorts.Variable l.wanted (map word_view l.waiting.items) ts) ≡ typed_variables_of (trees es)) word_here l.invariant in
          let grown : v ≡ map word_view l.waiting.items ++ word_at (text_of n) s ∷ [] =
          ap (λ x. map word_view x.items) w.waiting-is ∙ ap (map word_view) w.in_ok-push.ensures.items ∙ map-append word_view l.waiting.items _
          ∙ ap (λ x. map word_view l.waiting.items ++ x ∷ []) w.new.ensures in
          after_name type_of [] sorts.Variable _ f _ v _ _ rest _ (text_of n) s w.if-wanted.false (sym w.is.ensures ∙ w.if-is.false) (sym w.is_sort.ensures ∙ w.if-not-is_sort.false)
          (ap (λ x. map variable_view x.items) w.found-is) grown (w.wanted-is ∙ w.if-wanted.false) read_so_far
    ]

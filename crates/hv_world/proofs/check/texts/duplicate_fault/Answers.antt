use Rattle.std.proofs.Common.{◌++◌, map, ap, sym, ◌∙◌}
use Rattle.hv_syntax.specs.Views.{word_view}
use Rattle.hv_syntax.specs.DomainViews.{domain_view}
use Rattle.hv_world.specs.Names.{names, place_in}
use Rattle.hv_world.specs.Known.{predicate_words, declared_words, declarations}
use Rattle.hv_world.specs.Faults.{least}
use Rattle.hv_world.specs.StaticRules.{method_words}
use Rattle.hv_world.specs.inside.Tables.{declaration_view}
use Rattle.hv_world.proofs.FaultLemmas.{least-both}
use Rattle.hv_world.proofs.CheckLemmas.{twice}
use Rattle.hv_world.proofs.check.texts.duplicate_fault.Goals as goal

pub repeated_word-predicate-requires : goal.repeated_word-predicate-requires
repeated_word-predicate-requires c =
    let words = ap (map word_view) c.deref.ensures.value ∙ c.in_ok-predicate_words.ensures ∙ ap predicate_words c.predicates.ensures in
    c.requires.predicates ∙ ap (λ ws. place_in (names ws)) (sym words)

pub repeated_word-method-requires : goal.repeated_word-method-requires
repeated_word-method-requires c =
    c.in_ok-method_names.ensures.places ∙ ap (λ ws. place_in (names (map word_view ws))) (c.deref-2.ensures.value ∙ sym c.deref-3.ensures.value)

pub repeated_word-task-requires : goal.repeated_word-task-requires
repeated_word-task-requires c =
    let listed = ap (map declaration_view) c.deref-4.ensures.value ∙ c.requires.list in
    let words = ap (map word_view) c.deref-5.ensures.value ∙ c.in_ok-task_words.ensures ∙ ap declared_words listed in
    c.requires.tasks ∙ ap (λ ws. place_in (names ws)) (sym words)

pub returns : goal.returns
returns c =
    let domain = domain_view c.args.domain.now in
    let predicates = twice (predicate_words domain.predicates) in
    let methods = twice (method_words domain.methods) in
    let tasks = twice (declared_words (declarations domain)) in
    let predicate_words_are = ap (map word_view) c.deref.ensures.value ∙ c.in_ok-predicate_words.ensures ∙ ap predicate_words c.predicates.ensures in
    let method_words_are = ap (map word_view) c.deref-3.ensures.value ∙ c.in_ok-method_words.ensures ∙ ap method_words c.methods.ensures in
    let listed = ap (map declaration_view) c.deref-4.ensures.value ∙ c.requires.list in
    let task_words_are = ap (map word_view) c.deref-5.ensures.value ∙ c.in_ok-task_words.ensures ∙ ap declared_words listed in
    c.earlier.ensures
    ∙ least-both (predicates ++ methods) tasks _ _
    (c.earlier-front.ensures
    ∙ least-both predicates methods _ _ (c.repeated_word-predicate.ensures ∙ ap (λ ws. least (twice ws)) predicate_words_are) (c.repeated_word-method.ensures ∙ ap (λ ws. least (twice ws)) method_words_are))
    (c.repeated_word-task.ensures ∙ ap (λ ws. least (twice ws)) task_words_are)

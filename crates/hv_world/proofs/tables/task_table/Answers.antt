use Rattle.std.proofs.Common.{map, ap, ◌∙◌}
use Rattle.hv_syntax.specs.Views.{word_view}
use Rattle.hv_world.specs.Names.{names, place_in}
use Rattle.hv_world.specs.Known.{declared_words}
use Rattle.hv_world.specs.inside.Tables.{declaration_view}
use Rattle.hv_world.proofs.tables.task_table.Goals as goal

pub returns-clause-places : goal.returns-clause-places
returns-clause-places c =
    let declared = ap (map declaration_view) c.deref.ensures.value ∙ c.in_ok-list.ensures in
    let words = ap (map word_view) c.deref-2.ensures.value ∙ c.in_ok-words.ensures ∙ ap declared_words declared in
    c.in_ok-places.ensures.places ∙ ap (λ ws. place_in (names ws)) words

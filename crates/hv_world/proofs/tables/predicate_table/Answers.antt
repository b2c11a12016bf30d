use Rattle.std.proofs.Common.{map, ap, ◌∙◌}
use Rattle.hv_syntax.specs.Views.{word_view}
use Rattle.hv_world.specs.Names.{names, place_in}
use Rattle.hv_world.proofs.tables.predicate_table.Goals as goal

pub returns-clause-places : goal.returns-clause-places
returns-clause-places c =
    c.in_ok-places.ensures.places ∙ ap (λ ws. place_in (names ws)) (ap (map word_view) c.deref.ensures.value ∙ c.in_ok-words.ensures)

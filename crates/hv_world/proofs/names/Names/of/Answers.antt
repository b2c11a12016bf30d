use Rattle.std.proofs.Common.{take, arith, ◌+◌, ap, sym, ◌∙◌}
use Rattle.hv_text.specs.Names.{text_of}
use Rattle.hv_syntax.specs.Views.{word_view}
use Rattle.hv_world.specs.Names.{place_in}
use Rattle.hv_world.specs.inside.Tables.{places_by}
use Rattle.hv_world.proofs.NameLemmas.{places_next}
use Rattle.hv_world.proofs.RepeatLemmas.{word_names}
use Rattle.hv_world.proofs.names.Names.of.Goals as goal

pub loop-place-preserved : goal.loop-place-preserved
loop-place-preserved c =
    let words = c.args.words.now in
    let place = c.loop-place.place in
    let placed =
    places_next (λ w. (word_view w).text) words place c.index-words-place.result (text_of c.name.result) (places_by c.loop-place.names) (places_by c.add.new.self) (omega arith) c.index-words-place.is c.name.ensures
    (c.loop-place.invariant.0 ∙ ap place_in (word_names (take place words))) c.in_ok-add.ensures.places
    ∙ ap place_in (sym (word_names (take (place + 1) words))) in
    (placed, c.in_ok-add.ensures.seed ∙ c.loop-place.invariant.1)

use Rattle.std.proofs.Common.{map, arith, ap, sym, ◌∙◌}
use Rattle.std.proofs.lemmas.List.{take_all}
use Rattle.hv_text.specs.Names.{text_of}
use Rattle.hv_syntax.specs.Views.{variable_view}
use Rattle.hv_world.specs.Names.{place_in}
use Rattle.hv_world.specs.inside.Tables.{places_by}
use Rattle.hv_world.proofs.NameLemmas.{places_next}
use Rattle.hv_world.proofs.RepeatLemmas.{variables_are}
use Rattle.hv_world.proofs.names.Names.of_variables.Goals as goal

pub loop-place-preserved : goal.loop-place-preserved
loop-place-preserved c =
    let placed =
    places_next (λ t. (variable_view t).name.text) c.args.list.now c.loop-place.place c.index-list-place.result (text_of c.name.result) (places_by c.loop-place.names) (places_by c.add.new.self) (omega arith)
    c.index-list-place.is (c.name.ensures ∙ ap (λ w. w.text) c.name-variable.ensures) c.loop-place.invariant.0 c.in_ok-add.ensures.places in
    (placed, c.in_ok-add.ensures.seed ∙ c.loop-place.invariant.1)

pub returns-clause-places : goal.returns-clause-places
returns-clause-places c =
    let list = c.args.list.now in
    c.loop-place.invariant.0 ∙ ap (λ vs. place_in (map (λ t. (variable_view t).name.text) vs)) (take_all c.loop-place.place list c.loop-place-test.false) ∙ ap place_in (sym (variables_are list))

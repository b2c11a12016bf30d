use Rattle.std.proofs.Common.{map, nat_eq, Some, ap, ◌∙◌, arith}
use Rattle.std.specs.Option.{option_eq}
use Rattle.hv_text.specs.Names.{text_of}
use Rattle.hv_syntax.specs.Views.{word_view}
use Rattle.hv_world.specs.Names.{names, place_in}
use Rattle.hv_world.proofs.RepeatLemmas.{repeats_next}
use Rattle.hv_world.proofs.names.repeated_word.Goals as goal

pub loop-place-preserved : goal.loop-place-preserved
loop-place-preserved c =
    let l = c.loop-place in
    let word = c.index-words-place.result in
    repeats_next word_view c.args.kind c.args.side c.args.words.now l.place word c.eq-is_first.result l.found c.fault_if-fault.result c.earlier-found.result _
    (omega arith) c.index-words-place.is
    (c.eq-is_first.ensures ∙ ap (λ o. option_eq nat_eq o (Some l.place)) (c.place_behind-first.ensures ∙ ap (λ p. p (text_of c.name.result)) c.requires ∙ ap (place_in (names (map word_view c.args.words.now))) c.name.ensures))
    c.fault_if-fault.ensures c.earlier-found.ensures l.invariant

use Rattle.std.proofs.Common.{◌≡◌, nat_eq, Some, ap, sym, ◌∙◌, arith}
use Rattle.std.specs.Option.{option_eq}
use Rattle.hv_text.specs.Names.{text_of}
use Rattle.hv_world.specs.Names.{place_in, repeated}
use Rattle.hv_world.specs.Faults.{faults_at, least, fault_if}
use Rattle.hv_world.proofs.RepeatLemmas.{repeats_next, word_of, typed_words_are, names_are}
use Rattle.hv_world.proofs.names.repeated_parameter.Goals as goal

pub loop-place-init : goal.loop-place-init
loop-place-init c = ap (λ ws. least (faults_at c.args.kind c.args.side (repeated ws))) (sym (typed_words_are c.args.list.now))

pub loop-place-preserved : goal.loop-place-preserved
loop-place-preserved c =
    let l = c.loop-place in
    let variable = c.index-list-place.result in
    let said : text_of c.name.result ≡ (word_of variable).text = c.name.ensures ∙ ap (λ w. w.text) c.name-word.ensures in
    repeats_next word_of c.args.kind c.args.side c.args.list.now l.place variable c.eq-is_first.result l.found c.fault_if-fault.result c.earlier-found.result _
    (omega arith) c.index-list-place.is
    (c.eq-is_first.ensures
    ∙ ap (λ o. option_eq nat_eq o (Some l.place)) (c.place_behind-first.ensures ∙ ap (λ p. p (text_of c.name.result)) c.requires ∙ (λ j. place_in (sym (names_are c.args.list.now) j) (said j))))
    (c.fault_if-fault.ensures ∙ ap (fault_if _ c.args.kind c.args.side) c.name-word.ensures) c.earlier-found.ensures l.invariant

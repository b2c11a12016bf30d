use Rattle.std.proofs.Common.{◌≡◌, ◌∙◌, [], ◌∷◌, ◌++◌, ◌+◌, suc, map, take, drop, get_or, sym, ap, ap₂, arith}
use Rattle.std.specs.List.{list_all}
use Rattle.std.proofs.Math.Seq.{drop-cons}
use Rattle.std.proofs.lemmas.List.{map-append}
use Rattle.hv_lists.proofs.Bools.{both_true}
use Rattle.hv_lists.proofs.Places.{take_one}
use Rattle.hv_text.specs.declared.span.Span.{Span}
use Rattle.hv_syntax.specs.Views.{word_view, word_in}
use Rattle.hv_syntax.specs.inside.Places.{has_word}
use Rattle.hv_syntax.proofs.init.by_place.fill_words.Goals as goal

pub at-requires : goal.at-requires
at-requires c =
    let l = c.loop-place in
    let text = c.args.text.now in
    let places = c.args.places.now in
    let none : Span = record { start = 0; past = 0 } in
    (both_true _ _ (sym (ap (list_all (has_word text)) (drop-cons places l.place-index none c.loop-place-test.true)) ∙ l.invariant.1)).0

pub loop-place-preserved : goal.loop-place-preserved
loop-place-preserved c =
    let l = c.loop-place in
    let text = c.args.text.now in
    let places = c.args.places.now in
    let i = l.place-index in
    let none : Span = record { start = 0; past = 0 } in
    let one = get_or places i none in
    let next : suc i ≡ i + 1 = omega arith in (
      ap (map word_view) c.in_ok-push.ensures.items
          ∙ map-append word_view l.room.items (c.at.result ∷ [])
          ∙ ap₂ (λ ws w. ws ++ w ∷ []) l.invariant.0 c.at.ensures
          ∙ sym (ap (map (word_in text)) (take_one places i none c.loop-place-test.true) ∙ map-append (word_in text) (take i places) (one ∷ [])),
      ap (λ n. list_all (has_word text) (drop n places)) (sym next)
          ∙ (both_true _ _ (sym (ap (list_all (has_word text)) (drop-cons places i none c.loop-place-test.true)) ∙ l.invariant.1)).1,
    )

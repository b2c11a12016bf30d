use Rattle.std.proofs.Common.{◌≡◌, ◌∙◌, length, map, Some, sym, ap, ap₂, arith}
use Rattle.std.specs.Prelude.{option_map}
use Rattle.std.specs.List.{list_all}
use Rattle.std.proofs.lemmas.List.{length-map}
use Rattle.std.proofs.lemmas.Option.{slice_get-map}
use Rattle.hv_lists.proofs.Bools.{both_true}
use Rattle.hv_syntax.specs.Values.{literal, atom_with}
use Rattle.hv_syntax.specs.Views.{constant_view}
use Rattle.hv_syntax.specs.inside.Places.{has_word, have_words}
use Rattle.hv_syntax.specs.ProblemViews.{by_place_view, literal_in}
use Rattle.hv_syntax.proofs.PlaceLemmas.{all_at, words_as_terms}
use Rattle.hv_syntax.proofs.init.by_place.LiteralsByPlace.at.Goals as goal

pub at-requires : goal.at-requires
at-requires c =
    let l = c.args.self.now in
    let many : length (by_place_view l) ≡ length l.literals = length-map l.literals (literal_in l.text.now) in
    omega (arith, many, c.requires)

pub fill_words-requires : goal.fill_words-requires
fill_words-requires c =
    let l = c.args.self.now in
    let text = l.text.now in
    let here = c.at.result in
    (both_true (has_word text here.0.symbol) (list_all (has_word text) here.1.now) (all_at (have_words text) l.literals c.args.place (here.0, here.1.now) l.are_words c.at.ensures)).1

pub at-symbol-requires : goal.at-symbol-requires
at-symbol-requires c =
    let l = c.args.self.now in
    let text = l.text.now in
    let here = c.at.result in
    (both_true (has_word text here.0.symbol) (list_all (has_word text) here.1.now) (all_at (have_words text) l.literals c.args.place (here.0, here.1.now) l.are_words c.at.ensures)).0

pub returns : goal.returns
returns c =
    let l = c.args.self.now in
    let text = l.text.now in
    let here = c.at.result in
    let names : map constant_view c.deref.result.now ≡ map constant_view c.fill_words.new.room.items = ap (map constant_view) c.deref.ensures.value in
    slice_get-map (literal_in text) l.literals c.args.place
    ∙ ap (λ o. option_map (literal_in text) o) c.at.ensures
    ∙ ap₂ (λ w ts. Some (literal here.0.is_positive (atom_with w ts))) (sym c.at-symbol.ensures)
    (sym (words_as_terms text here.1.now c.fill_words.new.room.items c.in_ok-fill_words.ensures) ∙ sym names)
    ∙ ap Some (sym c.new.ensures)

use Rattle.std.proofs.Common.{◌≡◌, ◌∙◌, ◌&&◌, ◌++◌, true, [], ◌∷◌, map, sym, ap, ap₂}
use Rattle.std.specs.List.{list_all}
use Rattle.std.proofs.lemmas.List.{map-append}
use Rattle.hv_syntax.specs.Values.{literal, atom_with, constant}
use Rattle.hv_syntax.specs.Views.{word_in, ground_literal_view}
use Rattle.hv_syntax.specs.declared.init.by_place.PlacedHead.{PlacedHead}
use Rattle.hv_syntax.specs.inside.Places.{have_words, has_word, stands_in}
use Rattle.hv_syntax.specs.ProblemViews.{literal_in}
use Rattle.hv_syntax.proofs.PlaceLemmas.{word_there, words_there, same_word, same_words, all_pushed}
use Rattle.hv_syntax.proofs.init.by_place.LiteralsByPlace.push.Goals as goal

pub invariant_of-self-2 : goal.invariant_of-self-2
invariant_of-self-2 c =
    let l = c.args.self.now in
    let text = l.text.now in
    let said = c.args.literal in
    let head : PlacedHead = record { is_positive = said.is_positive; symbol = said.symbol.span } in
    let places = c.deref.result.now in
    let are : places ≡ map (λ w. w.span) said.names.now = c.deref.ensures.value ∙ c.in_ok-fill_places.ensures in
    let one : stands_in text said.symbol ≡ true = sym c.if-not-stands_in.ensures in
    let all : list_all (stands_in text) said.names.now ≡ true = sym c.if-not-all_stand_in.ensures in
    let have : have_words text (head, places) ≡ true = ap₂ (λ a b. a && b) (word_there text said.symbol one) (ap (list_all (has_word text)) are ∙ words_there text said.names.now all) in
    record { are_words = all_pushed (have_words text) c.push.result l.literals c.push.new.self (head, places) c.push.ensures.put c.push.ensures.same l.are_words have }

pub returns-clause-put : goal.returns-clause-put
returns-clause-put c is =
    let l = c.args.self.now in
    let text = l.text.now in
    let said = c.args.literal in
    let head : PlacedHead = record { is_positive = said.is_positive; symbol = said.symbol.span } in
    let places = c.deref.result.now in
    let are : places ≡ map (λ w. w.span) said.names.now = c.deref.ensures.value ∙ c.in_ok-fill_places.ensures in
    let one : stands_in text said.symbol ≡ true = sym c.if-not-stands_in.ensures in
    let all : list_all (stands_in text) said.names.now ≡ true = sym c.if-not-all_stand_in.ensures in
    let same : literal_in text (head, places) ≡ ground_literal_view said =
    ap₂ (λ w ts. literal said.is_positive (atom_with w ts)) (same_word text said.symbol one)
    (ap (map (λ s. constant (word_in text s))) are ∙ same_words text said.names.now all) in
    ap (map (literal_in text)) c.in_ok-push.ensures.put
    ∙ map-append (literal_in text) l.literals ((head, places) ∷ [])
    ∙ ap (λ x. map (literal_in text) l.literals ++ x ∷ []) same

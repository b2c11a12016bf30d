use Rattle.std.proofs.Common.{◌≡◌, ◌∙◌, ◌∷◌, ◌++◌, [], map, ap, ap₂}
use Rattle.std.proofs.lemmas.List.{append_assoc}
use Rattle.hv_reading.specs.Canonical.{spaced, each, word_expression, term_expression}
use Rattle.hv_syntax.specs.Views.{word_view, constant_view}
use Rattle.hv_reading.proofs.PrintLemmas.{names_as_terms}
use Rattle.hv_reading.proofs.print.formulas.put_ground_atom.Goals as goal

pub returns : goal.returns
returns c =
    let out = c.args.out.now.items in
    let word = (word_view c.symbol.result).text in
    let names = spaced (each word_expression (map word_view c.names.result.now)) in
    let same : names ≡ spaced (each term_expression (map constant_view c.args.literal.names.now)) =
    ap spaced (names_as_terms c.names.result.now ∙ ap (each term_expression) c.names.ensures) in
    c.in_ok-push-2.ensures.items
    ∙ ap (λ bs. bs ++ 41 ∷ []) (c.in_ok-put_words.ensures ∙ ap (λ bs. bs ++ names) (c.in_ok-put_word.ensures ∙ ap (λ bs. bs ++ word) c.in_ok-push.ensures.items))
    ∙ ap (λ bs. bs ++ 41 ∷ []) (append_assoc (out ++ 40 ∷ []) word names)
    ∙ append_assoc (out ++ 40 ∷ []) (word ++ names) (41 ∷ [])
    ∙ append_assoc out (40 ∷ []) ((word ++ names) ++ 41 ∷ [])
    ∙ ap₂ (λ w ns. out ++ 40 ∷ ((w.text ++ ns) ++ 41 ∷ [])) c.symbol.ensures same

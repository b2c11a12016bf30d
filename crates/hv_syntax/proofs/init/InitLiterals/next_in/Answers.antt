use Rattle.std.proofs.Common.{◌≡◌, ◌∙◌, ◌+◌, ◌∷◌, ◌++◌, [], List, map, drop, Some, slice_get, sym, ap, arith}
use Rattle.std.specs.Prelude.{option_map}
use Rattle.std.proofs.lemmas.List.{drop_all}
use Rattle.std.proofs.lemmas.Option.{slice_get-map}
use Rattle.hv_lists.proofs.Places.{left_from}
use Rattle.hv_syntax.specs.Values.{Literal, literal, atom_with}
use Rattle.hv_syntax.specs.Views.{word_view, constant_view, ground_literal_view}
use Rattle.hv_syntax.specs.ProblemViews.{headed_literal, by_place_view}
use Rattle.hv_syntax.proofs.init.InitLiterals.next_in.Goals as goal

pub returns-then-self-len : goal.returns-then-self-len
returns-then-self-len c =
    let it = c.args.self.now in
    let by_words = drop it.next_by_words (map headed_literal it.init.now.by_words) in
    ap (λ ls. ls ++ by_words) (left_from (by_place_view it.init.now.by_place) it.next (ground_literal_view c.in_ok-literal.literal) c.in_ok-literal.ensures)

pub returns-then-self-len-2 : goal.returns-then-self-len-2
returns-then-self-len-2 c =
    let it = c.args.self.now in
    let by_place = by_place_view it.init.now.by_place in
    let literals = it.init.now.by_words in
    let k = it.next_by_words in
    let head = c.at-then-self-len-2.result.0 in
    let names = c.at-then-self-len-2.result.1.now in
    let over : drop it.next by_place ≡ [] = drop_all it.next by_place (omega (arith, c.len.ensures, c.if-self-len.false)) in
    let same : c.deref.result.now ≡ names = c.deref.ensures.value ∙ c.in_ok-extend_from_slice.ensures.items ∙ ap (λ ws. ws ++ names) c.clear.ensures.items in
    let is : headed_literal (head, names) ≡ ground_literal_view c.new.result =
    sym (c.new.ensures ∙ ap (λ ws. literal head.is_positive (atom_with (word_view head.symbol) (map constant_view ws))) same) in
    let here : slice_get (map headed_literal literals) k ≡ Some (ground_literal_view c.new.result) =
    slice_get-map headed_literal literals k ∙ ap (λ o. option_map headed_literal o) c.at-then-self-len-2.ensures ∙ ap Some is in
    ap (λ ls. ls ++ drop k (map headed_literal literals)) over
    ∙ left_from (map headed_literal literals) k (ground_literal_view c.new.result) here
    ∙ sym (ap (λ (ls : List Literal). ground_literal_view c.new.result ∷ (ls ++ drop (k + 1) (map headed_literal literals))) over)

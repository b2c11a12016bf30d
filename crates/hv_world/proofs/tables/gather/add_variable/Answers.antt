use Rattle.std.proofs.Common.{◌≡◌, ◌∷◌, ◌++◌, [], true, map, ap, sym, subst, ◌∙◌}
use Rattle.std.proofs.lemmas.List.{map-append}
use Rattle.hv_syntax.specs.Views.{word_view, variable_view}
use Rattle.hv_world.specs.Names.{names}
use Rattle.hv_world.specs.Eithers.{is_either}
use Rattle.hv_world.specs.inside.Tables.{names_in}
use Rattle.hv_world.specs.inside.Gathers.{lists_in, EndsWith}
use Rattle.hv_world.proofs.GatherLemmas.{gathered_again, gathered_more}
use Rattle.hv_world.proofs.tables.gather.add_variable.Goals as goal

pub returns-then-is_last : goal.returns-then-is_last
returns-then-is_last c =
    let said = c.types-words.ensures in
    let words = map word_view c.types-words.result.now in
    let ends = subst (λ xs. EndsWith (map names_in xs) (names words)) c.deref.ensures.value (c.is_last.ensures c.if-is_last.true) in
    gathered_again (lists_in c.args.lists.now) (variable_view c.args.variable.now) (subst (λ ws. EndsWith (lists_in c.args.lists.now) (names ws)) said ends)

pub returns : goal.returns
returns c =
    let said = c.types-words.ensures in
    let old = lists_in c.args.lists.now in
    let is : is_either (names (variable_view c.args.variable.now).of) ≡ true = ap (λ ws. is_either (names ws)) (sym said) ∙ sym c.is_either.ensures ∙ c.if-not-is_either.false in
    let pushed = ap (map names_in) c.in_ok-push.ensures.items ∙ map-append names_in c.args.lists.now.items (c.in_ok-list.list ∷ []) ∙ ap (λ ns. old ++ ns ∷ []) (c.in_ok-list.ensures ∙ ap names said) in
    gathered_more old (variable_view c.args.variable.now) (lists_in c.push.new.self) is pushed

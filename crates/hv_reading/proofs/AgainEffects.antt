-- The canonical expressions of effects are read as what they are of, places aside.
use Rattle.std.proofs.Common.{◌≡◌, List, [], ◌∷◌, Option, Some, option_map, refl, ap, ◌∙◌, subst}
use Rattle.std.specs.Prelude.{IfSome}
use Rattle.hv_text.specs.Trees.{Tree, word, list, Trees, none, more}
use Rattle.hv_reading.specs.declared.word.Head.{Head}
use Rattle.hv_reading.specs.declared.word.Head.TheVariants as heads
use Rattle.hv_syntax.specs.Values.{Variable, Literal, Effect, no_items, more_items, effect, Item, becomes, for_each}
use Rattle.hv_reading.specs.Words.{head_of}
use Rattle.hv_reading.specs.Spellings.{SpellsLiteral, one_item, a_literal}
use Rattle.hv_reading.specs.inside.Reading.{all_some, tuple}
use Rattle.hv_reading.specs.inside.Formulas.{variables_of, quantified}
use Rattle.hv_reading.specs.inside.Literals.{literal_of}
use Rattle.hv_reading.specs.inside.Effects.{item_for_all, one, item_by, effect_by, item_of, effect_of, each_item, each_effect}
use Rattle.hv_reading.specs.Canonical.{conjunction_or_one, literal_expression, item_expression, item_expressions, effect_expression}
use Rattle.hv_reading.specs.Bare.{bare_literal, bare_effect, bare_item}
use Rattle.hv_reading.proofs.Again.{if_map, if_both, if_some}
use Rattle.hv_reading.proofs.AgainFormulas.{IsListAgain, variables_again, IsLiteralAgain, literal_again}
use Rattle.hv_reading.proofs.PartSpellings.{literal_spelled}
use Rattle.hv_reading.proofs.EffectSpellings.{item_read, effect_read}

-- an item, read as one and as an effect; and an effect behind a `forall`, and by itself
pub record IsItemAgain (i : Item) : Type 0 where
  pub item : item_of (item_expression i) ≡ Some (bare_item i)
  pub alone : effect_of (item_expression i) ≡ Some (one (bare_item i))

abbrev AreItemsAgain : Effect → Type 0
AreItemsAgain no_items = Unit {0}
AreItemsAgain (more_items i e) = IsItemAgain i × AreItemsAgain e

abbrev pub IsEffectAgain : Effect → Type 0
IsEffectAgain e = effect_of (effect_expression e) ≡ Some (bare_effect e)

-- items behind `and`
abbrev bare_items : Effect → List Item
bare_items no_items = []
bare_items (more_items i e) = bare_item i ∷ bare_items e

back : (e : Effect) → effect (bare_items e) ≡ bare_effect e
back no_items = refl
back (more_items i e) = ap (more_items (bare_item i)) (back e)

all_again : (e : Effect) → AreItemsAgain e → all_some (each_item (item_expressions e)) ≡ Some (bare_items e)
all_again no_items h = refl
all_again (more_items i e) h = rw (h.0.item, all_again e h.1) refl

each_again : (e : Effect) → AreItemsAgain e → option_map effect (all_some (each_item (item_expressions e))) ≡ Some (bare_effect e)
each_again e h = ap (option_map effect) (all_again e h) ∙ ap Some (back e)

-- an effect of which one item stands alone
inner_again : (e : Effect) → AreItemsAgain e → effect_of (conjunction_or_one (item_expressions e)) ≡ Some (bare_effect e)
inner_again no_items h = refl
inner_again (more_items i no_items) h = h.0.alone
inner_again (more_items i (more_items j e)) h = each_again (more_items i (more_items j e)) h

whole_again : (e : Effect) → AreItemsAgain e → IsEffectAgain e
whole_again no_items h = refl
whole_again (more_items (becomes l) e) h = each_again (more_items (becomes l) e) h
whole_again (more_items (for_each vs f) e) h = inner_again (more_items (for_each vs f) e) h

literal_item_again : (l : Literal) → IsLiteralAgain l → IsItemAgain (becomes l)
literal_item_again l h =
    let t : Tree = literal_expression l in
    let spelled : SpellsLiteral t (bare_literal l) = subst (λ o. IfSome o (SpellsLiteral t)) h (literal_spelled t) in
    record { item = item_read t (becomes (bare_literal l)) (a_literal t (bare_literal l) spelled); alone = effect_read t (one (becomes (bare_literal l))) (one_item t (becomes (bare_literal l)) (a_literal t (bare_literal l) spelled)) }

abbrev IsPairAgain : List Variable × Effect → Type 0
IsPairAgain p = IsListAgain p.0 × AreItemsAgain p.1

forall_again : (p : List Variable × Effect) → IsPairAgain p → IsItemAgain (item_for_all p)
forall_again p h = record { item = rw (h.0, inner_again p.1 h.1) refl; alone = rw (h.0, inner_again p.1 h.1) refl }

abbrev AllItemsAgain : List (Option Item) → Type 0
AllItemsAgain [] = Unit {0}
AllItemsAgain (q ∷ qs) = IfSome q IsItemAgain × AllItemsAgain qs

abbrev AllEffectsAgain : List (Option Effect) → Type 0
AllEffectsAgain [] = Unit {0}
AllEffectsAgain (p ∷ ps) = IfSome p AreItemsAgain × AllEffectsAgain ps

abbrev AreOfItems : List Item → Type 0
AreOfItems xs = AreItemsAgain (effect xs)

items_again : (qs : List (Option Item)) → AllItemsAgain qs → IfSome (all_some qs) AreOfItems
items_again [] h = tt
items_again (q ∷ qs) h = if_both ◌∷◌ IsItemAgain AreOfItems AreOfItems (λ i xs k l. (k, l)) q (all_some qs) h.0 (items_again qs h.1)

quantified_again : (ts : Trees) (ps : List (Option Effect)) → AllEffectsAgain ps → IfSome (quantified ts ps) IsPairAgain
quantified_again none ps h = tt
quantified_again (more t ts) [] h = tt
quantified_again (more t ts) (p ∷ []) h = tt
quantified_again (more t ts) (p ∷ q ∷ []) h = if_both tuple IsListAgain AreItemsAgain IsPairAgain (λ vs e k l. (k, l)) (variables_of t) q (variables_again t) h.1.0
quantified_again (more t ts) (p ∷ q ∷ r ∷ ps) h = tt

item_by_again : (h : Head) (t : Tree) (ts : Trees) (ps : List (Option Effect)) → AllEffectsAgain ps → IfSome (item_by h t ts ps) IsItemAgain
item_by_again heads.Forall t ts ps k = if_map item_for_all IsPairAgain IsItemAgain forall_again (quantified ts ps) (quantified_again ts ps k)
item_by_again _ t ts ps k = if_map becomes IsLiteralAgain IsItemAgain literal_item_again (literal_of t) (literal_again t)

alone_again : (h : Head) (t : Tree) (ts : Trees) (ps : List (Option Effect)) → AllEffectsAgain ps → IfSome (option_map one (item_by h t ts ps)) AreItemsAgain
alone_again h t ts ps k = if_map one IsItemAgain AreItemsAgain (λ i l. (l, tt)) (item_by h t ts ps) (item_by_again h t ts ps k)

effect_by_again : (h : Head) (t : Tree) (ts : Trees) (qs : List (Option Item)) (ps : List (Option Effect)) → AllItemsAgain qs → AllEffectsAgain ps → IfSome (effect_by h t ts qs ps) AreItemsAgain
effect_by_again heads.And t ts qs ps j k = if_map effect AreOfItems AreItemsAgain (λ xs l. l) (all_some qs) (items_again qs j)
effect_by_again heads.Or t ts qs ps j k = alone_again heads.Or t ts ps k
effect_by_again heads.Not t ts qs ps j k = alone_again heads.Not t ts ps k
effect_by_again heads.Imply t ts qs ps j k = alone_again heads.Imply t ts ps k
effect_by_again heads.Forall t ts qs ps j k = alone_again heads.Forall t ts ps k
effect_by_again heads.Exists t ts qs ps j k = alone_again heads.Exists t ts ps k
effect_by_again heads.When t ts qs ps j k = alone_again heads.When t ts ps k
effect_by_again heads.Equal t ts qs ps j k = alone_again heads.Equal t ts ps k
effect_by_again heads.Symbol t ts qs ps j k = alone_again heads.Symbol t ts ps k
effect_by_again heads.Other t ts qs ps j k = alone_again heads.Other t ts ps k

mutual
  effect_good : (t : Tree) → IfSome (effect_of t) AreItemsAgain
  effect_good (word w s) = tt
  effect_good (list none s) = tt
  effect_good (list (more (word w p) ts) s) = effect_by_again (head_of w) (list (more (word w p) ts) s) ts (each_item ts) (each_effect ts) (items_good ts) (effects_good ts)
  effect_good (list (more (list us p) ts) s) = tt

  item_good : (t : Tree) → IfSome (item_of t) IsItemAgain
  item_good (word w s) = tt
  item_good (list none s) = tt
  item_good (list (more (word w p) ts) s) = item_by_again (head_of w) (list (more (word w p) ts) s) ts (each_effect ts) (effects_good ts)
  item_good (list (more (list us p) ts) s) = tt

  items_good : (ts : Trees) → AllItemsAgain (each_item ts)
  items_good none = tt
  items_good (more t ts) = (item_good t, items_good ts)

  effects_good : (ts : Trees) → AllEffectsAgain (each_effect ts)
  effects_good none = tt
  effects_good (more t ts) = (effect_good t, effects_good ts)

pub effect_again : (t : Tree) → IfSome (effect_of t) IsEffectAgain
effect_again t = if_some AreItemsAgain IsEffectAgain whole_again (effect_of t) (effect_good t)

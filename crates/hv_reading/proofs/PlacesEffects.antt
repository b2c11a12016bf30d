-- What is read of effects does not look at places.
use Rattle.std.proofs.Common.{◌≡◌, List, [], ◌∷◌, map, Option, option_map, refl, sym, ap, ◌∙◌}
use Rattle.hv_text.specs.Trees.{Tree, word, list, Trees, none, more}
use Rattle.hv_text.specs.Shapes.{bare_tree, bare_trees}
use Rattle.hv_reading.specs.declared.word.Head.{Head}
use Rattle.hv_reading.specs.declared.word.Head.TheVariants as heads
use Rattle.hv_reading.specs.Words.{head_of}
use Rattle.hv_syntax.specs.Values.{Effect, effect, Item, becomes}
use Rattle.hv_reading.specs.inside.Reading.{all_some}
use Rattle.hv_reading.specs.inside.Formulas.{quantified}
use Rattle.hv_reading.specs.inside.Literals.{literal_of}
use Rattle.hv_reading.specs.inside.Effects.{item_for_all, one, item_by, effect_by, item_of, effect_of, each_item, each_effect}
use Rattle.hv_reading.specs.Bare.{bare_literal, bare_effect, bare_item}
use Rattle.hv_reading.proofs.Places.{Same, same_map, EachSame, all_same, bare_pair_of, quantified_same, literal_same}

bare_items : (xs : List Item) → bare_effect (effect xs) ≡ effect (map bare_item xs)
bare_items [] = refl
bare_items (x ∷ xs) = rw (bare_items xs) refl

items_alike : (xs ys : List Item) → map bare_item xs ≡ map bare_item ys → bare_effect (effect xs) ≡ bare_effect (effect ys)
items_alike xs ys e = bare_items xs ∙ ap effect e ∙ sym (bare_items ys)

item_by_same : (h : Head) (t : Tree) (ts : Trees) (ps qs : List (Option Effect)) → EachSame bare_effect ps qs → Same bare_item (item_by h (bare_tree t) (bare_trees ts) ps) (item_by h t ts qs)
item_by_same heads.Forall t ts ps qs h =
    same_map item_for_all item_for_all (bare_pair_of bare_effect) bare_item (λ x y e. ap item_for_all e) (quantified (bare_trees ts) ps) (quantified ts qs) (quantified_same bare_effect ts ps qs h)
item_by_same _ t ts ps qs h = same_map becomes becomes bare_literal bare_item (λ x y e. ap becomes e) (literal_of (bare_tree t)) (literal_of t) (literal_same t)

alone_same : (h : Head) (t : Tree) (ts : Trees) (ps qs : List (Option Effect)) → EachSame bare_effect ps qs → Same bare_effect (option_map one (item_by h (bare_tree t) (bare_trees ts) ps)) (option_map one (item_by h t ts qs))
alone_same h t ts ps qs k = same_map one one bare_item bare_effect (λ x y e. ap one e) (item_by h (bare_tree t) (bare_trees ts) ps) (item_by h t ts qs) (item_by_same h t ts ps qs k)

effect_by_same : (h : Head) (t : Tree) (ts : Trees) (xs ys : List (Option Item)) (ps qs : List (Option Effect)) → EachSame bare_item xs ys → EachSame bare_effect ps qs
    → Same bare_effect (effect_by h (bare_tree t) (bare_trees ts) xs ps) (effect_by h t ts ys qs)
effect_by_same heads.And t ts xs ys ps qs h k = same_map effect effect (map bare_item) bare_effect items_alike (all_some xs) (all_some ys) (all_same bare_item xs ys h)
effect_by_same heads.Or t ts xs ys ps qs h k = alone_same heads.Or t ts ps qs k
effect_by_same heads.Not t ts xs ys ps qs h k = alone_same heads.Not t ts ps qs k
effect_by_same heads.Imply t ts xs ys ps qs h k = alone_same heads.Imply t ts ps qs k
effect_by_same heads.Forall t ts xs ys ps qs h k = alone_same heads.Forall t ts ps qs k
effect_by_same heads.Exists t ts xs ys ps qs h k = alone_same heads.Exists t ts ps qs k
effect_by_same heads.When t ts xs ys ps qs h k = alone_same heads.When t ts ps qs k
effect_by_same heads.Equal t ts xs ys ps qs h k = alone_same heads.Equal t ts ps qs k
effect_by_same heads.Symbol t ts xs ys ps qs h k = alone_same heads.Symbol t ts ps qs k
effect_by_same heads.Other t ts xs ys ps qs h k = alone_same heads.Other t ts ps qs k

mutual
  effect_read : (t : Tree) → Same bare_effect (effect_of (bare_tree t)) (effect_of t)
  effect_read (word w s) = refl
  effect_read (list none s) = refl
  effect_read (list (more (word w p) ts) s) =
      effect_by_same (head_of w) (list (more (word w p) ts) s) ts (each_item (bare_trees ts)) (each_item ts) (each_effect (bare_trees ts)) (each_effect ts) (items_read ts) (effects_read ts)
  effect_read (list (more (list us p) ts) s) = refl

  item_read : (t : Tree) → Same bare_item (item_of (bare_tree t)) (item_of t)
  item_read (word w s) = refl
  item_read (list none s) = refl
  item_read (list (more (word w p) ts) s) = item_by_same (head_of w) (list (more (word w p) ts) s) ts (each_effect (bare_trees ts)) (each_effect ts) (effects_read ts)
  item_read (list (more (list us p) ts) s) = refl

  items_read : (ts : Trees) → EachSame bare_item (each_item (bare_trees ts)) (each_item ts)
  items_read none = tt
  items_read (more t ts) = (item_read t, items_read ts)

  effects_read : (ts : Trees) → EachSame bare_effect (each_effect (bare_trees ts)) (each_effect ts)
  effects_read none = tt
  effects_read (more t ts) = (effect_read t, effects_read ts)

pub effect_same : (t : Tree) → Same bare_effect (effect_of (bare_tree t)) (effect_of t)
effect_same t = effect_read t

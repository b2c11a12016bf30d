-- How the code reads: the grammar of effects.
use Rattle.std.specs.Prelude.{List, [], ◌∷◌, Option, Some, None, option_map}
use Rattle.hv_text.specs.Trees.{Tree, word, list, Trees, none, more}
use Rattle.hv_reading.specs.declared.word.Head.{Head}
use Rattle.hv_reading.specs.declared.word.Head.TheVariants as heads
use Rattle.hv_reading.specs.Words.{head_of}
use Rattle.hv_reading.specs.inside.Reading.{all_some}
use Rattle.hv_syntax.specs.Values.{Variable, Effect, no_items, more_items, effect, Item, becomes, for_each}
use Rattle.hv_reading.specs.inside.Formulas.{quantified}
use Rattle.hv_reading.specs.inside.Literals.{literal_of}

-- an effect for all objects of the types of these variables
abbrev pub item_for_all : List Variable × Effect → Item
item_for_all p = for_each p.0 p.1

-- an effect of this item alone
abbrev pub one : Item → Effect
one i = more_items i no_items

-- an item e that a word heads: ts are the members behind it, and ps what these spell as effects
abbrev pub item_by : Head → Tree → Trees → List (Option Effect) → Option Item
item_by heads.Forall e ts ps = option_map item_for_all (quantified ts ps)
item_by _ e ts ps = option_map becomes (literal_of e)

-- an effect e that a word heads: ts are the members behind it, qs what these spell as items, and ps
-- as effects
abbrev pub effect_by : Head → Tree → Trees → List (Option Item) → List (Option Effect)
    → Option Effect
effect_by heads.And e ts qs ps = option_map effect (all_some qs)
effect_by h e ts qs ps = option_map one (item_by h e ts ps)

-- the effect and the item that an expression spells
abbrev mutual
  pub effect_of : Tree → Option Effect
  effect_of (word w s) = None
  effect_of (list none s) = Some no_items
  effect_of (list (more (word w p) ts) s) =
      effect_by (head_of w) (list (more (word w p) ts) s) ts (each_item ts) (each_effect ts)
  effect_of (list (more (list us p) ts) s) = None

  pub item_of : Tree → Option Item
  item_of (word w s) = None
  item_of (list none s) = None
  item_of (list (more (word w p) ts) s) =
      item_by (head_of w) (list (more (word w p) ts) s) ts (each_effect ts)
  item_of (list (more (list us p) ts) s) = None

  -- what each expression spells as an item
  pub each_item : Trees → List (Option Item)
  each_item none = []
  each_item (more t ts) = item_of t ∷ each_item ts

  -- what each expression spells as an effect
  pub each_effect : Trees → List (Option Effect)
  each_effect none = []
  each_effect (more t ts) = effect_of t ∷ each_effect ts

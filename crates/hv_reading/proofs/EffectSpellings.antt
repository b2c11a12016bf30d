-- What the table spells of effects is what is read.
use Rattle.std.proofs.Common.{◌≡◌, ℕ, List, [], ◌∷◌, Some, ◌↔◌, option_map, refl, ap, ◌∙◌}
use Rattle.std.specs.Prelude.{IfSome}
use Rattle.hv_text.specs.Trees.{Tree, word, list, Trees, none, more}
use Rattle.hv_text.specs.declared.span.Span.{Span}
use Rattle.hv_reading.specs.declared.word.Head.{Head}
use Rattle.hv_reading.specs.declared.word.Head.TheVariants as heads
use Rattle.hv_reading.specs.Words.{head_of}
use Rattle.hv_reading.specs.inside.Reading.{both, all_some, tuple}
use Rattle.hv_syntax.specs.Values.{Variable, Literal, Effect, no_items, more_items, effect, Item, becomes}
use Rattle.hv_reading.specs.inside.Formulas.{variables_of}
use Rattle.hv_reading.specs.inside.Literals.{literal_of}
use Rattle.hv_reading.specs.inside.Effects.{item_for_all, one, item_by, effect_by, item_of, effect_of, each_item, each_effect}
use Rattle.hv_reading.specs.Spellings.{an_atom, SpellsVariables, SpellsLiteral, a_positive, a_negative, SpellsEffect, no_effect, one_item, all_items, SpellsItem, a_literal, a_forall, SpellItems, no_more_items, one_more_item}
use Rattle.hv_reading.proofs.SpellingLemmas.{if_map, if_both, agree, variables_read, variables_spelled}
use Rattle.hv_reading.proofs.PartSpellings.{literal_read, literal_spelled}
use Rattle.hv_reading.proofs.EffectLemmas.{as_literal, as_item}

-- from the table to the reading
abbrev list_of : Effect → List Item
list_of no_items = []
list_of (more_items i e) = i ∷ list_of e

back : (e : Effect) → effect (list_of e) ≡ e
back no_items = refl
back (more_items i e) = ap (more_items i) (back e)

literal_item : (t : Tree) (l : Literal) → SpellsLiteral t l → item_of t ≡ option_map becomes (literal_of t)
literal_item _ _ (a_positive _ _ (an_atom w p s ts xs e h)) =
    as_literal (head_of w) (λ c. let clash : heads.Forall ≡ heads.Symbol = c ∙ e in cc) (list (more (word w p) ts) s) ts (each_effect ts)
literal_item _ _ (a_negative w p s t a e h) =
    as_literal (head_of w) (λ c. let clash : heads.Forall ≡ heads.Not = c ∙ e in cc) (list (more (word w p) (more t none)) s) (more t none) (each_effect (more t none))

-- an item does not stand behind `and`
item_alone : (t : Tree) (i : Item) → SpellsItem t i → effect_of t ≡ option_map one (item_of t)
item_alone _ _ (a_literal _ _ (a_positive _ _ (an_atom w p s ts xs e h))) = as_item (head_of w) (λ c. let clash : heads.And ≡ heads.Symbol = c ∙ e in cc) (list (more (word w p) ts) s) ts
item_alone _ _ (a_literal _ _ (a_negative w p s t a e h)) = as_item (head_of w) (λ c. let clash : heads.And ≡ heads.Not = c ∙ e in cc) (list (more (word w p) (more t none)) s) (more t none)
item_alone _ _ (a_forall w p s t u xs x e h k) = as_item (head_of w) (λ c. let clash : heads.And ≡ heads.Forall = c ∙ e in cc) (list (more (word w p) (more t (more u none))) s) (more t (more u none))

mutual
  effect_is_read : (t : Tree) (x : Effect) → SpellsEffect t x → effect_of t ≡ Some x
  effect_is_read _ _ (no_effect s) = refl
  effect_is_read _ _ (one_item t i h) = item_alone t i h ∙ ap (option_map one) (item_is_read t i h)
  effect_is_read _ _ (all_items w p s ts x e h) = rw (e, items_are_read ts x h) (ap Some (back x))

  item_is_read : (t : Tree) (i : Item) → SpellsItem t i → item_of t ≡ Some i
  item_is_read _ _ (a_literal t l h) = literal_item t l h ∙ ap (option_map becomes) (literal_read t l h)
  item_is_read _ _ (a_forall w p s t u xs x e h k) = rw (e, variables_read t xs h, effect_is_read u x k) refl

  items_are_read : (ts : Trees) (x : Effect) → SpellItems ts x → all_some (each_item ts) ≡ Some (list_of x)
  items_are_read _ _ no_more_items = refl
  items_are_read _ _ (one_more_item t ts i x h k) = rw (item_is_read t i h, items_are_read ts x k) refl

-- from the reading to the table
abbrev ItemsSpelled : Trees → Type 0
ItemsSpelled none = Unit {0}
ItemsSpelled (more t ts) = IfSome (item_of t) (SpellsItem t) × ItemsSpelled ts

abbrev EffectsSpelled : Trees → Type 0
EffectsSpelled none = Unit {0}
EffectsSpelled (more t ts) = IfSome (effect_of t) (SpellsEffect t) × EffectsSpelled ts

all_spelled : (ts : Trees) → ItemsSpelled ts → IfSome (all_some (each_item ts)) (λ xs. SpellItems ts (effect xs))
all_spelled none k = no_more_items
all_spelled (more t ts) k =
    if_both ◌∷◌ (SpellsItem t) (λ xs. SpellItems ts (effect xs)) (λ xs. SpellItems (more t ts) (effect xs)) (λ i xs p q. one_more_item t ts i (effect xs) p q)
    (item_of t) (all_some (each_item ts)) k.0 (all_spelled ts k.1)

literal_item_spelled : (t : Tree) → IfSome (option_map becomes (literal_of t)) (SpellsItem t)
literal_item_spelled t = if_map becomes (SpellsLiteral t) (SpellsItem t) (λ l h. a_literal t l h) (literal_of t) (literal_spelled t)

abbrev IsQuantified : Tree → Tree → List Variable × Effect → Type 0
IsQuantified t u (xs, x) = SpellsVariables t xs × SpellsEffect u x

quantified_spelled : (t u : Tree) → IfSome (effect_of u) (SpellsEffect u) → IfSome (both tuple (variables_of t) (effect_of u)) (IsQuantified t u)
quantified_spelled t u k =
    if_both tuple (SpellsVariables t) (SpellsEffect u) (IsQuantified t u) (λ xs x p q. (p, q)) (variables_of t) (effect_of u) (variables_spelled t) k

item_if : (h : Head) (w : List ℕ) (p s : Span) → head_of w ≡ h → (ts : Trees) → EffectsSpelled ts
    → IfSome (item_by h (list (more (word w p) ts) s) ts (each_effect ts)) (SpellsItem (list (more (word w p) ts) s))
item_if heads.Forall w p s e none k = tt
item_if heads.Forall w p s e (more t none) k = tt
item_if heads.Forall w p s e (more t (more u none)) k =
    if_map item_for_all (IsQuantified t u) (SpellsItem (list (more (word w p) (more t (more u none))) s)) (λ q h. a_forall w p s t u q.0 q.1 e h.0 h.1) (both tuple (variables_of t) (effect_of u))
    (quantified_spelled t u k.1.0)
item_if heads.Forall w p s e (more t (more u (more v ts))) k = tt
item_if _ w p s e ts k = literal_item_spelled (list (more (word w p) ts) s)

alone_if : (h : Head) (w : List ℕ) (p s : Span) → head_of w ≡ h → (ts : Trees) → EffectsSpelled ts
    → IfSome (option_map one (item_by h (list (more (word w p) ts) s) ts (each_effect ts))) (SpellsEffect (list (more (word w p) ts) s))
alone_if h w p s e ts k =
    if_map one (SpellsItem (list (more (word w p) ts) s)) (SpellsEffect (list (more (word w p) ts) s)) (λ i l. one_item (list (more (word w p) ts) s) i l)
    (item_by h (list (more (word w p) ts) s) ts (each_effect ts)) (item_if h w p s e ts k)

effect_if : (h : Head) (w : List ℕ) (p s : Span) → head_of w ≡ h → (ts : Trees) → ItemsSpelled ts → EffectsSpelled ts
    → IfSome (effect_by h (list (more (word w p) ts) s) ts (each_item ts) (each_effect ts)) (SpellsEffect (list (more (word w p) ts) s))
effect_if heads.And w p s e ts j k =
    if_map effect (λ xs. SpellItems ts (effect xs)) (SpellsEffect (list (more (word w p) ts) s)) (λ xs h. all_items w p s ts (effect xs) e h) (all_some (each_item ts)) (all_spelled ts j)
effect_if heads.Or w p s e ts j k = alone_if heads.Or w p s e ts k
effect_if heads.Not w p s e ts j k = alone_if heads.Not w p s e ts k
effect_if heads.Imply w p s e ts j k = alone_if heads.Imply w p s e ts k
effect_if heads.Forall w p s e ts j k = alone_if heads.Forall w p s e ts k
effect_if heads.Exists w p s e ts j k = alone_if heads.Exists w p s e ts k
effect_if heads.When w p s e ts j k = alone_if heads.When w p s e ts k
effect_if heads.Equal w p s e ts j k = alone_if heads.Equal w p s e ts k
effect_if heads.Symbol w p s e ts j k = alone_if heads.Symbol w p s e ts k
effect_if heads.Other w p s e ts j k = alone_if heads.Other w p s e ts k

mutual
  effect_is_spelled : (t : Tree) → IfSome (effect_of t) (SpellsEffect t)
  effect_is_spelled (word w s) = tt
  effect_is_spelled (list none s) = no_effect s
  effect_is_spelled (list (more (word w p) ts) s) = effect_if (head_of w) w p s refl ts (items_are_spelled ts) (effects_are_spelled ts)
  effect_is_spelled (list (more (list us p) ts) s) = tt

  item_is_spelled : (t : Tree) → IfSome (item_of t) (SpellsItem t)
  item_is_spelled (word w s) = tt
  item_is_spelled (list none s) = tt
  item_is_spelled (list (more (word w p) ts) s) = item_if (head_of w) w p s refl ts (effects_are_spelled ts)
  item_is_spelled (list (more (list us p) ts) s) = tt

  items_are_spelled : (ts : Trees) → ItemsSpelled ts
  items_are_spelled none = tt
  items_are_spelled (more t ts) = (item_is_spelled t, items_are_spelled ts)

  effects_are_spelled : (ts : Trees) → EffectsSpelled ts
  effects_are_spelled none = tt
  effects_are_spelled (more t ts) = (effect_is_spelled t, effects_are_spelled ts)

pub item_read : (t : Tree) (i : Item) → SpellsItem t i → item_of t ≡ Some i
item_read = item_is_read

pub effect_read : (t : Tree) (x : Effect) → SpellsEffect t x → effect_of t ≡ Some x
effect_read = effect_is_read

pub effect_spelled : (t : Tree) → IfSome (effect_of t) (SpellsEffect t)
effect_spelled = effect_is_spelled

pub effect_table : (t : Tree) (x : Effect) → SpellsEffect t x ↔ (effect_of t ≡ Some x)
effect_table = agree effect_of SpellsEffect effect_read effect_spelled

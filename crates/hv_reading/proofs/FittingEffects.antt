-- The same of literals and effects.
use Rattle.std.proofs.Common.{ℕ, zero, suc, refl}
use Rattle.hv_text.specs.Trees.{Tree, word, list, Trees, none, more}
use Rattle.hv_text.specs.Shapes.{IsTidy}
use Rattle.hv_syntax.specs.Values.{Literal, Effect, no_items, more_items, Item, becomes, for_each}
use Rattle.hv_reading.specs.Spellings.{SpellsLiteral, a_positive, a_negative, SpellsEffect, no_effect, one_item, all_items, SpellsItem, a_literal, a_forall, SpellItems, no_more_items, one_more_item}
use Rattle.hv_reading.specs.Canonical.{conjunction_or_one, literal_expression, item_expression, item_expressions, effect_expression}
use Rattle.hv_reading.proofs.Fitting.{Fits, AllFit, is_tidy, fits_more, conjunction_fits, atom_fits, fact_fits, variables_fit}

pub literal_fits : (n : ℕ) (t : Tree) (l : Literal) → SpellsLiteral t l → IsTidy t → Fits (literal_expression l) (suc (suc n))
literal_fits n _ _ (a_positive t a k) h = atom_fits (suc n) t a k h
literal_fits n _ _ (a_negative w p s t a e k) h = ((refl, refl), (atom_fits n t a k h.1.0, tt))

-- literals nest as deep as what says them, and so do items and the effects behind a `forall`
exact_literal : (t : Tree) (l : Literal) → SpellsLiteral t l → (n : ℕ) → Fits t n → Fits (literal_expression l) n
exact_literal _ _ (a_positive t a k) n h = fact_fits t a k n h
exact_literal _ _ (a_negative w p s t a e k) zero h = absurd h
exact_literal _ _ (a_negative w p s t a e k) (suc n) h = ((refl, refl), (fact_fits t a k n h.1.0, tt))

conjunction_or_one_fits : (ts : Trees) (n : ℕ) → AllFit ts n → Fits (conjunction_or_one ts) (suc n)
conjunction_or_one_fits none n h = tt
conjunction_or_one_fits (more t none) n h = fits_more t n h.0
conjunction_or_one_fits (more t (more u ts)) n h = ((refl, refl), h)

mutual
  item_fits : (t : Tree) (i : Item) → SpellsItem t i → (n : ℕ) → Fits t n → Fits (item_expression i) n
  item_fits _ _ (a_literal t l k) n h = exact_literal t l k n h
  item_fits _ _ (a_forall w p s t u xs x e k l) zero h = absurd h
  item_fits _ _ (a_forall w p s t u xs x e k l) (suc n) h = ((refl, refl), (variables_fit t xs k n h.1.0, (inner_fits u x l n h.1.1.0, tt)))

  inner_fits : (t : Tree) (x : Effect) → SpellsEffect t x → (n : ℕ) → Fits t n → Fits (conjunction_or_one (item_expressions x)) n
  inner_fits _ _ (no_effect s) zero h = absurd h
  inner_fits _ _ (no_effect s) (suc n) h = tt
  inner_fits _ _ (one_item t i k) n h = item_fits t i k n h
  inner_fits _ _ (all_items w p s ts x e k) zero h = absurd h
  inner_fits _ _ (all_items w p s ts x e k) (suc n) h = conjunction_or_one_fits (item_expressions x) n (items_fit ts x k n h.1)

  items_fit : (ts : Trees) (x : Effect) → SpellItems ts x → (n : ℕ) → AllFit ts n → AllFit (item_expressions x) n
  items_fit _ _ no_more_items n h = tt
  items_fit _ _ (one_more_item t ts i x k l) n h = (item_fits t i k n h.0, items_fit ts x l n h.1)

-- an effect in a field that has room for a literal behind `and`
module _ (n : ℕ) where
  abbrev within : ℕ
  within = suc (suc (suc n))

  one_fits : (t : Tree) (i : Item) → SpellsItem t i → Fits t within → Fits (effect_expression (more_items i no_items)) within
  one_fits _ _ (a_literal t l k) h = ((refl, refl), (literal_fits n t l k (is_tidy t within h), tt))
  one_fits _ _ (a_forall w p s t u xs x e k l) h = item_fits (list (more (word w p) (more t (more u none))) s) (for_each xs x) (a_forall w p s t u xs x e k l) within h

  all_fit_in : (x : Effect) → AllFit (item_expressions x) (suc (suc n)) → Fits (effect_expression x) within
  all_fit_in no_items h = tt
  all_fit_in (more_items (becomes l) x) h = conjunction_fits (item_expressions (more_items (becomes l) x)) (suc (suc n)) h
  all_fit_in (more_items (for_each vs y) x) h = conjunction_or_one_fits (item_expressions (more_items (for_each vs y) x)) (suc (suc n)) h

  pub effect_fits : (t : Tree) (x : Effect) → SpellsEffect t x → Fits t within → Fits (effect_expression x) within
  effect_fits _ _ (no_effect s) h = tt
  effect_fits _ _ (one_item t i k) h = one_fits t i k h
  effect_fits _ _ (all_items w p s ts x e k) h = all_fit_in x (items_fit ts x k (suc (suc n)) h.1)

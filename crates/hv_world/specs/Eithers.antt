-- The types of variables that several names make. Each list of names is a type of its own, above
-- those that it names.
use Rattle.std.specs.Prelude.{ℕ, Bool, false, not, List, [], ◌∷◌, ◌++◌, map, filter, position, Option, Some, None, bytes_eq, codes, if◌then◌else◌}
use Rattle.std.specs.List.{list_any, flat_map}
use Rattle.std.specs.Cmp.Lexicographic.{pointwise}
use Rattle.hv_syntax.specs.Values.{Variable, Formula, Formulas, holds, and, or, imply, forall, exists, equal, no_formulas, more_formulas, Effect, no_items, more_items, Item, becomes, for_each, Method, Action, Domain, Problem}
use Rattle.hv_syntax.specs.Values.{not as negation}
use Rattle.hv_world.specs.Names.{names, is_among}

-- the variables that quantifiers bind, as they stand
abbrev mutual
  pub formula_variables : Formula → List Variable
  formula_variables (holds a) = []
  formula_variables (and fs) = formulas_variables fs
  formula_variables (or fs) = formulas_variables fs
  formula_variables (negation f) = formula_variables f
  formula_variables (imply f g) = formula_variables f ++ formula_variables g
  formula_variables (forall vs f) = vs ++ formula_variables f
  formula_variables (exists vs f) = vs ++ formula_variables f
  formula_variables (equal x y) = []

  pub formulas_variables : Formulas → List Variable
  formulas_variables no_formulas = []
  formulas_variables (more_formulas f fs) = formula_variables f ++ formulas_variables fs

abbrev mutual
  pub effect_variables : Effect → List Variable
  effect_variables no_items = []
  effect_variables (more_items i e) = item_variables i ++ effect_variables e

  pub item_variables : Item → List Variable
  item_variables (becomes l) = []
  item_variables (for_each vs e) = vs ++ effect_variables e

abbrev pub method_variables : Method → List Variable
method_variables m = m.parameters ++ formula_variables m.precondition

abbrev pub action_variables : Action → List Variable
action_variables a = a.parameters ++ formula_variables a.precondition ++ effect_variables a.effect

abbrev pub goal_variables : Option Formula → List Variable
goal_variables None = []
goal_variables (Some f) = formula_variables f

abbrev pub domain_variables : Domain → List Variable
domain_variables d =
    flat_map (λ t. t.parameters) d.tasks ++ flat_map method_variables d.methods
    ++ flat_map action_variables d.actions

abbrev pub problem_variables : Problem → List Variable
problem_variables p = p.htn.parameters ++ goal_variables p.goal

-- the variables of a domain and a problem, but the parameters of predicates, whose
-- types mean nothing
abbrev pub all_variables : Domain → Problem → List Variable
all_variables d p = domain_variables d ++ problem_variables p

-- several names make a type of their own; but with `object` among them they are `object`, since
-- each object is of that
abbrev pub is_either : List (List ℕ) → Bool
is_either [] = false
is_either (n ∷ []) = false
is_either (m ∷ n ∷ ns) = not (is_among (m ∷ n ∷ ns) (codes "object"))

-- the same names in the same order
abbrev pub are_same : List (List ℕ) → List (List ℕ) → Bool
are_same ms ns = pointwise bytes_eq ms ns

abbrev pub is_listed : List (List (List ℕ)) → List (List ℕ) → Bool
is_listed seen ns = list_any (are_same ns) seen

-- these lists, and then the others of those, by first sight
abbrev pub with_lists : List (List (List ℕ)) → List (List (List ℕ)) → List (List (List ℕ))
with_lists seen [] = seen
with_lists seen (ns ∷ others) =
    with_lists (if is_listed seen ns then seen else seen ++ ns ∷ []) others

-- the lists of names that make types of their own, as variables have them
abbrev pub either_lists : List Variable → List (List (List ℕ))
either_lists vs = filter is_either (map (λ v. names v.of) vs)

-- the either types of a domain and a problem: each list of names once, by first sight
abbrev pub either_types : Domain → Problem → List (List (List ℕ))
either_types d p = with_lists [] (either_lists (all_variables d p))

-- the place of an either type; none for names that make no type of their own
abbrev pub either_place : List (List (List ℕ)) → List (List ℕ) → Option ℕ
either_place eithers ns = position (are_same ns) eithers

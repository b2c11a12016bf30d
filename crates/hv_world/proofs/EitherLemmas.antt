-- Where there is no static fault, each type that several names make is above types that are declared.
use Rattle.std.proofs.Common.{◌≡◌, ℕ, suc, ◌+◌, ◌<◌, ◌≤◌, Bool, true, false, List, [], ◌∷◌, ◌++◌, map, length, Option, Some, None, if◌then◌else◌, All, arith}
use Rattle.std.specs.List.{flat_map}
use Rattle.std.proofs.lemmas.List.Elements.{All-nil, All-head, All-tail, All-weaker, All-map, All-append, All-filter, All-push}
use Rattle.hv_lists.proofs.Places.{first_none}
use Rattle.hv_syntax.specs.Values as text
use Rattle.hv_syntax.specs.Values.{WordAt, Variable, Domain, Problem}
use Rattle.hv_world.specs.declared.fault.StaticKind.TheVariants as kinds
use Rattle.hv_world.specs.declared.fault.Side.{Side}
use Rattle.hv_world.specs.declared.fault.Side.TheVariants as sides
use Rattle.hv_world.specs.Names.{names, is_among, number_in}
use Rattle.hv_world.specs.Known.{Known, known_in, variables}
use Rattle.hv_world.specs.Eithers.{formula_variables, formulas_variables, effect_variables, item_variables, method_variables, action_variables, goal_variables, domain_variables, problem_variables, all_variables, is_either, is_listed, with_lists, either_lists}
use Rattle.hv_world.specs.Scopes.{Scope, parameters, inside}
use Rattle.hv_world.specs.StaticRules.{types_faults, type_word_faults, variable_types_faults, variable_faults, formula_faults, all_formula_faults, effect_faults, item_faults, method_faults, action_faults, htn_faults, goal_faults, IsStatic}
use Rattle.hv_world.specs.Worlds.{either_pairs, eithers_pairs}
use Rattle.hv_world.proofs.NoFaults.{last_none, none_of_each, no_fault}
use Rattle.hv_world.proofs.AmongLemmas.{number_within}

-- each name of the type of a variable is declared
abbrev pub IsDeclared : List (List ℕ) → Variable → Type 0
IsDeclared types v = All (λ w. is_among types w.text ≡ true) v.of

abbrev pub AreDeclared : List (List ℕ) → List Variable → Type 0
AreDeclared types vs = All (IsDeclared types) vs

abbrev pub AreNames : List (List ℕ) → List (List ℕ) → Type 0
AreNames types ns = All (λ n. is_among types n ≡ true) ns

module _ (k : Known) (s : Side) where
  words_declared : (ws : List WordAt) → types_faults k s ws ≡ [] → All (λ w. is_among k.types w.text ≡ true) ws
  words_declared ws e =
      All-weaker (λ w. type_word_faults k s w ≡ []) (λ w. is_among k.types w.text ≡ true) (λ w h. no_fault (is_among k.types w.text) kinds.UnknownType s w h) ws
      (none_of_each (type_word_faults k s) ws e)

  pub types_declared : (vs : List Variable) → variable_types_faults k s vs ≡ [] → AreDeclared k.types vs
  types_declared vs e =
      All-weaker (λ v. types_faults k s v.of ≡ []) (IsDeclared k.types) (λ v h. words_declared v.of h) vs (none_of_each (λ v. types_faults k s v.of) vs e)

  pub variables_declared : (vs : List Variable) → variable_faults k s vs ≡ [] → AreDeclared k.types vs
  variables_declared vs e = types_declared vs (first_none _ _ e)

  both : (us vs : List Variable) → AreDeclared k.types us → AreDeclared k.types vs → AreDeclared k.types (us ++ vs)
  both us vs = All-append (IsDeclared k.types) us vs

  none : AreDeclared k.types []
  none = All-nil (IsDeclared k.types)

  mutual
    formula_declared : (scope : Scope) (f : text.Formula) → formula_faults k s scope f ≡ [] → AreDeclared k.types (formula_variables f)
    formula_declared scope (text.holds a) e = none
    formula_declared scope (text.and fs) e = formulas_declared scope fs e
    formula_declared scope (text.or fs) e = formulas_declared scope fs e
    formula_declared scope (text.not f) e = formula_declared scope f e
    formula_declared scope (text.imply f g) e = both _ _ (formula_declared scope f (first_none _ _ e)) (formula_declared scope g (last_none _ _ e))
    formula_declared scope (text.forall vs f) e = both _ _ (variables_declared vs (first_none _ _ e)) (formula_declared (inside scope (variables vs)) f (last_none _ _ e))
    formula_declared scope (text.exists vs f) e = both _ _ (variables_declared vs (first_none _ _ e)) (formula_declared (inside scope (variables vs)) f (last_none _ _ e))
    formula_declared scope (text.equal x y) e = none

    formulas_declared : (scope : Scope) (fs : text.Formulas) → all_formula_faults k s scope fs ≡ [] → AreDeclared k.types (formulas_variables fs)
    formulas_declared scope text.no_formulas e = none
    formulas_declared scope (text.more_formulas f fs) e = both _ _ (formula_declared scope f (first_none _ _ e)) (formulas_declared scope fs (last_none _ _ e))

  mutual
    effect_declared : (scope : Scope) (x : text.Effect) → effect_faults k s scope x ≡ [] → AreDeclared k.types (effect_variables x)
    effect_declared scope text.no_items e = none
    effect_declared scope (text.more_items i x) e = both _ _ (item_declared scope i (first_none _ _ e)) (effect_declared scope x (last_none _ _ e))

    item_declared : (scope : Scope) (i : text.Item) → item_faults k s scope i ≡ [] → AreDeclared k.types (item_variables i)
    item_declared scope (text.becomes l) e = none
    item_declared scope (text.for_each vs x) e = both _ _ (variables_declared vs (first_none _ _ e)) (effect_declared (inside scope (variables vs)) x (last_none _ _ e))

  method_declared : (m : text.Method) → method_faults k s m ≡ [] → AreDeclared k.types (method_variables m)
  method_declared m e =
      let scope = parameters (variables m.parameters) in
      let three = first_none _ _ e in
      both _ _ (variables_declared m.parameters (first_none _ _ (first_none _ _ three))) (formula_declared scope m.precondition (last_none _ _ three))

  action_declared : (a : text.Action) → action_faults k s a ≡ [] → AreDeclared k.types (action_variables a)
  action_declared a e =
      let scope = parameters (variables a.parameters) in
      let two = first_none _ _ e in
      both _ _ (both _ _ (variables_declared a.parameters (first_none _ _ two)) (formula_declared scope a.precondition (last_none _ _ two))) (effect_declared scope a.effect (last_none _ _ e))

  goal_declared : (o : Option text.Formula) → goal_faults k s o ≡ [] → AreDeclared k.types (goal_variables o)
  goal_declared None e = none
  goal_declared (Some f) e = formula_declared (parameters []) f e

  each : {X : Type 0} (f : X → List Variable) (xs : List X) → All (λ x. AreDeclared k.types (f x)) xs → AreDeclared k.types (flat_map f xs)
  each f [] h = none
  each f (x ∷ xs) h = both (f x) (flat_map f xs) (All-head (λ y. AreDeclared k.types (f y)) x xs h) (each f xs (All-tail (λ y. AreDeclared k.types (f y)) x xs h))

  htn_declared : (h : text.Htn) → htn_faults k s h ≡ [] → AreDeclared k.types h.parameters
  htn_declared h e = variables_declared h.parameters (first_none _ _ e)

-- what holds of lists holds of them by sight
pub seen_all : (P : List (List ℕ) → Type 0) (seen xs : List (List (List ℕ))) → All P seen → All P xs → All P (with_lists seen xs)
seen_all P seen [] h g = h
seen_all P seen (x ∷ xs) h g = seen_all P (if is_listed seen x then seen else seen ++ x ∷ []) xs (noted (is_listed seen x)) (All-tail P x xs g)
  where
    noted : (b : Bool) → All P (if b then seen else seen ++ x ∷ [])
    noted true = h
    noted false = All-push P seen x h (All-head P x xs g)

module _ (d : Domain) (p : Problem) where
  abbrev k : Known
  k = known_in d p

  domain_declared : IsStatic d p → AreDeclared k.types (domain_variables d)
  domain_declared static =
      let four = first_none _ _ static.of_domain in
      let three = first_none _ _ four in
      let s = sides.Domain in
      both k s _ _ (both k s _ _
      (each k s (λ t. t.parameters) d.tasks
      (All-weaker (λ t. variable_faults k s t.parameters ≡ []) (λ t. AreDeclared k.types t.parameters) (λ t h. variables_declared k s t.parameters h) d.tasks
      (none_of_each (λ t. variable_faults k s t.parameters) d.tasks (last_none _ _ three))))
      (each k s method_variables d.methods
      (All-weaker (λ m. method_faults k s m ≡ []) (λ m. AreDeclared k.types (method_variables m)) (λ m h. method_declared k s m h) d.methods
      (none_of_each (method_faults k s) d.methods (last_none _ _ four)))))
      (each k s action_variables d.actions
      (All-weaker (λ a. action_faults k s a ≡ []) (λ a. AreDeclared k.types (action_variables a)) (λ a h. action_declared k s a h) d.actions
      (none_of_each (action_faults k s) d.actions (last_none _ _ static.of_domain))))

  problem_declared : IsStatic d p → AreDeclared k.types (problem_variables p)
  problem_declared static =
      let rest = first_none _ _ static.of_problem in
      let s = sides.Problem in
      both k s _ _ (htn_declared k s p.htn (last_none _ _ (first_none _ _ rest))) (goal_declared k s p.goal (last_none _ _ static.of_problem))

  pub all_declared : IsStatic d p → AreDeclared k.types (all_variables d p)
  all_declared static = both k sides.Domain _ _ (domain_declared static) (problem_declared static)

  -- each name of each either type is declared
  pub eithers_declared : IsStatic d p → All (AreNames k.types) k.eithers
  eithers_declared static =
      seen_all (AreNames k.types) [] (either_lists (all_variables d p)) (All-nil (AreNames k.types))
      (All-filter is_either (AreNames k.types) (map (λ v. names v.of) (all_variables d p))
      (All-map (AreNames k.types) (λ v. names v.of) (all_variables d p)
      (All-weaker (IsDeclared k.types) (λ v. AreNames k.types (names v.of)) (λ v h. All-map (λ n. is_among k.types n ≡ true) (λ w. w.text) v.of h) (all_variables d p) (all_declared static))))

-- the pairs of either types, of which the first has number t, are within the types up to them
module _ (k : Known) where
  abbrev pub ArePairsBelow : ℕ → List (ℕ × ℕ) → Type 0
  ArePairsBelow n qs = All (λ q. (q.0 < n) × (q.1 < n)) qs

  either_pairs_below : (t n : ℕ) (ns : List (List ℕ)) → length k.types < n → t < n → AreNames k.types ns → ArePairsBelow n (either_pairs k t ns)
  either_pairs_below t n ns long lt h =
      All-map (λ q. (q.0 < n) × (q.1 < n)) (λ m. (number_in k.types m, t)) ns
      (All-weaker (λ m. is_among k.types m ≡ true) (λ m. (number_in k.types m < n) × (t < n)) (λ m e. let within = number_within k.types m e in (omega (arith, within), lt)) ns h)

  pub eithers_pairs_below : (t n : ℕ) (nss : List (List (List ℕ))) → length k.types ≤ t → t + length nss ≤ n → All (AreNames k.types) nss → ArePairsBelow n (eithers_pairs k t nss)
  eithers_pairs_below t n [] long le h = All-nil (λ q. (q.0 < n) × (q.1 < n))
  eithers_pairs_below t n (ns ∷ nss) long le h =
      All-append (λ q. (q.0 < n) × (q.1 < n)) (either_pairs k t ns) (eithers_pairs k (suc t) nss)
      (either_pairs_below t n ns (omega arith) (omega arith) (All-head (AreNames k.types) ns nss h))
      (eithers_pairs_below (suc t) n nss (omega arith) (omega arith) (All-tail (AreNames k.types) ns nss h))

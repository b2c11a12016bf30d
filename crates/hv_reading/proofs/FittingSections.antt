-- The same of networks and sections.
use Rattle.std.proofs.Common.{ℕ, suc, Bool, true, false, List, [], Option, Some, refl, codes, if◌then◌else◌}
use Rattle.std.specs.Prelude.{IfSome}
use Rattle.hv_text.specs.Trees.{Tree, word, list, Trees, none, more}
use Rattle.hv_text.specs.Shapes.{IsTidy}
use Rattle.hv_text.specs.declared.span.Span.{Span}
use Rattle.hv_reading.specs.declared.field.Slot.{Slot}
use Rattle.hv_reading.specs.declared.field.Slot.TheVariants as slots
use Rattle.hv_syntax.specs.Values.{Term, Variable, Formula, and, no_formulas, Literal, no_items, Subtask, Pair, Constraint, Network, Predicate, Task, Method, Action, Htn}
use Rattle.hv_reading.specs.Fields.{same_slot, slot_of, field}
use Rattle.hv_reading.specs.Spellings.{SpellsAtom, SpellsFormula, SpellsList, SpellsGround, a_ground, SpellsEffect, SpellsSubtask, a_task_alone, a_labelled_task, SpellsPair, a_pair_behind, a_pair_between, SpellsEquation, an_equation, SpellsConstraint, they_are_equal, they_differ}
use Rattle.hv_reading.specs.Tables.{SpellsIfAny, is_absent, is_present, SpellsField, it_stands, SpellsParameters, parameters, SpellsForm, no_form, unordered, ordered, SpellsNetwork, a_network, SpellsPredicate, a_predicate, SpellsTask, a_task, SpellsMethod, a_method, SpellsAction, an_action, SpellsHtn, an_htn}
use Rattle.hv_reading.specs.Canonical.{the_list, each, atom_expression, variable_members, formula_expression, literal_expression, effect_expression, subtask_expression, pair_expression, equation, constraint_expression, with_members, subtasks_keyword, network_fields}
use Rattle.hv_reading.specs.CanonicalSections.{predicate_expression, task_section, method_section, action_section, htn_section}
use Rattle.hv_reading.proofs.Fitting.{Fits, AllFit, is_tidy, IsTidyText, symbol_tidy, list_fits, conjunction_fits, term_fits, atom_fits, typed_variables_fit, formula_fits}
use Rattle.hv_reading.proofs.FittingEffects.{literal_fits, effect_fits}

-- the expression of a field
field_if : (P : Tree → Type 0) (b : Bool) (e : Tree) (o : Option Tree) → P e → IfSome o P → IfSome (if b then Some e else o) P
field_if P true e o h k = h
field_if P false e o h k = k

field_fits : (slot : Slot) (ts : Trees) (n : ℕ) → AllFit ts n → IfSome (field slot ts) (λ t. Fits t n)
field_fits slot none n h = tt
field_fits slot (more (list us p) ts) n h = tt
field_fits slot (more (word k p) none) n h = tt
field_fits slot (more (word k p) (more e ts)) n h = field_if (λ t. Fits t n) (same_slot (slot_of k) slot) e (field slot ts) h.1.0 (field_fits slot ts n h.1.1)

-- a field that may be absent, and one that must stand
module _ {A : Type 0} (Spells : Tree → A → Type 0) (P : Tree → Type 0) (Q : A → Type 0) (good : (t : Tree) (x : A) → Spells t x → P t → Q x) where
  if_any_fits : (otherwise : A) → Q otherwise → (o : Option Tree) (x : A) → SpellsIfAny Spells otherwise o x → IfSome o P → Q x
  if_any_fits otherwise q _ _ is_absent h = q
  if_any_fits otherwise q _ _ (is_present t x k) h = good t x k h

  it_fits : (o : Option Tree) (x : A) → SpellsField Spells o x → IfSome o P → Q x
  it_fits _ _ (it_stands t x k) h = good t x k h

module _ (n : ℕ) where
  pub ground_fits : (t : Tree) (l : Literal) → SpellsGround t l → IsTidy t → Fits (literal_expression l) (suc (suc n))
  ground_fits _ _ (a_ground t l k e) h = literal_fits n t l k h

  subtask_fits : (t : Tree) (x : Subtask) → SpellsSubtask t x → IsTidy t → Fits (subtask_expression x) (suc (suc n))
  subtask_fits _ _ (a_task_alone t a k) h = atom_fits (suc n) t a k h
  subtask_fits _ _ (a_labelled_task t l u a s k m) h = (symbol_tidy t l k h.0, (atom_fits n u a m h.1.0, tt))

  pair_fits : (t : Tree) (x : Pair) → SpellsPair t x → IsTidy t → Fits (pair_expression x) (suc (suc n))
  pair_fits _ _ (a_pair_behind w p s t u l m e k j) h = ((refl, refl), (symbol_tidy t l k h.1.0, (symbol_tidy u m j h.1.1.0, tt)))
  pair_fits _ _ (a_pair_between w p s t u l m e k j) h = ((refl, refl), (symbol_tidy t l k h.0, (symbol_tidy u m j h.1.1.0, tt)))

  equation_fits : (t : Tree) (q : Term × Term) → SpellsEquation t q → IsTidy t → (m : ℕ) → Fits (equation q.0 q.1) (suc m)
  equation_fits _ _ (an_equation w p s t u x y e k l) h m = ((refl, refl), (term_fits m t x k h.1.0, (term_fits m u y l h.1.1.0, tt)))

  constraint_fits : (t : Tree) (x : Constraint) → SpellsConstraint t x → IsTidy t → Fits (constraint_expression x) (suc (suc n))
  constraint_fits _ _ (they_are_equal t (x, y) k) h = equation_fits t (x, y) k h (suc n)
  constraint_fits _ _ (they_differ w p s t (x, y) e k) h = ((refl, refl), (equation_fits t (x, y) k h.1.0 n, tt))

-- what stands in a field that opens no more parentheses than there may be in a section
module _ (n : ℕ) where
  abbrev within : ℕ
  within = suc (suc (suc n))

  parameters_fit : (t : Tree) (xs : List Variable) → SpellsParameters t xs → Fits t within → Fits (the_list (variable_members xs)) within
  parameters_fit _ _ (parameters ts s xs k) h = typed_variables_fit (suc (suc n)) ts xs k h

  subtasks_fit : (t : Tree) (xs : List Subtask) → SpellsList SpellsSubtask t xs → Fits t within → AllFit (each subtask_expression xs) (suc (suc n))
  subtasks_fit t xs k h = list_fits SpellsSubtask subtask_expression (suc (suc n)) (subtask_fits n) t xs k (is_tidy t within h)

  pairs_fit : (t : Tree) (xs : List Pair) → SpellsList SpellsPair t xs → Fits t within → AllFit (each pair_expression xs) (suc (suc n))
  pairs_fit t xs k h = list_fits SpellsPair pair_expression (suc (suc n)) (pair_fits n) t xs k (is_tidy t within h)

  constraints_fit : (t : Tree) (xs : List Constraint) → SpellsList SpellsConstraint t xs → Fits t within → AllFit (each constraint_expression xs) (suc (suc n))
  constraints_fit t xs k h = list_fits SpellsConstraint constraint_expression (suc (suc n)) (constraint_fits n) t xs k (is_tidy t within h)

  form_fits : (o r : Option Tree) (q : Bool × List Subtask) → SpellsForm o r q → IfSome o (λ t. Fits t within) → IfSome r (λ t. Fits t within) → AllFit (each subtask_expression q.1) (suc (suc n))
  form_fits _ _ _ no_form h k = tt
  form_fits _ _ _ (unordered t xs l) h k = subtasks_fit t xs l h
  form_fits _ _ _ (ordered t xs l) h k = subtasks_fit t xs l k

  keyword_fits : (b : Bool) → IsTidyText (subtasks_keyword b)
  keyword_fits true = (refl, refl)
  keyword_fits false = (refl, refl)

  members_fit : (k : List ℕ) (ts rest : Trees) → IsTidyText k → AllFit ts (suc (suc n)) → AllFit rest within → AllFit (with_members k ts rest) within
  members_fit k none rest v h l = l
  members_fit k (more t ts) rest v h l = (v, (((refl, refl), h), l))

  network_fits : (ts : Trees) (m : Network) → SpellsNetwork ts m → AllFit ts within → AllFit (network_fields m) within
  network_fits _ _ (a_network ts b xs ps cs k l m) h = (
    keyword_fits b,
    (
      conjunction_fits (each subtask_expression xs) (suc (suc n)) (form_fits (field slots.Subtasks ts) (field slots.OrderedSubtasks ts) (b, xs) k (field_fits slots.Subtasks ts within h) (field_fits slots.OrderedSubtasks ts within h)),
      members_fit (codes ":ordering") (each pair_expression ps) (with_members (codes ":constraints") (each constraint_expression cs) none) (refl, refl)
          (if_any_fits (SpellsList SpellsPair) (λ t. Fits t within) (λ xs. AllFit (each pair_expression xs) (suc (suc n))) pairs_fit [] tt (field slots.Ordering ts) ps l (field_fits slots.Ordering ts within h))
          (members_fit (codes ":constraints") (each constraint_expression cs) none (refl, refl)
          (if_any_fits (SpellsList SpellsConstraint) (λ t. Fits t within) (λ xs. AllFit (each constraint_expression xs) (suc (suc n))) constraints_fit [] tt (field slots.Constraints ts) cs m (field_fits slots.Constraints ts within h)) tt),
    ),
  )

  given_parameters : (ts : Trees) (xs : List Variable) → SpellsIfAny SpellsParameters [] (field slots.Parameters ts) xs → AllFit ts within → Fits (the_list (variable_members xs)) within
  given_parameters ts xs k h = if_any_fits SpellsParameters (λ t. Fits t within) (λ xs. Fits (the_list (variable_members xs)) within) parameters_fit [] tt (field slots.Parameters ts) xs k (field_fits slots.Parameters ts within h)

  given_precondition : (ts : Trees) (f : Formula) → SpellsIfAny SpellsFormula (and no_formulas) (field slots.Precondition ts) f → AllFit ts within → Fits (formula_expression f) within
  given_precondition ts f k h =
      if_any_fits SpellsFormula (λ t. Fits t within) (λ f. Fits (formula_expression f) within) (λ t f k h. formula_fits t f k within h) (and no_formulas) tt (field slots.Precondition ts) f k (field_fits slots.Precondition ts within h)

  -- sections
  pub predicate_fits : (t : Tree) (p : Predicate) → SpellsPredicate t p → Fits t within → Fits (predicate_expression p) within
  predicate_fits _ _ (a_predicate t w ts s xs k l) h = (symbol_tidy t w k (is_tidy t (suc (suc n)) h.0), typed_variables_fit (suc (suc n)) ts xs l h.1)

  pub task_fits : (s : Span) (ts : Trees) (x : Task) → SpellsTask s ts x → AllFit ts within → Fits (task_section x) (suc within)
  task_fits s _ _ (a_task t w ts xs k e f g l) h = ((refl, refl), (symbol_tidy t w k (is_tidy t within h.0), ((refl, refl), (given_parameters ts xs l h.1, tt))))

  pub method_fits : (s : Span) (ts : Trees) (x : Method) → SpellsMethod s ts x → AllFit ts within → Fits (method_section x) (suc within)
  method_fits s _ _ (a_method t w ts xs a m f k e l j i g) h =
      let task : Fits (atom_expression a) within = it_fits SpellsAtom (λ t. Fits t within) (λ a. Fits (atom_expression a) within) (λ t a k h. atom_fits (suc (suc n)) t a k (is_tidy t within h)) (field slots.Task ts) a j (field_fits slots.Task ts within h.1) in
      ((refl, refl), (symbol_tidy t w k (is_tidy t within h.0), ((refl, refl), (given_parameters ts xs l h.1, ((refl, refl), (task, ((refl, refl), (given_precondition ts f g h.1, network_fits ts m i h.1))))))))

  pub action_fits : (s : Span) (ts : Trees) (x : Action) → SpellsAction s ts x → AllFit ts within → Fits (action_section x) (suc within)
  action_fits s _ _ (an_action t w ts xs x f k e l j g) h =
      let brought : Fits (effect_expression x) within = if_any_fits SpellsEffect (λ t. Fits t within) (λ x. Fits (effect_expression x) within) (effect_fits n) no_items tt (field slots.Effect ts) x j (field_fits slots.Effect ts within h.1) in
      ((refl, refl), (symbol_tidy t w k (is_tidy t within h.0), ((refl, refl), (given_parameters ts xs l h.1, ((refl, refl), (given_precondition ts f g h.1, ((refl, refl), (brought, tt))))))))

  pub htn_fits : (s : Span) (ts : Trees) (x : Htn) → SpellsHtn s ts x → AllFit ts within → Fits (htn_section x) (suc within)
  htn_fits s _ _ (an_htn ts xs m e k l) h = ((refl, refl), ((refl, refl), (given_parameters ts xs k h, network_fits ts m l h)))

-- What the table spells of fields, declarations, sections and whole texts is what is read.
use Rattle.std.proofs.Common.{◌≡◌, ◌&&◌, Bool, true, false, List, [], ◌∷◌, Option, Some, None, option_map, refl, ap, if◌then◌else◌}
use Rattle.std.specs.Prelude.{IfSome}
use Rattle.hv_text.specs.Trees.{Tree, word, list, Trees, none, more}
use Rattle.hv_text.specs.declared.span.Span.{Span}
use Rattle.hv_reading.specs.declared.field.Slot.{Slot}
use Rattle.hv_reading.specs.declared.field.Slot.TheVariants as slots
use Rattle.hv_reading.specs.inside.Words.{symbol_of}
use Rattle.hv_reading.specs.inside.Reading.{both, every, tuple}
use Rattle.hv_syntax.specs.Values.{WordAt, Atom, Variable, Formula, and, no_formulas, Effect, no_items, Subtask, Pair, Constraint, Network, Predicate, predicate, Task, task, Method, method, Action, action, Htn, htn}
use Rattle.hv_reading.specs.inside.Terms.{atom_of}
use Rattle.hv_reading.specs.inside.TypedLists.{typed_variables_of}
use Rattle.hv_reading.specs.inside.Lists.{listed}
use Rattle.hv_reading.specs.inside.Formulas.{formula_of}
use Rattle.hv_reading.specs.inside.Effects.{effect_of}
use Rattle.hv_reading.specs.Fields.{field, is_field_list}
use Rattle.hv_reading.specs.inside.Networks.{pair_of, constraint_of, subtask_of, listed_at, subtasks_by, network_with, network_of}
use Rattle.hv_reading.specs.Declarations.{is_nothing, method_slots}
use Rattle.hv_reading.specs.inside.Declarations.{predicate_of, parameters_at, precondition_at, effect_at, task_at, task_named, task_of, method_named, method_of, action_named, action_of}
use Rattle.hv_reading.specs.Declarations.{htn_slots}
use Rattle.hv_reading.specs.inside.Problems.{htn_of}
use Rattle.hv_reading.specs.Spellings.{SpellsSymbol, SpellEach, SpellsList, SpellsAtom, SpellsTypedVariables, SpellsFormula, SpellsEffect, SpellsSubtask, SpellsPair, SpellsConstraint}
use Rattle.hv_reading.specs.Tables.{SpellsIfAny, is_absent, is_present, SpellsField, it_stands, SpellsParameters, parameters, SpellsForm, no_form, unordered, ordered, SpellsNetwork, a_network, SpellsPredicate, a_predicate, SpellsTask, a_task, SpellsMethod, a_method, SpellsAction, an_action, SpellsHtn, an_htn}
use Rattle.hv_reading.proofs.SpellingLemmas.{if_map, if_both, if_then, if_weaker, symbol_read, symbol_spelled, each_read, each_spelled, atom_read, atom_spelled, typed_variables_read, typed_variables_spelled, formula_is_read, formula_is_spelled}
use Rattle.hv_reading.proofs.EffectSpellings.{effect_read, effect_spelled}
use Rattle.hv_reading.proofs.PartSpellings.{subtasks_read, subtasks_spelled, pairs_read, pairs_spelled, constraints_read, constraints_spelled}

-- fields that may be absent
parameters_read : (o : Option Tree) (xs : List Variable) → SpellsIfAny SpellsParameters [] o xs → parameters_at o ≡ Some xs
parameters_read _ _ is_absent = refl
parameters_read _ _ (is_present _ _ (parameters ts s xs h)) = typed_variables_read ts xs h

parameters_spelled : (o : Option Tree) → IfSome (parameters_at o) (SpellsIfAny SpellsParameters [] o)
parameters_spelled None = is_absent
parameters_spelled (Some (word w s)) = tt
parameters_spelled (Some (list ts s)) =
    if_weaker (SpellsTypedVariables ts) (SpellsIfAny SpellsParameters [] (Some (list ts s))) (λ xs h. is_present (list ts s) xs (parameters ts s xs h)) (typed_variables_of ts)
    (typed_variables_spelled ts)

precondition_read : (o : Option Tree) (f : Formula) → SpellsIfAny SpellsFormula (and no_formulas) o f → precondition_at o ≡ Some f
precondition_read _ _ is_absent = refl
precondition_read _ _ (is_present t f h) = formula_is_read t f h

precondition_spelled : (o : Option Tree) → IfSome (precondition_at o) (SpellsIfAny SpellsFormula (and no_formulas) o)
precondition_spelled None = is_absent
precondition_spelled (Some t) = if_weaker (SpellsFormula t) (SpellsIfAny SpellsFormula (and no_formulas) (Some t)) (λ f h. is_present t f h) (formula_of t) (formula_is_spelled t)

effect_at_read : (o : Option Tree) (e : Effect) → SpellsIfAny SpellsEffect no_items o e → effect_at o ≡ Some e
effect_at_read _ _ is_absent = refl
effect_at_read _ _ (is_present t e h) = effect_read t e h

effect_at_spelled : (o : Option Tree) → IfSome (effect_at o) (SpellsIfAny SpellsEffect no_items o)
effect_at_spelled None = is_absent
effect_at_spelled (Some t) = if_weaker (SpellsEffect t) (SpellsIfAny SpellsEffect no_items (Some t)) (λ e h. is_present t e h) (effect_of t) (effect_spelled t)

task_at_read : (o : Option Tree) (a : Atom) → SpellsField SpellsAtom o a → task_at o ≡ Some a
task_at_read _ _ (it_stands t a h) = atom_read t a h

task_at_spelled : (o : Option Tree) → IfSome (task_at o) (SpellsField SpellsAtom o)
task_at_spelled None = tt
task_at_spelled (Some t) = if_weaker (SpellsAtom t) (SpellsField SpellsAtom (Some t)) (λ a h. it_stands t a h) (atom_of t) (atom_spelled t)

module _ {A : Type 0} (f : Tree → Option A) (Spells : Tree → A → Type 0) (read : (t : Tree) (xs : List A) → SpellsList Spells t xs → listed f t ≡ Some xs)
    (spelled : (t : Tree) → IfSome (listed f t) (SpellsList Spells t)) where
  list_at_read : (o : Option Tree) (xs : List A) → SpellsIfAny (SpellsList Spells) [] o xs → listed_at f o ≡ Some xs
  list_at_read _ _ is_absent = refl
  list_at_read _ _ (is_present t xs h) = read t xs h

  list_at_spelled : (o : Option Tree) → IfSome (listed_at f o) (SpellsIfAny (SpellsList Spells) [] o)
  list_at_spelled None = is_absent
  list_at_spelled (Some t) = if_weaker (SpellsList Spells t) (SpellsIfAny (SpellsList Spells) [] (Some t)) (λ xs h. is_present t xs h) (listed f t) (spelled t)

-- networks
form_read : (o r : Option Tree) (x : Bool × List Subtask) → SpellsForm o r x → subtasks_by o r ≡ Some x
form_read _ _ _ no_form = refl
form_read _ _ _ (unordered t xs h) = ap (option_map (tuple false)) (subtasks_read t xs h)
form_read _ _ _ (ordered t xs h) = ap (option_map (tuple true)) (subtasks_read t xs h)

form_spelled : (o r : Option Tree) → IfSome (subtasks_by o r) (SpellsForm o r)
form_spelled None None = no_form
form_spelled (Some t) None =
    if_map (tuple false) (SpellsList SpellsSubtask t) (SpellsForm (Some t) None) (λ xs h. unordered t xs h) (listed subtask_of t) (subtasks_spelled t)
form_spelled None (Some t) =
    if_map (tuple true) (SpellsList SpellsSubtask t) (SpellsForm None (Some t)) (λ xs h. ordered t xs h) (listed subtask_of t) (subtasks_spelled t)
form_spelled (Some t) (Some u) = tt

abbrev IsOrdering : Trees → List Pair × List Constraint → Type 0
IsOrdering ts (ps, cs) = SpellsIfAny (SpellsList SpellsPair) [] (field slots.Ordering ts) ps × SpellsIfAny (SpellsList SpellsConstraint) [] (field slots.Constraints ts) cs

network_read : (ts : Trees) (n : Network) → SpellsNetwork ts n → network_of ts ≡ Some n
network_read _ _ (a_network ts b xs ps cs h k l) =
    rw (
      list_at_read pair_of SpellsPair pairs_read pairs_spelled (field slots.Ordering ts) ps k,
      list_at_read constraint_of SpellsConstraint constraints_read constraints_spelled (field slots.Constraints ts) cs l,
      form_read (field slots.Subtasks ts) (field slots.OrderedSubtasks ts) (b, xs) h,
    ) refl

network_of_parts : (ts : Trees) (q : List Pair × List Constraint) (x : Bool × List Subtask) → IsOrdering ts q → SpellsForm (field slots.Subtasks ts) (field slots.OrderedSubtasks ts) x
    → SpellsNetwork ts (network_with q x)
network_of_parts ts (ps, cs) (b, xs) h k = a_network ts b xs ps cs k h.0 h.1

network_spelled : (ts : Trees) → IfSome (network_of ts) (SpellsNetwork ts)
network_spelled ts =
    if_both network_with (IsOrdering ts) (SpellsForm (field slots.Subtasks ts) (field slots.OrderedSubtasks ts)) (SpellsNetwork ts) (λ q x h k. network_of_parts ts q x h k)
    (both tuple (listed_at pair_of (field slots.Ordering ts)) (listed_at constraint_of (field slots.Constraints ts))) (subtasks_by (field slots.Subtasks ts) (field slots.OrderedSubtasks ts))
    (if_both tuple (SpellsIfAny (SpellsList SpellsPair) [] (field slots.Ordering ts)) (SpellsIfAny (SpellsList SpellsConstraint) [] (field slots.Constraints ts)) (IsOrdering ts) (λ ps cs h k. (h, k))
    (listed_at pair_of (field slots.Ordering ts)) (listed_at constraint_of (field slots.Constraints ts))
    (list_at_spelled pair_of SpellsPair pairs_read pairs_spelled (field slots.Ordering ts)) (list_at_spelled constraint_of SpellsConstraint constraints_read constraints_spelled (field slots.Constraints ts)))
    (form_spelled (field slots.Subtasks ts) (field slots.OrderedSubtasks ts))

-- predicates
predicate_read : (t : Tree) (p : Predicate) → SpellsPredicate t p → predicate_of t ≡ Some p
predicate_read _ _ (a_predicate t w ts s xs h k) = rw (symbol_read t w h, typed_variables_read ts xs k) refl

predicate_spelled : (t : Tree) → IfSome (predicate_of t) (SpellsPredicate t)
predicate_spelled (word w s) = tt
predicate_spelled (list none s) = tt
predicate_spelled (list (more t ts) s) =
    if_both predicate (SpellsSymbol t) (SpellsTypedVariables ts) (SpellsPredicate (list (more t ts) s)) (λ w xs h k. a_predicate t w ts s xs h k)
    (symbol_of t) (typed_variables_of ts) (symbol_spelled t) (typed_variables_spelled ts)

pub predicates_read : (ts : Trees) (ps : List Predicate) → SpellEach SpellsPredicate ts ps → every predicate_of ts ≡ Some ps
predicates_read = each_read predicate_of SpellsPredicate predicate_read predicate_spelled

pub predicates_spelled : (ts : Trees) → IfSome (every predicate_of ts) (SpellEach SpellsPredicate ts)
predicates_spelled = each_spelled predicate_of SpellsPredicate predicate_read predicate_spelled

-- a value where a test holds
pub if_tested : {A : Type 0} (P : A → Type 0) (o : Option A) (b : Bool) → (b ≡ true → IfSome o P) → IfSome (if b then o else None) P
if_tested P o true h = h refl
if_tested P o false h = tt

pub both_true : (a b c : Bool) → (a && b && c) ≡ true → (a ≡ true) × (b ≡ true) × (c ≡ true)
both_true true true true h = (refl, refl, refl)
both_true true true false h = let clash : false ≡ true = h in cc
both_true true false c h = let clash : false ≡ true = h in cc
both_true false b c h = let clash : false ≡ true = h in cc

-- tasks
abbrev task_slots : List Slot
task_slots = slots.Parameters ∷ slots.Precondition ∷ slots.Effect ∷ []

pub task_read : (s : Span) (ts : Trees) (x : Task) → SpellsTask s ts x → task_of s ts ≡ Some x
task_read s _ _ (a_task t w ts xs h e f g k) = rw (symbol_read t w h, e, f, g, parameters_read (field slots.Parameters ts) xs k) refl

task_fields : (s : Span) (t : Tree) (ts : Trees) (w : WordAt) → SpellsSymbol t w → IfSome (task_named s ts w) (SpellsTask s (more t ts))
task_fields s t ts w h =
    if_tested (SpellsTask s (more t ts)) (option_map (task s w) (parameters_at (field slots.Parameters ts)))
    (is_field_list task_slots ts && is_nothing (field slots.Precondition ts) && is_nothing (field slots.Effect ts))
    (λ e. let each = both_true (is_field_list task_slots ts) (is_nothing (field slots.Precondition ts)) (is_nothing (field slots.Effect ts)) e in
    if_map (task s w) (SpellsIfAny SpellsParameters [] (field slots.Parameters ts)) (SpellsTask s (more t ts)) (λ xs k. a_task t w ts xs h each.0 each.1 each.2 k)
    (parameters_at (field slots.Parameters ts)) (parameters_spelled (field slots.Parameters ts)))

pub task_spelled : (s : Span) (ts : Trees) → IfSome (task_of s ts) (SpellsTask s ts)
task_spelled s none = tt
task_spelled s (more t ts) = if_then (task_named s ts) (SpellsSymbol t) (SpellsTask s (more t ts)) (λ w h. task_fields s t ts w h) (symbol_of t) (symbol_spelled t)

-- methods
pub method_read : (s : Span) (ts : Trees) (x : Method) → SpellsMethod s ts x → method_of s ts ≡ Some x
method_read s _ _ (a_method t w ts xs a n f h e k l m o) =
    rw (symbol_read t w h, e, parameters_read (field slots.Parameters ts) xs k, task_at_read (field slots.Task ts) a l, network_read ts n m, precondition_read (field slots.Precondition ts) f o) refl

abbrev IsMethodHead : Trees → List Variable × Atom → Type 0
IsMethodHead ts (xs, a) = SpellsIfAny SpellsParameters [] (field slots.Parameters ts) xs × SpellsField SpellsAtom (field slots.Task ts) a

abbrev IsMethodBody : Trees → (List Variable × Atom) × Network → Type 0
IsMethodBody ts (q, n) = IsMethodHead ts q × SpellsNetwork ts n

body_spelled : (ts : Trees) → IfSome (both tuple (both tuple (parameters_at (field slots.Parameters ts)) (task_at (field slots.Task ts))) (network_of ts)) (IsMethodBody ts)
body_spelled ts =
    if_both tuple (IsMethodHead ts) (SpellsNetwork ts) (IsMethodBody ts) (λ q n h k. (h, k)) (both tuple (parameters_at (field slots.Parameters ts)) (task_at (field slots.Task ts))) (network_of ts)
    (if_both tuple (SpellsIfAny SpellsParameters [] (field slots.Parameters ts)) (SpellsField SpellsAtom (field slots.Task ts)) (IsMethodHead ts) (λ xs a h k. (h, k))
    (parameters_at (field slots.Parameters ts)) (task_at (field slots.Task ts)) (parameters_spelled (field slots.Parameters ts)) (task_at_spelled (field slots.Task ts)))
    (network_spelled ts)

method_of_parts : (s : Span) (t : Tree) (ts : Trees) (w : WordAt) (q : (List Variable × Atom) × Network) (f : Formula) → SpellsSymbol t w → is_field_list method_slots ts ≡ true → IsMethodBody ts q
    → SpellsIfAny SpellsFormula (and no_formulas) (field slots.Precondition ts) f → SpellsMethod s (more t ts) (method s w q f)
method_of_parts s t ts w ((xs, a), n) f h e k l = a_method t w ts xs a n f h e k.0.0 k.0.1 k.1 l

method_fields : (s : Span) (t : Tree) (ts : Trees) (w : WordAt) → SpellsSymbol t w → IfSome (method_named s ts w) (SpellsMethod s (more t ts))
method_fields s t ts w h =
    if_tested (SpellsMethod s (more t ts))
    (both (method s w) (both tuple (both tuple (parameters_at (field slots.Parameters ts)) (task_at (field slots.Task ts))) (network_of ts)) (precondition_at (field slots.Precondition ts)))
    (is_field_list method_slots ts)
    (λ e. if_both (method s w) (IsMethodBody ts) (SpellsIfAny SpellsFormula (and no_formulas) (field slots.Precondition ts)) (SpellsMethod s (more t ts)) (λ q f k l. method_of_parts s t ts w q f h e k l)
    (both tuple (both tuple (parameters_at (field slots.Parameters ts)) (task_at (field slots.Task ts))) (network_of ts)) (precondition_at (field slots.Precondition ts))
    (body_spelled ts) (precondition_spelled (field slots.Precondition ts)))

pub method_spelled : (s : Span) (ts : Trees) → IfSome (method_of s ts) (SpellsMethod s ts)
method_spelled s none = tt
method_spelled s (more t ts) = if_then (method_named s ts) (SpellsSymbol t) (SpellsMethod s (more t ts)) (λ w h. method_fields s t ts w h) (symbol_of t) (symbol_spelled t)

-- actions
pub action_read : (s : Span) (ts : Trees) (x : Action) → SpellsAction s ts x → action_of s ts ≡ Some x
action_read s _ _ (an_action t w ts xs x f h e k l m) =
    rw (symbol_read t w h, e, parameters_read (field slots.Parameters ts) xs k, effect_at_read (field slots.Effect ts) x l, precondition_read (field slots.Precondition ts) f m) refl

abbrev IsActionHead : Trees → List Variable × Effect → Type 0
IsActionHead ts (xs, e) = SpellsIfAny SpellsParameters [] (field slots.Parameters ts) xs × SpellsIfAny SpellsEffect no_items (field slots.Effect ts) e

action_of_parts : (s : Span) (t : Tree) (ts : Trees) (w : WordAt) (q : List Variable × Effect) (f : Formula) → SpellsSymbol t w → is_field_list task_slots ts ≡ true → IsActionHead ts q
    → SpellsIfAny SpellsFormula (and no_formulas) (field slots.Precondition ts) f → SpellsAction s (more t ts) (action s w q f)
action_of_parts s t ts w (xs, x) f h e k l = an_action t w ts xs x f h e k.0 k.1 l

action_fields : (s : Span) (t : Tree) (ts : Trees) (w : WordAt) → SpellsSymbol t w → IfSome (action_named s ts w) (SpellsAction s (more t ts))
action_fields s t ts w h =
    if_tested (SpellsAction s (more t ts))
    (both (action s w) (both tuple (parameters_at (field slots.Parameters ts)) (effect_at (field slots.Effect ts))) (precondition_at (field slots.Precondition ts)))
    (is_field_list task_slots ts)
    (λ e. if_both (action s w) (IsActionHead ts) (SpellsIfAny SpellsFormula (and no_formulas) (field slots.Precondition ts)) (SpellsAction s (more t ts)) (λ q f k l. action_of_parts s t ts w q f h e k l)
    (both tuple (parameters_at (field slots.Parameters ts)) (effect_at (field slots.Effect ts))) (precondition_at (field slots.Precondition ts))
    (if_both tuple (SpellsIfAny SpellsParameters [] (field slots.Parameters ts)) (SpellsIfAny SpellsEffect no_items (field slots.Effect ts)) (IsActionHead ts) (λ xs x p q. (p, q))
    (parameters_at (field slots.Parameters ts)) (effect_at (field slots.Effect ts)) (parameters_spelled (field slots.Parameters ts)) (effect_at_spelled (field slots.Effect ts)))
    (precondition_spelled (field slots.Precondition ts)))

pub action_spelled : (s : Span) (ts : Trees) → IfSome (action_of s ts) (SpellsAction s ts)
action_spelled s none = tt
action_spelled s (more t ts) = if_then (action_named s ts) (SpellsSymbol t) (SpellsAction s (more t ts)) (λ w h. action_fields s t ts w h) (symbol_of t) (symbol_spelled t)

-- initial networks
pub htn_read : (s : Span) (ts : Trees) (x : Htn) → SpellsHtn s ts x → htn_of s ts ≡ Some x
htn_read s _ _ (an_htn ts xs n e h k) = rw (e, parameters_read (field slots.Parameters ts) xs h, network_read ts n k) refl

pub htn_spelled : (s : Span) (ts : Trees) → IfSome (htn_of s ts) (SpellsHtn s ts)
htn_spelled s ts =
    if_tested (SpellsHtn s ts) (both (htn s) (parameters_at (field slots.Parameters ts)) (network_of ts)) (is_field_list htn_slots ts)
    (λ e. if_both (htn s) (SpellsIfAny SpellsParameters [] (field slots.Parameters ts)) (SpellsNetwork ts) (SpellsHtn s ts) (λ xs n h k. an_htn ts xs n e h k)
    (parameters_at (field slots.Parameters ts)) (network_of ts) (parameters_spelled (field slots.Parameters ts)) (network_spelled ts))

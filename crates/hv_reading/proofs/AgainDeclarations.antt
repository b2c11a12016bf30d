-- The canonical sections of tasks, methods, actions and initial networks, and predicates, are read as what they are of, places aside.
use Rattle.std.proofs.Common.{◌≡◌, ◌&&◌, Bool, true, false, List, [], ◌∷◌, map, Option, Some, None, option_map, refl, ap, ◌∙◌, codes, if◌then◌else◌}
use Rattle.std.specs.Prelude.{IfSome, option_and_then}
use Rattle.hv_text.specs.Trees.{Tree, word, list, Trees, none, more}
use Rattle.hv_text.specs.Words.{nowhere}
use Rattle.hv_text.specs.declared.span.Span.{Span}
use Rattle.hv_reading.specs.declared.field.Slot.TheVariants as slots
use Rattle.hv_syntax.specs.Values.{WordAt, Atom, Variable, Formula, Effect, Subtask, Pair, Constraint, Network, network, Predicate, predicate, Task, task, Method, method, Action, action, Htn, htn}
use Rattle.hv_reading.specs.inside.Words.{symbol_of}
use Rattle.hv_reading.specs.inside.Reading.{both, tuple}
use Rattle.hv_reading.specs.inside.Terms.{atom_of}
use Rattle.hv_reading.specs.inside.TypedLists.{typed_variables_of}
use Rattle.hv_reading.specs.Fields.{field, is_field_list}
use Rattle.hv_reading.specs.inside.Networks.{network_of}
use Rattle.hv_reading.specs.Declarations.{is_nothing, method_slots}
use Rattle.hv_reading.specs.inside.Declarations.{predicate_of, parameters_at, precondition_at, effect_at, task_at, task_named, task_of, method_named, method_of, action_named, action_of}
use Rattle.hv_reading.specs.Declarations.{htn_slots}
use Rattle.hv_reading.specs.inside.Problems.{htn_of}
use Rattle.hv_reading.specs.Canonical.{word_expression, atom_expression, variable_members, formula_expression, effect_expression, with_field, network_fields}
use Rattle.hv_reading.specs.CanonicalSections.{with_parameters, with_precondition, predicate_expression}
use Rattle.hv_reading.specs.Bare.{bare_word, bare_atom, bare_variable, bare_formula, bare_effect, bare_network, bare_predicate, bare_task, bare_method, bare_action, bare_htn}
use Rattle.hv_reading.proofs.Again.{if_map, if_both, IsReadAgain, symbol_again, atom_again, AreVariablesAgain, typed_variables_again}
use Rattle.hv_reading.proofs.AgainFormulas.{IsFormulaAgain, formula_again}
use Rattle.hv_reading.proofs.AgainEffects.{IsEffectAgain, effect_again}
use Rattle.hv_reading.proofs.AgainNetworks.{IsNetworkAgain, network_again, fields_again}

if_true : {A : Type 0} (P : A → Type 0) (b : Bool) (o : Option A) → IfSome o P → IfSome (if b then o else None) P
if_true P true o h = h
if_true P false o h = tt

and_then : {A B : Type 0} (f : A → Option B) (P : A → Type 0) (Q : B → Type 0) → ((a : A) → P a → IfSome (f a) Q) → (o : Option A) → IfSome o P → IfSome (option_and_then f o) Q
and_then f P Q h None k = tt
and_then f P Q h (Some a) k = h a k

abbrev IsWordAgain : WordAt → Type 0
IsWordAgain w = IsReadAgain symbol_of word_expression bare_word w

abbrev IsAtomAgain : Atom → Type 0
IsAtomAgain a = IsReadAgain atom_of atom_expression bare_atom a

abbrev pub IsPredicateAgain : Predicate → Type 0
IsPredicateAgain p = predicate_of (predicate_expression p) ≡ Some (bare_predicate p)

predicate_from : (w : WordAt) (vs : List Variable) → IsWordAgain w → AreVariablesAgain vs → IsPredicateAgain (predicate w vs)
predicate_from w vs h k = rw (h, k) refl

pub predicate_again : (e : Tree) → IfSome (predicate_of e) IsPredicateAgain
predicate_again (word w s) = tt
predicate_again (list none s) = tt
predicate_again (list (more t ts) s) =
    if_both predicate IsWordAgain AreVariablesAgain IsPredicateAgain predicate_from (symbol_of t) (typed_variables_of ts) (symbol_again t) (typed_variables_again ts)

parameters_again : (o : Option Tree) → IfSome (parameters_at o) AreVariablesAgain
parameters_again None = refl
parameters_again (Some (word w s)) = tt
parameters_again (Some (list ts s)) = typed_variables_again ts

precondition_again : (o : Option Tree) → IfSome (precondition_at o) IsFormulaAgain
precondition_again None = refl
precondition_again (Some t) = formula_again t

effect_at_again : (o : Option Tree) → IfSome (effect_at o) IsEffectAgain
effect_at_again None = refl
effect_at_again (Some t) = effect_again t

task_at_again : (o : Option Tree) → IfSome (task_at o) IsAtomAgain
task_at_again None = tt
task_at_again (Some t) = atom_again t

-- tasks
abbrev pub task_members : Task → Trees
task_members t = more (word_expression t.name) (with_parameters t.parameters none)

abbrev pub IsTaskAgain : Task → Type 0
IsTaskAgain t = task_of nowhere (task_members t) ≡ Some (bare_task t)

task_from : (s : Span) (w : WordAt) (vs : List Variable) → IsWordAgain w → AreVariablesAgain vs → IsTaskAgain (task s w vs)
task_from s w vs h k = ap (option_and_then (task_named nowhere (with_parameters vs none))) h ∙ ap (option_map (task nowhere (bare_word w))) k

task_named_again : (s : Span) (ts : Trees) (w : WordAt) → IsWordAgain w → IfSome (task_named s ts w) IsTaskAgain
task_named_again s ts w h =
    if_true IsTaskAgain
    (is_field_list (slots.Parameters ∷ slots.Precondition ∷ slots.Effect ∷ []) ts && is_nothing (field slots.Precondition ts) && is_nothing (field slots.Effect ts))
    (option_map (task s w) (parameters_at (field slots.Parameters ts)))
    (if_map (task s w) AreVariablesAgain IsTaskAgain (λ vs k. task_from s w vs h k) (parameters_at (field slots.Parameters ts)) (parameters_again (field slots.Parameters ts)))

pub task_again : (s : Span) (ts : Trees) → IfSome (task_of s ts) IsTaskAgain
task_again s none = tt
task_again s (more t ts) = and_then (task_named s ts) IsWordAgain IsTaskAgain (task_named_again s ts) (symbol_of t) (symbol_again t)

-- actions
abbrev action_fields : Action → Trees
action_fields a = with_parameters a.parameters (with_precondition a.precondition (with_field (codes ":effect") (effect_expression a.effect) none))

abbrev pub action_members : Action → Trees
action_members a = more (word_expression a.name) (action_fields a)

abbrev pub IsActionAgain : Action → Type 0
IsActionAgain a = action_of nowhere (action_members a) ≡ Some (bare_action a)

abbrev IsBodyAgain : List Variable × Effect → Type 0
IsBodyAgain q = AreVariablesAgain q.0 × IsEffectAgain q.1

action_read : (w : WordAt) (o : Option (List Variable)) (r : Option Effect) (q : Option Formula) (vs : List Variable) (e : Effect) (f : Formula) → o ≡ Some vs → r ≡ Some e → q ≡ Some f
    → both (action nowhere w) (both tuple o r) q ≡ Some (action nowhere w (vs, e) f)
action_read w o r q vs e f h k l = rw (h, k, l) refl

action_from : (s : Span) (w : WordAt) → IsWordAgain w → (q : List Variable × Effect) (f : Formula) → IsBodyAgain q → IsFormulaAgain f → IsActionAgain (action s w q f)
action_from s w h (vs, e) f k l =
    ap (option_and_then (action_named nowhere (action_fields (action s w (vs, e) f)))) h
    ∙ action_read (bare_word w) (typed_variables_of (variable_members vs)) (effect_at (Some (effect_expression e))) (precondition_at (Some (formula_expression f))) (map bare_variable vs) (bare_effect e) (bare_formula f) k.0 k.1 l

action_named_again : (s : Span) (ts : Trees) (w : WordAt) → IsWordAgain w → IfSome (action_named s ts w) IsActionAgain
action_named_again s ts w h =
    if_true IsActionAgain (is_field_list (slots.Parameters ∷ slots.Precondition ∷ slots.Effect ∷ []) ts)
    (both (action s w) (both tuple (parameters_at (field slots.Parameters ts)) (effect_at (field slots.Effect ts))) (precondition_at (field slots.Precondition ts)))
    (if_both (action s w) IsBodyAgain IsFormulaAgain IsActionAgain (action_from s w h)
    (both tuple (parameters_at (field slots.Parameters ts)) (effect_at (field slots.Effect ts))) (precondition_at (field slots.Precondition ts))
    (if_both tuple AreVariablesAgain IsEffectAgain IsBodyAgain (λ vs e k l. (k, l)) (parameters_at (field slots.Parameters ts)) (effect_at (field slots.Effect ts))
    (parameters_again (field slots.Parameters ts)) (effect_at_again (field slots.Effect ts)))
    (precondition_again (field slots.Precondition ts)))

pub action_again : (s : Span) (ts : Trees) → IfSome (action_of s ts) IsActionAgain
action_again s none = tt
action_again s (more t ts) = and_then (action_named s ts) IsWordAgain IsActionAgain (action_named_again s ts) (symbol_of t) (symbol_again t)

-- methods
abbrev method_fields : List Variable → Atom → Formula → Network → Trees
method_fields vs t f n = with_parameters vs (with_field (codes ":task") (atom_expression t) (with_precondition f (network_fields n)))

abbrev pub method_members : Method → Trees
method_members m = more (word_expression m.name) (method_fields m.parameters m.task m.precondition m.network)

abbrev pub IsMethodAgain : Method → Type 0
IsMethodAgain m = method_of nowhere (method_members m) ≡ Some (bare_method m)

-- these are the fields of a method
are_method_fields : (vs : List Variable) (t : Atom) (f : Formula) (xs : List Subtask) (b : Bool) (ps : List Pair) (cs : List Constraint) → is_field_list method_slots (method_fields vs t f (network xs b ps cs)) ≡ true
are_method_fields vs t f xs true [] [] = refl
are_method_fields vs t f xs true [] (c ∷ cs) = refl
are_method_fields vs t f xs true (p ∷ ps) [] = refl
are_method_fields vs t f xs true (p ∷ ps) (c ∷ cs) = refl
are_method_fields vs t f xs false [] [] = refl
are_method_fields vs t f xs false [] (c ∷ cs) = refl
are_method_fields vs t f xs false (p ∷ ps) [] = refl
are_method_fields vs t f xs false (p ∷ ps) (c ∷ cs) = refl

abbrev IsMethodBodyAgain : (List Variable × Atom) × Network → Type 0
IsMethodBodyAgain q = AreVariablesAgain q.0.0 × IsAtomAgain q.0.1 × IsNetworkAgain q.1

method_read : (w : WordAt) (b : Bool) (o : Option (List Variable)) (r : Option Atom) (p : Option Network) (q : Option Formula) (vs : List Variable) (t : Atom) (n : Network) (f : Formula)
    → b ≡ true → o ≡ Some vs → r ≡ Some t → p ≡ Some n → q ≡ Some f
    → (if b then both (method nowhere w) (both tuple (both tuple o r) p) q else None) ≡ Some (method nowhere w ((vs, t), n) f)
method_read w b o r p q vs t n f g h k l m = rw (g, h, k, l, m) refl

method_from : (s : Span) (w : WordAt) → IsWordAgain w → (q : (List Variable × Atom) × Network) (f : Formula) → IsMethodBodyAgain q → IsFormulaAgain f → IsMethodAgain (method s w q f)
method_from s w h ((vs, t), n) f k l =
    ap (option_and_then (method_named nowhere (method_fields vs t f n))) h
    ∙ method_read (bare_word w) (is_field_list method_slots (method_fields vs t f n)) (typed_variables_of (variable_members vs)) (task_at (Some (atom_expression t))) (network_of (network_fields n)) (precondition_at (Some (formula_expression f)))
    (map bare_variable vs) (bare_atom t) (bare_network n) (bare_formula f)
    (are_method_fields vs t f n.subtasks n.is_ordered n.pairs n.constraints) k.0 k.1 (fields_again n k.2) l

method_named_again : (s : Span) (ts : Trees) (w : WordAt) → IsWordAgain w → IfSome (method_named s ts w) IsMethodAgain
method_named_again s ts w h =
    let o : Option (List Variable) = parameters_at (field slots.Parameters ts) in
    let r : Option Atom = task_at (field slots.Task ts) in
    if_true IsMethodAgain (is_field_list method_slots ts)
    (both (method s w) (both tuple (both tuple o r) (network_of ts)) (precondition_at (field slots.Precondition ts)))
    (if_both (method s w) IsMethodBodyAgain IsFormulaAgain IsMethodAgain (method_from s w h) (both tuple (both tuple o r) (network_of ts)) (precondition_at (field slots.Precondition ts))
    (if_both tuple (λ p. AreVariablesAgain p.0 × IsAtomAgain p.1) IsNetworkAgain IsMethodBodyAgain (λ p n k l. (k.0, k.1, l)) (both tuple o r) (network_of ts)
    (if_both tuple AreVariablesAgain IsAtomAgain (λ p. AreVariablesAgain p.0 × IsAtomAgain p.1) (λ vs t k l. (k, l)) o r (parameters_again (field slots.Parameters ts)) (task_at_again (field slots.Task ts)))
    (network_again ts))
    (precondition_again (field slots.Precondition ts)))

pub method_again : (s : Span) (ts : Trees) → IfSome (method_of s ts) IsMethodAgain
method_again s none = tt
method_again s (more t ts) = and_then (method_named s ts) IsWordAgain IsMethodAgain (method_named_again s ts) (symbol_of t) (symbol_again t)

-- initial networks
abbrev pub htn_members : Htn → Trees
htn_members h = with_parameters h.parameters (network_fields h.network)

abbrev pub IsHtnAgain : Htn → Type 0
IsHtnAgain h = htn_of nowhere (htn_members h) ≡ Some (bare_htn h)

are_htn_fields : (vs : List Variable) (xs : List Subtask) (b : Bool) (ps : List Pair) (cs : List Constraint) → is_field_list htn_slots (with_parameters vs (network_fields (network xs b ps cs))) ≡ true
are_htn_fields vs xs true [] [] = refl
are_htn_fields vs xs true [] (c ∷ cs) = refl
are_htn_fields vs xs true (p ∷ ps) [] = refl
are_htn_fields vs xs true (p ∷ ps) (c ∷ cs) = refl
are_htn_fields vs xs false [] [] = refl
are_htn_fields vs xs false [] (c ∷ cs) = refl
are_htn_fields vs xs false (p ∷ ps) [] = refl
are_htn_fields vs xs false (p ∷ ps) (c ∷ cs) = refl

htn_read : (b : Bool) (o : Option (List Variable)) (p : Option Network) (vs : List Variable) (n : Network) → b ≡ true → o ≡ Some vs → p ≡ Some n → (if b then both (htn nowhere) o p else None) ≡ Some (htn nowhere vs n)
htn_read b o p vs n g h k = rw (g, h, k) refl

htn_from : (s : Span) (vs : List Variable) (n : Network) → AreVariablesAgain vs → IsNetworkAgain n → IsHtnAgain (htn s vs n)
htn_from s vs n h k =
    htn_read (is_field_list htn_slots (with_parameters vs (network_fields n))) (typed_variables_of (variable_members vs)) (network_of (network_fields n)) (map bare_variable vs) (bare_network n)
    (are_htn_fields vs n.subtasks n.is_ordered n.pairs n.constraints) h (fields_again n k)

pub htn_again : (s : Span) (ts : Trees) → IfSome (htn_of s ts) IsHtnAgain
htn_again s ts =
    if_true IsHtnAgain (is_field_list htn_slots ts) (both (htn s) (parameters_at (field slots.Parameters ts)) (network_of ts))
    (if_both (htn s) AreVariablesAgain IsNetworkAgain IsHtnAgain (htn_from s) (parameters_at (field slots.Parameters ts)) (network_of ts) (parameters_again (field slots.Parameters ts)) (network_again ts))

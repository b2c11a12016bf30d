-- The canonical expressions of networks are read as what they are of, places aside.
use Rattle.std.proofs.Common.{◌≡◌, Bool, true, false, List, [], ◌∷◌, map, Option, Some, None, option_map, refl, ap, ◌∙◌, codes, if◌then◌else◌}
use Rattle.std.specs.Prelude.{IfSome}
use Rattle.hv_text.specs.Trees.{Tree, word, list, Trees, none, more}
use Rattle.hv_reading.specs.declared.field.Slot.TheVariants as slots
use Rattle.hv_syntax.specs.Values.{WordAt, Term, constant, variable, Atom, Subtask, subtask, Pair, pair, Constraint, constraint, Network, network}
use Rattle.hv_reading.specs.Words.{is_the_word}
use Rattle.hv_reading.specs.inside.Words.{symbol_of}
use Rattle.hv_reading.specs.inside.Reading.{both, two, tuple}
use Rattle.hv_reading.specs.inside.Terms.{term_of, atom_of}
use Rattle.hv_reading.specs.inside.Lists.{negated, listed}
use Rattle.hv_reading.specs.Fields.{field}
use Rattle.hv_reading.specs.inside.Networks.{labelled, with_label, subtask_by, subtask_of, sides, pair_by, pair_of, equation_by, equation_of, constraint_by, constraint_of, listed_at, subtasks_by, network_with, network_of}
use Rattle.hv_reading.specs.Canonical.{each, conjunction, word_expression, term_expression, atom_expression, subtask_expression, pair_expression, constraint_expression, network_fields}
use Rattle.hv_reading.specs.Bare.{bare_word, bare_term, bare_atom, bare_subtask, bare_pair, bare_constraint, bare_network}
use Rattle.hv_reading.proofs.Again.{if_map, if_both, IsReadAgain, symbol_again, term_again, atom_again, listed_again}

abbrev IsWordAgain : WordAt → Type 0
IsWordAgain w = IsReadAgain symbol_of word_expression bare_word w

abbrev IsTermAgain : Term → Type 0
IsTermAgain x = IsReadAgain term_of term_expression bare_term x

abbrev IsAtomAgain : Atom → Type 0
IsAtomAgain a = IsReadAgain atom_of atom_expression bare_atom a

abbrev IsSubtaskAgain : Subtask → Type 0
IsSubtaskAgain s = IsReadAgain subtask_of subtask_expression bare_subtask s

-- a task is no label before a task
unlabelled : (w : WordAt) (xs : List Term) → labelled (atom_expression (record { symbol = w; terms = xs })) ≡ None
unlabelled w [] = refl
unlabelled w (constant x ∷ []) = refl
unlabelled w (variable x ∷ []) = refl
unlabelled w (x ∷ y ∷ xs) = refl

task_from : (a : Atom) → IsAtomAgain a → IsSubtaskAgain (subtask None a)
task_from a h = ap (λ o. subtask_by o (atom_expression a)) (unlabelled a.symbol a.terms) ∙ ap (option_map (subtask None)) h

labelled_from : (l : WordAt) (a : Atom) → IsWordAgain l → IsAtomAgain a → IsSubtaskAgain (with_label l a)
labelled_from l a h k = rw (h, k) refl

subtask_by_again : (o : Option (Tree × Tree)) (e : Tree) → IfSome (subtask_by o e) IsSubtaskAgain
subtask_by_again (Some (l, t)) e = if_both with_label IsWordAgain IsAtomAgain IsSubtaskAgain labelled_from (symbol_of l) (atom_of t) (symbol_again l) (atom_again t)
subtask_by_again None e = if_map (subtask None) IsAtomAgain IsSubtaskAgain task_from (atom_of e) (atom_again e)

subtask_again : (e : Tree) → IfSome (subtask_of e) IsSubtaskAgain
subtask_again e = subtask_by_again (labelled e) e

abbrev IsPairAgain : Pair → Type 0
IsPairAgain p = IsReadAgain pair_of pair_expression bare_pair p

pair_from : (l m : WordAt) → IsWordAgain l → IsWordAgain m → IsPairAgain (pair l m)
pair_from l m h k = rw (h, k) refl

pair_by_again : (o : Option (Tree × Tree)) → IfSome (pair_by o) IsPairAgain
pair_by_again None = tt
pair_by_again (Some (x, y)) = if_both pair IsWordAgain IsWordAgain IsPairAgain pair_from (symbol_of x) (symbol_of y) (symbol_again x) (symbol_again y)

pair_again : (e : Tree) → IfSome (pair_of e) IsPairAgain
pair_again e = pair_by_again (sides e)

abbrev IsEquationAgain : Term × Term → Type 0
IsEquationAgain p = IsTermAgain p.0 × IsTermAgain p.1

equation_if : (b : Bool) (y z : Tree) → IfSome (if b then both tuple (term_of y) (term_of z) else None) IsEquationAgain
equation_if true y z = if_both tuple IsTermAgain IsTermAgain IsEquationAgain (λ x y h k. (h, k)) (term_of y) (term_of z) (term_again y) (term_again z)
equation_if false y z = tt

equation_by_again : (x : Tree) (o : Option (Tree × Tree)) → IfSome (equation_by x o) IsEquationAgain
equation_by_again x None = tt
equation_by_again x (Some (y, z)) = equation_if (is_the_word (codes "=") x) y z

equation_again : (e : Tree) → IfSome (equation_of e) IsEquationAgain
equation_again (word w s) = tt
equation_again (list none s) = tt
equation_again (list (more x ts) s) = equation_by_again x (two ts)

abbrev IsConstraintAgain : Constraint → Type 0
IsConstraintAgain c = IsReadAgain constraint_of constraint_expression bare_constraint c

equal_from : (p : Term × Term) → IsEquationAgain p → IsConstraintAgain (constraint true p)
equal_from (x, y) h = rw (h.0, h.1) refl

unequal_from : (p : Term × Term) → IsEquationAgain p → IsConstraintAgain (constraint false p)
unequal_from (x, y) h = rw (h.0, h.1) refl

constraint_by_again : (o : Option Tree) (e : Tree) → IfSome (constraint_by o e) IsConstraintAgain
constraint_by_again (Some t) e = if_map (constraint false) IsEquationAgain IsConstraintAgain unequal_from (equation_of t) (equation_again t)
constraint_by_again None e = if_map (constraint true) IsEquationAgain IsConstraintAgain equal_from (equation_of e) (equation_again e)

constraint_again : (e : Tree) → IfSome (constraint_of e) IsConstraintAgain
constraint_again e = constraint_by_again (negated e) e

-- the lists of a network are read as what they are of
abbrev AreSubtasksAgain : List Subtask → Type 0
AreSubtasksAgain xs = listed subtask_of (conjunction (each subtask_expression xs)) ≡ Some (map bare_subtask xs)

abbrev ArePairsAgain : List Pair → Type 0
ArePairsAgain ps = listed pair_of (conjunction (each pair_expression ps)) ≡ Some (map bare_pair ps)

abbrev AreConstraintsAgain : List Constraint → Type 0
AreConstraintsAgain cs = listed constraint_of (conjunction (each constraint_expression cs)) ≡ Some (map bare_constraint cs)

abbrev pub IsNetworkAgain : Network → Type 0
IsNetworkAgain n = AreSubtasksAgain n.subtasks × ArePairsAgain n.pairs × AreConstraintsAgain n.constraints

pairs_again : (o : Option Tree) → IfSome (listed_at pair_of o) ArePairsAgain
pairs_again None = refl
pairs_again (Some e) = listed_again pair_of pair_expression bare_pair pair_again e

constraints_again : (o : Option Tree) → IfSome (listed_at constraint_of o) AreConstraintsAgain
constraints_again None = refl
constraints_again (Some e) = listed_again constraint_of constraint_expression bare_constraint constraint_again e

abbrev IsFormAgain : Bool × List Subtask → Type 0
IsFormAgain p = AreSubtasksAgain p.1

form_again : (o r : Option Tree) → IfSome (subtasks_by o r) IsFormAgain
form_again None None = refl
form_again (Some e) None = if_map (tuple false) AreSubtasksAgain IsFormAgain (λ xs h. h) (listed subtask_of e) (listed_again subtask_of subtask_expression bare_subtask subtask_again e)
form_again None (Some e) = if_map (tuple true) AreSubtasksAgain IsFormAgain (λ xs h. h) (listed subtask_of e) (listed_again subtask_of subtask_expression bare_subtask subtask_again e)
form_again (Some e) (Some f) = tt

abbrev AreListsAgain : List Pair × List Constraint → Type 0
AreListsAgain p = ArePairsAgain p.0 × AreConstraintsAgain p.1

network_from : (p : List Pair × List Constraint) (q : Bool × List Subtask) → AreListsAgain p → IsFormAgain q → IsNetworkAgain (network_with p q)
network_from (ps, cs) (b, xs) h k = (k, h.0, h.1)

pub network_again : (ts : Trees) → IfSome (network_of ts) IsNetworkAgain
network_again ts =
    if_both network_with AreListsAgain IsFormAgain IsNetworkAgain network_from
    (both tuple (listed_at pair_of (field slots.Ordering ts)) (listed_at constraint_of (field slots.Constraints ts)))
    (subtasks_by (field slots.Subtasks ts) (field slots.OrderedSubtasks ts))
    (if_both tuple ArePairsAgain AreConstraintsAgain AreListsAgain (λ ps cs h k. (h, k)) (listed_at pair_of (field slots.Ordering ts)) (listed_at constraint_of (field slots.Constraints ts))
    (pairs_again (field slots.Ordering ts)) (constraints_again (field slots.Constraints ts)))
    (form_again (field slots.Subtasks ts) (field slots.OrderedSubtasks ts))

combined : (o : Option (List Pair)) (r : Option (List Constraint)) (q : Option (Bool × List Subtask)) (xs : List Subtask) (b : Bool) (ps : List Pair) (cs : List Constraint)
    → o ≡ Some ps → r ≡ Some cs → q ≡ Some (b, xs) → both network_with (both tuple o r) q ≡ Some (network xs b ps cs)
combined o r q xs b ps cs h k l = rw (h, k, l) refl

ordering_is : (xs : List Subtask) (b : Bool) (ps : List Pair) (cs : List Constraint) → ArePairsAgain ps → listed_at pair_of (field slots.Ordering (network_fields (network xs b ps cs))) ≡ Some (map bare_pair ps)
ordering_is xs true [] [] h = refl
ordering_is xs true [] (c ∷ cs) h = refl
ordering_is xs true (p ∷ ps) cs h = h
ordering_is xs false [] [] h = refl
ordering_is xs false [] (c ∷ cs) h = refl
ordering_is xs false (p ∷ ps) cs h = h

constraints_are : (xs : List Subtask) (b : Bool) (ps : List Pair) (cs : List Constraint) → AreConstraintsAgain cs → listed_at constraint_of (field slots.Constraints (network_fields (network xs b ps cs))) ≡ Some (map bare_constraint cs)
constraints_are xs true [] [] h = refl
constraints_are xs true [] (c ∷ cs) h = h
constraints_are xs true (p ∷ ps) [] h = refl
constraints_are xs true (p ∷ ps) (c ∷ cs) h = h
constraints_are xs false [] [] h = refl
constraints_are xs false [] (c ∷ cs) h = h
constraints_are xs false (p ∷ ps) [] h = refl
constraints_are xs false (p ∷ ps) (c ∷ cs) h = h

abbrev form_of : Trees → Option (Bool × List Subtask)
form_of ts = subtasks_by (field slots.Subtasks ts) (field slots.OrderedSubtasks ts)

form_is : (xs : List Subtask) (b : Bool) (ps : List Pair) (cs : List Constraint) → AreSubtasksAgain xs → form_of (network_fields (network xs b ps cs)) ≡ Some (b, map bare_subtask xs)
form_is xs true [] [] h = ap (option_map (tuple true)) h
form_is xs true [] (c ∷ cs) h = ap (option_map (tuple true)) h
form_is xs true (p ∷ ps) [] h = ap (option_map (tuple true)) h
form_is xs true (p ∷ ps) (c ∷ cs) h = ap (option_map (tuple true)) h
form_is xs false [] [] h = ap (option_map (tuple false)) h
form_is xs false [] (c ∷ cs) h = ap (option_map (tuple false)) h
form_is xs false (p ∷ ps) [] h = ap (option_map (tuple false)) h
form_is xs false (p ∷ ps) (c ∷ cs) h = ap (option_map (tuple false)) h

-- the fields of a network are read as the network
pub fields_again : (n : Network) → IsNetworkAgain n → network_of (network_fields n) ≡ Some (bare_network n)
fields_again n h =
    combined (listed_at pair_of (field slots.Ordering (network_fields n))) (listed_at constraint_of (field slots.Constraints (network_fields n))) (form_of (network_fields n))
    (map bare_subtask n.subtasks) n.is_ordered (map bare_pair n.pairs) (map bare_constraint n.constraints)
    (ordering_is n.subtasks n.is_ordered n.pairs n.constraints h.1) (constraints_are n.subtasks n.is_ordered n.pairs n.constraints h.2) (form_is n.subtasks n.is_ordered n.pairs n.constraints h.0)

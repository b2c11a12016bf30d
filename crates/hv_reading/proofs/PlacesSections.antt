-- What is read of sections, domains and problems does not look at places.
use Rattle.std.proofs.Common.{◌≡◌, ◌&&◌, ◌||◌, ℕ, Bool, true, false, List, [], ◌∷◌, ◌++◌, map, Option, Some, None, Result, Ok, Err, option_map, refl, sym, ap, ◌∙◌, codes, if◌then◌else◌}
use Rattle.std.proofs.lemmas.List.{map-append}
use Rattle.std.specs.Prelude.{option_and_then}
use Rattle.hv_text.specs.Trees.{Tree, word, list, Trees, none, more}
use Rattle.hv_text.specs.Words.{nowhere}
use Rattle.hv_text.specs.declared.span.Span.{Span}
use Rattle.hv_reading.specs.declared.word.Sort.TheVariants as sorts
use Rattle.hv_reading.specs.declared.field.Slot.{Slot}
use Rattle.hv_reading.specs.declared.field.Slot.TheVariants as slots
use Rattle.hv_reading.specs.declared.fault.SyntaxKind.{SyntaxKind}
use Rattle.hv_reading.specs.declared.section.Standing.{Standing}
use Rattle.hv_syntax.specs.Values.{WordAt, Term, constant, variable, Atom, Typed, Variable, Formula, Formulas, holds, and, or, not, imply, forall, exists, equal, no_formulas, more_formulas, Literal, Effect, typed, Network, predicate, task, method, action, Domain, htn}
use Rattle.hv_reading.specs.Words.{is, is_the_word}
use Rattle.hv_reading.specs.inside.Words.{sorted_word_of, symbol_of}
use Rattle.hv_reading.specs.inside.Reading.{both, every, only, tuple}
use Rattle.hv_reading.specs.inside.TypedLists.{typed_list_of, typed_variables_of}
use Rattle.hv_reading.specs.Lists.{conjuncts}
use Rattle.hv_reading.specs.Fields.{field, is_field_list}
use Rattle.hv_reading.specs.inside.Networks.{network_of}
use Rattle.hv_reading.specs.Unsupported.{has_unsupported}
use Rattle.hv_reading.specs.Declarations.{are_none, no_conjuncts, is_nothing, method_slots}
use Rattle.hv_reading.specs.inside.Declarations.{predicate_of, parameters_at, precondition_at, effect_at, task_at, task_named, task_of, method_named, method_of, action_named, action_of}
use Rattle.hv_reading.specs.Sections.{is_headed_by, occurs}
use Rattle.hv_reading.specs.inside.Sections.{refused, one_name, keyword_of, title_of, defined_with, define_form, judged, at_place, section_of, ◌>>=◌, sections_from}
use Rattle.hv_syntax.specs.Domains as d
use Rattle.hv_syntax.specs.Domains.{DomainSection, has_types, has_constants, has_predicates, has_task, has_method, has_action, no_domain, add_section}
use Rattle.hv_reading.specs.Standings.{domain_standing}
use Rattle.hv_reading.specs.inside.Domains.{domain_section_by, domain_in, domain_of}
use Rattle.hv_reading.specs.Declarations.{htn_slots}
use Rattle.hv_reading.specs.inside.Problems.{htn_of}
use Rattle.hv_reading.specs.Bare.{bare_word, bare_term, bare_atom, bare_typed, bare_type, bare_variable, bare_formula, bare_formulas, bare_literal, bare_effect, bare_network, bare_predicate, bare_task, bare_method, bare_action, bare_domain, bare_htn}
use Rattle.hv_text.specs.Shapes.{bare_tree, bare_trees}
use Rattle.hv_reading.proofs.PlacesEffects.{effect_same}
use Rattle.hv_reading.proofs.Places.{Same, same_map, same_both, same_if, same_then, every_same, sorted_same, symbol_same, word_is_same, atom_same, typed_list_same, typed_variables_same, only_bare, conjuncts_same, formula_same, field_same, field_list_same, network_same}

predicate_same : (t : Tree) → Same bare_predicate (predicate_of (bare_tree t)) (predicate_of t)
predicate_same (word w s) = refl
predicate_same (list none s) = refl
predicate_same (list (more t ts) s) =
    same_both predicate predicate bare_word (map bare_variable) bare_predicate (λ x y z w e f. ap (λ u. predicate u (map bare_variable z)) e ∙ ap (predicate (bare_word y)) f)
    (symbol_of (bare_tree t)) (symbol_of t) (typed_variables_of (bare_trees ts)) (typed_variables_of ts) (symbol_same t) (typed_variables_same ts)

parameters_same : (o : Option Tree) → Same (map bare_variable) (parameters_at (option_map bare_tree o)) (parameters_at o)
parameters_same None = refl
parameters_same (Some (word w s)) = refl
parameters_same (Some (list ts s)) = typed_variables_same ts

precondition_same : (o : Option Tree) → Same bare_formula (precondition_at (option_map bare_tree o)) (precondition_at o)
precondition_same None = refl
precondition_same (Some t) = formula_same t

effect_at_same : (o : Option Tree) → Same bare_effect (effect_at (option_map bare_tree o)) (effect_at o)
effect_at_same None = refl
effect_at_same (Some t) = effect_same t

task_at_same : (o : Option Tree) → Same bare_atom (task_at (option_map bare_tree o)) (task_at o)
task_at_same None = refl
task_at_same (Some t) = atom_same t

-- what a field says
at_same : {A : Type 0} (read : Option Tree → Option A) (a : A → A) → ((o : Option Tree) → Same a (read (option_map bare_tree o)) (read o)) → (s : Slot) (ts : Trees) → Same a (read (field s (bare_trees ts))) (read (field s ts))
at_same read a h s ts = ap (λ o. option_map a (read o)) (field_same s ts) ∙ h (field s ts)

none_same : (ts : Trees) → are_none (bare_trees ts) ≡ are_none ts
none_same none = refl
none_same (more t ts) = refl

no_conjuncts_same : (o : Option Trees) → no_conjuncts (option_map bare_trees o) ≡ no_conjuncts o
no_conjuncts_same None = refl
no_conjuncts_same (Some ts) = none_same ts

nothing_same : (o : Option Tree) → is_nothing (option_map bare_tree o) ≡ is_nothing o
nothing_same None = refl
nothing_same (Some t) = ap no_conjuncts (conjuncts_same t) ∙ no_conjuncts_same (conjuncts t)

-- what is read where a test holds
tested : {A : Type 0} (a : A → A) (k l : Bool) (o r : Option A) → k ≡ l → Same a o r → Same a (if k then o else None) (if l then r else None)
tested a k l o r e h = ap (λ x. option_map a (if x then o else None)) e ∙ same_if a l o r None None h refl

abbrev task_test : Trees → Bool
task_test ts = is_field_list (slots.Parameters ∷ slots.Precondition ∷ slots.Effect ∷ []) ts && is_nothing (field slots.Precondition ts) && is_nothing (field slots.Effect ts)

task_test_same : (ts : Trees) → task_test (bare_trees ts) ≡ task_test ts
task_test_same ts =
    ap (λ b. b && is_nothing (field slots.Precondition (bare_trees ts)) && is_nothing (field slots.Effect (bare_trees ts))) (field_list_same (slots.Parameters ∷ slots.Precondition ∷ slots.Effect ∷ []) ts)
    ∙ ap (λ o. is_field_list (slots.Parameters ∷ slots.Precondition ∷ slots.Effect ∷ []) ts && is_nothing o && is_nothing (field slots.Effect (bare_trees ts))) (field_same slots.Precondition ts)
    ∙ ap (λ b. is_field_list (slots.Parameters ∷ slots.Precondition ∷ slots.Effect ∷ []) ts && b && is_nothing (field slots.Effect (bare_trees ts))) (nothing_same (field slots.Precondition ts))
    ∙ ap (λ o. is_field_list (slots.Parameters ∷ slots.Precondition ∷ slots.Effect ∷ []) ts && is_nothing (field slots.Precondition ts) && is_nothing o) (field_same slots.Effect ts)
    ∙ ap (λ b. is_field_list (slots.Parameters ∷ slots.Precondition ∷ slots.Effect ∷ []) ts && is_nothing (field slots.Precondition ts) && b) (nothing_same (field slots.Effect ts))

module _ (a b : Span) (ts : Trees) where
  task_named_same : (w u : WordAt) → bare_word w ≡ bare_word u → Same bare_task (task_named a (bare_trees ts) w) (task_named b ts u)
  task_named_same w u e =
      tested bare_task (task_test (bare_trees ts)) (task_test ts) (option_map (task a w) (parameters_at (field slots.Parameters (bare_trees ts)))) (option_map (task b u) (parameters_at (field slots.Parameters ts))) (task_test_same ts)
      (same_map (task a w) (task b u) (map bare_variable) bare_task (λ x y f. ap (λ z. task nowhere z (map bare_variable x)) e ∙ ap (task nowhere (bare_word u)) f)
      (parameters_at (field slots.Parameters (bare_trees ts))) (parameters_at (field slots.Parameters ts)) (at_same parameters_at (map bare_variable) parameters_same slots.Parameters ts))

  abbrev bare_body : List Variable × Effect → List Variable × Effect
  bare_body q = (map bare_variable q.0, bare_effect q.1)

  action_alike : (w u : WordAt) → bare_word w ≡ bare_word u → (x y : List Variable × Effect) (f g : Formula) → bare_body x ≡ bare_body y → bare_formula f ≡ bare_formula g → bare_action (action a w x f) ≡ bare_action (action b u y g)
  action_alike w u e (x, i) (y, j) f g h k =
      ap (λ z. action nowhere z (map bare_variable x, bare_effect i) (bare_formula f)) e ∙ ap (λ z. action nowhere (bare_word u) z (bare_formula f)) h ∙ ap (action nowhere (bare_word u) (map bare_variable y, bare_effect j)) k

  action_named_same : (w u : WordAt) → bare_word w ≡ bare_word u → Same bare_action (action_named a (bare_trees ts) w) (action_named b ts u)
  action_named_same w u e =
      let o : Option (List Variable) = parameters_at (field slots.Parameters (bare_trees ts)) in
      let r : Option (List Variable) = parameters_at (field slots.Parameters ts) in
      let i : Option Effect = effect_at (field slots.Effect (bare_trees ts)) in
      let j : Option Effect = effect_at (field slots.Effect ts) in
      let f : Option Formula = precondition_at (field slots.Precondition (bare_trees ts)) in
      let g : Option Formula = precondition_at (field slots.Precondition ts) in
      tested bare_action (is_field_list (slots.Parameters ∷ slots.Precondition ∷ slots.Effect ∷ []) (bare_trees ts)) (is_field_list (slots.Parameters ∷ slots.Precondition ∷ slots.Effect ∷ []) ts)
      (both (action a w) (both tuple o i) f) (both (action b u) (both tuple r j) g) (field_list_same (slots.Parameters ∷ slots.Precondition ∷ slots.Effect ∷ []) ts)
      (same_both (action a w) (action b u) bare_body bare_formula bare_action (action_alike w u e) (both tuple o i) (both tuple r j) f g
      (same_both tuple tuple (map bare_variable) bare_effect bare_body (λ x y z v h k. ap (λ q. tuple q (bare_effect z)) h ∙ ap (tuple (map bare_variable y)) k) o r i j
      (at_same parameters_at (map bare_variable) parameters_same slots.Parameters ts) (at_same effect_at bare_effect effect_at_same slots.Effect ts))
      (at_same precondition_at bare_formula precondition_same slots.Precondition ts))

  abbrev bare_head : List Variable × Atom → List Variable × Atom
  bare_head q = (map bare_variable q.0, bare_atom q.1)

  abbrev bare_whole : (List Variable × Atom) × Network → (List Variable × Atom) × Network
  bare_whole q = (bare_head q.0, bare_network q.1)

  method_alike : (w u : WordAt) → bare_word w ≡ bare_word u → (x y : (List Variable × Atom) × Network) (f g : Formula) → bare_whole x ≡ bare_whole y → bare_formula f ≡ bare_formula g → bare_method (method a w x f) ≡ bare_method (method b u y g)
  method_alike w u e ((x, i), m) ((y, j), n) f g h k =
      ap (λ z. method nowhere z ((map bare_variable x, bare_atom i), bare_network m) (bare_formula f)) e ∙ ap (λ z. method nowhere (bare_word u) z (bare_formula f)) h
      ∙ ap (method nowhere (bare_word u) ((map bare_variable y, bare_atom j), bare_network n)) k

  method_named_same : (w u : WordAt) → bare_word w ≡ bare_word u → Same bare_method (method_named a (bare_trees ts) w) (method_named b ts u)
  method_named_same w u e =
      let o : Option (List Variable) = parameters_at (field slots.Parameters (bare_trees ts)) in
      let r : Option (List Variable) = parameters_at (field slots.Parameters ts) in
      let i : Option Atom = task_at (field slots.Task (bare_trees ts)) in
      let j : Option Atom = task_at (field slots.Task ts) in
      let f : Option Formula = precondition_at (field slots.Precondition (bare_trees ts)) in
      let g : Option Formula = precondition_at (field slots.Precondition ts) in
      tested bare_method (is_field_list method_slots (bare_trees ts)) (is_field_list method_slots ts)
      (both (method a w) (both tuple (both tuple o i) (network_of (bare_trees ts))) f) (both (method b u) (both tuple (both tuple r j) (network_of ts)) g) (field_list_same method_slots ts)
      (same_both (method a w) (method b u) bare_whole bare_formula bare_method (method_alike w u e) (both tuple (both tuple o i) (network_of (bare_trees ts))) (both tuple (both tuple r j) (network_of ts)) f g
      (same_both tuple tuple bare_head bare_network bare_whole (λ x y z v h k. ap (λ q. tuple q (bare_network z)) h ∙ ap (tuple (bare_head y)) k) (both tuple o i) (both tuple r j) (network_of (bare_trees ts)) (network_of ts)
      (same_both tuple tuple (map bare_variable) bare_atom bare_head (λ x y z v h k. ap (λ q. tuple q (bare_atom z)) h ∙ ap (tuple (map bare_variable y)) k) o r i j
      (at_same parameters_at (map bare_variable) parameters_same slots.Parameters ts) (at_same task_at bare_atom task_at_same slots.Task ts))
      (network_same ts))
      (at_same precondition_at bare_formula precondition_same slots.Precondition ts))

  pub htn_same : Same bare_htn (htn_of a (bare_trees ts)) (htn_of b ts)
  htn_same =
      tested bare_htn (is_field_list htn_slots (bare_trees ts)) (is_field_list htn_slots ts)
      (both (htn a) (parameters_at (field slots.Parameters (bare_trees ts))) (network_of (bare_trees ts))) (both (htn b) (parameters_at (field slots.Parameters ts)) (network_of ts)) (field_list_same htn_slots ts)
      (same_both (htn a) (htn b) (map bare_variable) bare_network bare_htn (λ x y z v h k. ap (λ q. htn nowhere q (bare_network z)) h ∙ ap (htn nowhere (map bare_variable y)) k)
      (parameters_at (field slots.Parameters (bare_trees ts))) (parameters_at (field slots.Parameters ts)) (network_of (bare_trees ts)) (network_of ts)
      (at_same parameters_at (map bare_variable) parameters_same slots.Parameters ts) (network_same ts))

module _ (a b : Span) where
  task_same : (ts : Trees) → Same bare_task (task_of a (bare_trees ts)) (task_of b ts)
  task_same none = refl
  task_same (more t ts) = same_then (task_named a (bare_trees ts)) (task_named b ts) bare_word bare_task (task_named_same a b ts) (symbol_of (bare_tree t)) (symbol_of t) (symbol_same t)

  action_same : (ts : Trees) → Same bare_action (action_of a (bare_trees ts)) (action_of b ts)
  action_same none = refl
  action_same (more t ts) = same_then (action_named a (bare_trees ts)) (action_named b ts) bare_word bare_action (action_named_same a b ts) (symbol_of (bare_tree t)) (symbol_of t) (symbol_same t)

  method_same : (ts : Trees) → Same bare_method (method_of a (bare_trees ts)) (method_of b ts)
  method_same none = refl
  method_same (more t ts) = same_then (method_named a (bare_trees ts)) (method_named b ts) bare_word bare_method (method_named_same a b ts) (symbol_of (bare_tree t)) (symbol_of t) (symbol_same t)

-- sections
name_same : (o : Option Tree) → Same bare_word (option_and_then (sorted_word_of sorts.Name) (option_map bare_tree o)) (option_and_then (sorted_word_of sorts.Name) o)
name_same None = refl
name_same (Some t) = sorted_same sorts.Name t

pub one_name_same : (ts : Trees) → Same bare_word (one_name (bare_trees ts)) (one_name ts)
one_name_same ts = ap (λ o. option_map bare_word (option_and_then (sorted_word_of sorts.Name) o)) (only_bare ts) ∙ name_same (only ts)

pub title_same : (v : List ℕ) (t : Tree) → Same bare_word (title_of v (bare_tree t)) (title_of v t)
title_same v (word w s) = refl
title_same v (list none s) = refl
title_same v (list (more t ts) s) = tested bare_word (is_the_word v (bare_tree t)) (is_the_word v t) (one_name (bare_trees ts)) (one_name ts) (word_is_same v t) (one_name_same ts)

head_same : (v : List ℕ) (t : Tree) → is_headed_by v (bare_tree t) ≡ is_headed_by v t
head_same v (word w s) = refl
head_same v (list none s) = refl
head_same v (list (more (word w p) ts) s) = refl
head_same v (list (more (list us p) ts) s) = refl

occurs_same : (v : List ℕ) (ts : List Tree) → occurs v (map bare_tree ts) ≡ occurs v ts
occurs_same v [] = refl
occurs_same v (t ∷ ts) = ap (λ b. b || occurs v (map bare_tree ts)) (head_same v t) ∙ ap (λ b. is_headed_by v t || b) (occurs_same v ts)

abbrev pub ok_of : {A E : Type 0} → Result A E → Option A
ok_of (Ok x) = Some x
ok_of (Err e) = None

abbrev pub SameOk : {A : Type 0} → (A → A) → Result A (SyntaxKind × Span) → Result A (SyntaxKind × Span) → Type 0
SameOk a r q = Same a (ok_of r) (ok_of q)

judged_same : {S : Type 0} (a : S → S) (k : Option SyntaxKind) (x y : Bool) (o r : Option S) (s t : Span) → Same a o r → SameOk a (at_place s (judged k x o)) (at_place t (judged k y r))
judged_same a (Some kind) x y o r s t e = refl
judged_same a None x y None None s t e = refl
judged_same a None x y None (Some z) s t e = absurd cc
judged_same a None x y (Some z) None s t e = absurd cc
judged_same a None x y (Some z) (Some w) s t e = e

pub then_same : {S V : Type 0} (a : S → S) (b : V → V) (r q : Result S (SyntaxKind × Span)) (f g : S → Result V (SyntaxKind × Span)) → SameOk a r q → ((x y : S) → a x ≡ a y → SameOk b (f x) (g y)) → SameOk b (r >>= f) (q >>= g)
then_same a b (Ok x) (Ok y) f g e h = let same : a x ≡ a y = cc in h x y same
then_same a b (Ok x) (Err y) f g e h = absurd cc
then_same a b (Err x) (Ok y) f g e h = absurd cc
then_same a b (Err x) (Err y) f g e h = refl

module _ {S : Type 0} (standing : List ℕ → Standing) (spelled : List ℕ → Span → Trees → Option S) (a : S → S)
    (h : (w : List ℕ) (s t : Span) (ts : Trees) → Same a (spelled w s (bare_trees ts)) (spelled w t ts)) where
  section_same : (before : List Tree) (t : Tree) → SameOk a (section_of standing spelled (map bare_tree before) (bare_tree t)) (section_of standing spelled before t)
  section_same before (word w s) = refl
  section_same before (list none s) = refl
  section_same before (list (more (word w p) ts) s) =
      ap (λ k. option_map a (ok_of (at_place nowhere (judged (refused (standing w) k) (has_unsupported w (bare_trees ts)) (spelled w nowhere (bare_trees ts)))))) (occurs_same w before)
      ∙ judged_same a (refused (standing w) (occurs w before)) (has_unsupported w (bare_trees ts)) (has_unsupported w ts) (spelled w nowhere (bare_trees ts)) (spelled w s ts) nowhere s (h w nowhere s ts)
  section_same before (list (more (list us p) ts) s) = refl

  module _ {V : Type 0} (add : V → S → V) (b : V → V) (k : (v u : V) (x y : S) → b v ≡ b u → a x ≡ a y → b (add v x) ≡ b (add u y)) where
    pub sections_same : (ts : Trees) (v u : V) (before : List Tree) → b v ≡ b u
        → SameOk b (sections_from (section_of standing spelled) add v (map bare_tree before) (bare_trees ts)) (sections_from (section_of standing spelled) add u before ts)
    sections_same none v u before e = ap Some e
    sections_same (more t ts) v u before e =
        then_same a b (section_of standing spelled (map bare_tree before) (bare_tree t)) (section_of standing spelled before t)
        (λ x. sections_from (section_of standing spelled) add (add v x) (map bare_tree before ++ bare_tree t ∷ []) (bare_trees ts))
        (λ y. sections_from (section_of standing spelled) add (add u y) (before ++ t ∷ []) ts)
        (section_same before t)
        (λ x y f. ap (λ z. option_map b (ok_of (sections_from (section_of standing spelled) add (add v x) z (bare_trees ts)))) (sym (map-append bare_tree before (t ∷ [])))
        ∙ sections_same ts (add v x) (add u y) (before ++ t ∷ []) (k v u x y e f))

-- domains
abbrev bare_section : DomainSection → DomainSection
bare_section (d.has_requirements ws) = d.has_requirements (map bare_word ws)
bare_section (has_types vs) = has_types (map bare_typed vs)
bare_section (has_constants vs) = has_constants (map bare_typed vs)
bare_section (has_predicates ps) = has_predicates (map bare_predicate ps)
bare_section (has_task t) = has_task (bare_task t)
bare_section (has_method m) = has_method (bare_method m)
bare_section (has_action x) = has_action (bare_action x)

domain_section_same : (w : List ℕ) (s t : Span) (ts : Trees) → Same bare_section (domain_section_by w s (bare_trees ts)) (domain_section_by w t ts)
domain_section_same w s t ts =
    same_if bare_section (is w (codes ":requirements")) _ _ _ _
    (same_map d.has_requirements d.has_requirements (map bare_word) bare_section (λ x y e. ap d.has_requirements e) (every keyword_of (bare_trees ts)) (every keyword_of ts) (every_same keyword_of bare_word (sorted_same sorts.Keyword) ts))
    (same_if bare_section (is w (codes ":types")) _ _ _ _
    (same_map has_types has_types (map bare_typed) bare_section (λ x y e. ap has_types e) (typed_list_of (bare_trees ts)) (typed_list_of ts) (typed_list_same ts))
    (same_if bare_section (is w (codes ":constants")) _ _ _ _
    (same_map has_constants has_constants (map bare_typed) bare_section (λ x y e. ap has_constants e) (typed_list_of (bare_trees ts)) (typed_list_of ts) (typed_list_same ts))
    (same_if bare_section (is w (codes ":predicates")) _ _ _ _
    (same_map has_predicates has_predicates (map bare_predicate) bare_section (λ x y e. ap has_predicates e) (every predicate_of (bare_trees ts)) (every predicate_of ts) (every_same predicate_of bare_predicate predicate_same ts))
    (same_if bare_section (is w (codes ":task")) _ _ _ _
    (same_map has_task has_task bare_task bare_section (λ x y e. ap has_task e) (task_of s (bare_trees ts)) (task_of t ts) (task_same s t ts))
    (same_if bare_section (is w (codes ":method")) _ _ _ _
    (same_map has_method has_method bare_method bare_section (λ x y e. ap has_method e) (method_of s (bare_trees ts)) (method_of t ts) (method_same s t ts))
    (same_if bare_section (is w (codes ":action")) _ _ None None
    (same_map has_action has_action bare_action bare_section (λ x y e. ap has_action e) (action_of s (bare_trees ts)) (action_of t ts) (action_same s t ts)) refl))))))

added : (v : Domain) (s : DomainSection) → bare_domain (add_section v s) ≡ add_section (bare_domain v) (bare_section s)
added v (d.has_requirements ws) = refl
added v (has_types vs) = refl
added v (has_constants vs) = refl
added v (has_predicates ps) = refl
added v (has_task t) = ap (λ x. record (bare_domain v) { tasks = x }) (map-append bare_task v.tasks (t ∷ []))
added v (has_method m) = ap (λ x. record (bare_domain v) { methods = x }) (map-append bare_method v.methods (m ∷ []))
added v (has_action a) = ap (λ x. record (bare_domain v) { actions = x }) (map-append bare_action v.actions (a ∷ []))

add_alike : (v u : Domain) (x y : DomainSection) → bare_domain v ≡ bare_domain u → bare_section x ≡ bare_section y → bare_domain (add_section v x) ≡ bare_domain (add_section u y)
add_alike v u x y e f = added v x ∙ ap (λ z. add_section z (bare_section x)) e ∙ ap (add_section (bare_domain u)) f ∙ sym (added u y)

named_domain : (o r : Option WordAt) (us : Trees) (s : Span) → Same bare_word o r → SameOk bare_domain (domain_in (option_map (defined_with (bare_trees us) nowhere) o)) (domain_in (option_map (defined_with us s) r))
named_domain None None us s e = refl
named_domain None (Some m) us s e = absurd cc
named_domain (Some n) None us s e = absurd cc
named_domain (Some n) (Some m) us s e =
    let same : bare_word n ≡ bare_word m = cc in
    sections_same domain_standing domain_section_by bare_section domain_section_same add_section bare_domain add_alike us (no_domain n) (no_domain m) [] (ap no_domain same)

if_domain : (k : Bool) (o r : Option WordAt) (us : Trees) (s : Span) → Same bare_word o r
    → SameOk bare_domain (domain_in (if k then option_map (defined_with (bare_trees us) nowhere) o else None)) (domain_in (if k then option_map (defined_with us s) r else None))
if_domain true o r us s e = named_domain o r us s e
if_domain false o r us s e = refl

define_domain : (t : Tree) → SameOk bare_domain (domain_in (define_form (codes "domain") (bare_tree t))) (domain_in (define_form (codes "domain") t))
define_domain (word w s) = refl
define_domain (list none s) = refl
define_domain (list (more x none) s) = refl
define_domain (list (more x (more t ts)) s) =
    ap (λ k. option_map bare_domain (ok_of (domain_in (if k then option_map (defined_with (bare_trees ts) nowhere) (title_of (codes "domain") (bare_tree t)) else None)))) (word_is_same (codes "define") x)
    ∙ if_domain (is_the_word (codes "define") x) (title_of (codes "domain") (bare_tree t)) (title_of (codes "domain") t) ts s (title_same (codes "domain") t)

domain_same : (ts : Trees) → SameOk bare_domain (domain_of (bare_trees ts)) (domain_of ts)
domain_same none = refl
domain_same (more t none) = define_domain t
domain_same (more t (more u ts)) = refl

-- taking places away twice is taking them away once
pub map_twice : {A : Type 0} (f : A → A) → ((x : A) → f (f x) ≡ f x) → (xs : List A) → map f (map f xs) ≡ map f xs
map_twice f h [] = refl
map_twice f h (x ∷ xs) = ap (λ z. z ∷ map f (map f xs)) (h x) ∙ ap (λ zs. f x ∷ zs) (map_twice f h xs)

pub term_twice : (x : Term) → bare_term (bare_term x) ≡ bare_term x
term_twice (constant w) = refl
term_twice (variable w) = refl

pub atom_twice : (a : Atom) → bare_atom (bare_atom a) ≡ bare_atom a
atom_twice a = ap (λ xs. record { symbol = bare_word a.symbol; terms = xs }) (map_twice bare_term term_twice a.terms)

pub typed_twice : (vs : List Typed) → map bare_typed (map bare_typed vs) ≡ map bare_typed vs
typed_twice vs = map_twice bare_typed (λ x. refl) vs

type_twice : (ns : List WordAt) → bare_type (bare_type ns) ≡ bare_type ns
type_twice [] = refl
type_twice (n ∷ ns) = map_twice bare_word (λ w. refl) (n ∷ ns)

pub variables_twice : (vs : List Variable) → map bare_variable (map bare_variable vs) ≡ map bare_variable vs
variables_twice vs = map_twice bare_variable (λ v. ap (λ ns. typed ns (bare_word v.name)) (type_twice v.of)) vs

mutual
  pub formula_twice : (f : Formula) → bare_formula (bare_formula f) ≡ bare_formula f
  formula_twice (holds a) = ap holds (atom_twice a)
  formula_twice (and fs) = ap and (formulas_twice fs)
  formula_twice (or fs) = ap or (formulas_twice fs)
  formula_twice (not f) = ap not (formula_twice f)
  formula_twice (imply f g) = rw (formula_twice f, formula_twice g) refl
  formula_twice (forall vs f) = rw (variables_twice vs, formula_twice f) refl
  formula_twice (exists vs f) = rw (variables_twice vs, formula_twice f) refl
  formula_twice (equal x y) = rw (term_twice x, term_twice y) refl

  formulas_twice : (fs : Formulas) → bare_formulas (bare_formulas fs) ≡ bare_formulas fs
  formulas_twice no_formulas = refl
  formulas_twice (more_formulas f fs) = rw (formula_twice f, formulas_twice fs) refl

pub literal_twice : (l : Literal) → bare_literal (bare_literal l) ≡ bare_literal l
literal_twice l = ap (λ a. record { is_positive = l.is_positive; atom = a }) (atom_twice l.atom)

-- what is Ok is found
pub found : {A : Type 0} (a : A → A) (r : Result A (SyntaxKind × Span)) (x : A) → option_map a (ok_of r) ≡ Some x → (y : A) × (r ≡ Ok y) × (a y ≡ x)
found a (Ok y) x e = (y, refl, cc)
found a (Err k) x e = absurd cc

pub domain_found : (us vs : Trees) (e : Domain) → bare_trees us ≡ bare_trees vs → domain_of vs ≡ Ok e → (y : Domain) × (domain_of us ≡ Ok y) × (bare_domain y ≡ bare_domain e)
domain_found us vs e h k =
    found bare_domain (domain_of us) (bare_domain e)
    (sym (domain_same us) ∙ ap (λ x. option_map bare_domain (ok_of (domain_of x))) h ∙ domain_same vs ∙ ap (λ r. option_map bare_domain (ok_of r)) k)

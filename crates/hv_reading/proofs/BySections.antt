-- Whole texts by their sections.
use Rattle.std.proofs.Common.{◌≡◌, ◌⊎◌, inl, inr, ◌↔◌, ◌||◌, ℕ, Bool, true, false, List, [], ◌∷◌, ◌++◌, Option, Some, None, refl, sym, ap, ◌∙◌, subst, codes}
use Rattle.std.proofs.lemmas.List.{append-nil, append_assoc}
use Rattle.std.specs.List.{filter_map}
use Rattle.std.proofs.lemmas.Slice.Eq.{bytes_eq-Decides}
use Rattle.hv_text.specs.Trees.{Tree, word, list, Trees, none, more}
use Rattle.hv_text.specs.declared.span.Span.{Span}
use Rattle.hv_reading.specs.declared.section.Standing.{Standing}
use Rattle.hv_reading.specs.declared.section.Standing.TheVariants as standings
use Rattle.hv_syntax.specs.Values.{WordAt, Literal, Domain, Htn, Problem}
use Rattle.hv_reading.specs.Sections.{is_headed_by, occurs}
use Rattle.hv_syntax.specs.Domains.{DomainSection, has_requirements, has_types, has_constants, has_predicates, has_task, has_method, has_action, no_domain, add_section}
use Rattle.hv_reading.specs.Standings.{domain_standing}
use Rattle.hv_syntax.specs.Problems.{ProblemSection, is_for, has_objects, has_htn, has_init, has_goal, Parts, no_parts, add_part}
use Rattle.hv_reading.specs.Standings.{problem_standing}
use Rattle.hv_syntax.specs.Problems as problems
use Rattle.hv_reading.specs.Spellings.{SpellEach, no_more, one_more, join}
use Rattle.hv_reading.specs.Tables as tables
use Rattle.hv_reading.specs.Tables.{SpellsDomainSection, SpellsProblemSection, MayStand, for_the_first_time, as_often_as_wanted, SpellsSection, a_section, SpellSections, no_sections, more_sections, SpellsDefine, IsDomain, a_domain, IsProblem, a_problem}
use Rattle.hv_reading.specs.BySections.{IsSection, a_list, StandOnce, or_else, or_this, said, of_requirements, of_types, of_constants, of_predicates, of_task, of_method, of_action, SaysDomain, IsDomainBySections, domain_by_sections, of_domain, of_keywords, of_objects, of_htn, of_init, of_goal, IsProblemBySections, problem_by_sections}
use Rattle.hv_reading.proofs.SpellingLemmas.{same_word}
use Rattle.hv_reading.proofs.AgainSections.{nor}

-- what is known, with what sections say added to it one after another
abbrev summed : {S V : Type 0} → (V → S → V) → V → List S → V
summed add v [] = v
summed add v (x ∷ xs) = summed add (add v x) xs

first_of : (t u : Tree) (ts us : Trees) → more t ts ≡ more u us → t ≡ u
first_of t u ts us e = cc

rest_of : (t u : Tree) (ts us : Trees) → more t ts ≡ more u us → ts ≡ us
rest_of t u ts us e = cc

or_step : (a b c : Bool) → (b ≡ true → c ≡ true) → a || b ≡ true → a || c ≡ true
or_step true b c f h = refl
or_step false b c f h = f h

occurs_still : (w : List ℕ) (before : List Tree) (t : Tree) → occurs w before ≡ true → occurs w (before ++ t ∷ []) ≡ true
occurs_still w [] t h = let clash : false ≡ true = h in cc
occurs_still w (s ∷ ss) t h = or_step (is_headed_by w s) (occurs w ss) (occurs w (ss ++ t ∷ [])) (occurs_still w ss t) h

or_true : (b : Bool) → b || true ≡ true
or_true true = refl
or_true false = refl

occurs_last : (w : List ℕ) (before : List Tree) (t : Tree) → is_headed_by w t ≡ true → occurs w (before ++ t ∷ []) ≡ true
occurs_last w [] t h = rw h refl
occurs_last w (s ∷ ss) t h = rw (occurs_last w ss t h) (or_true (is_headed_by w s))

not_headed : (w : List ℕ) (t : Tree) (b : Bool) → is_headed_by w t ≡ b → (b ≡ true → ⊥) → occurs w (t ∷ []) ≡ false
not_headed w t true e f = absurd (f refl)
not_headed w t false e f = rw e refl

module _ {S V : Type 0} (standing : List ℕ → Standing) (Spells : List ℕ → Span → Trees → S → Type 0) (add : V → S → V) where
  -- each section by itself
  alone : (before : List Tree) (t : Tree) (x : S) → SpellsSection standing Spells before t x → IsSection Spells t x
  alone before _ _ (a_section w p s ts x m h) = a_list w p s ts x h

  abbrev AreSaid : Trees → V → V → Type 0
  AreSaid ts v u = (xs : List S) × SpellEach (IsSection Spells) ts xs × (u ≡ summed add v xs)

  one_said : (x : S) (t : Tree) (ts : Trees) (v u : V) → IsSection Spells t x → AreSaid ts (add v x) u → AreSaid (more t ts) v u
  one_said x t ts v u h (xs, each, is) = (x ∷ xs, one_more t ts x xs h each, is)

  pub are_said : (v : V) (before : List Tree) (ts : Trees) (u : V) → SpellSections standing Spells add v before ts u → AreSaid ts v u
  are_said _ _ _ _ (no_sections v before) = ([], no_more, refl)
  are_said _ _ _ _ (more_sections v u before t ts x h k) = one_said x t ts v u (alone before t x h) (are_said (add v x) (before ++ t ∷ []) ts u k)

  -- none a second time
  fresh_by : (before : List Tree) (w v : List ℕ) → MayStand standing before w → w ≡ v → standing v ≡ standings.Once → occurs v before ≡ false
  fresh_by before w v (for_the_first_time e f) same once = subst (λ z. occurs z before ≡ false) same f
  fresh_by before w v (as_often_as_wanted e) same once = let clash : standings.Often ≡ standings.Once = sym e ∙ ap standing same ∙ once in cc

  fresh : (before : List Tree) (t : Tree) (x : S) → SpellsSection standing Spells before t x → (v : List ℕ) → is_headed_by v t ≡ true → standing v ≡ standings.Once → occurs v before ≡ false
  fresh before _ _ (a_section w p s ts x m h) v e once = fresh_by before w v m (same_word w v e) once

  not_again : (v : V) (before : List Tree) (ts : Trees) (u : V) → SpellSections standing Spells add v before ts u → (w : List ℕ) → standing w ≡ standings.Once → occurs w before ≡ true
      → (between : Trees) (t : Tree) (behind : Trees) → ts ≡ join between (more t behind) → is_headed_by w t ≡ true → ⊥
  not_again _ _ _ _ (no_sections v before) w once stood none t behind e h = cc
  not_again _ _ _ _ (no_sections v before) w once stood (more s between) t behind e h = cc
  not_again _ _ _ _ (more_sections v u before s ts x k l) w once stood none t behind e h =
      let here : is_headed_by w s ≡ true = ap (is_headed_by w) (first_of s t ts behind e) ∙ h in
      let clash : true ≡ false = sym stood ∙ fresh before s x k w here once in
      cc
  not_again _ _ _ _ (more_sections v u before s ts x k l) w once stood (more r between) t behind e h =
      not_again (add v x) (before ++ s ∷ []) ts u l w once (occurs_still w before s stood) between t behind (rest_of s r ts (join between (more t behind)) e) h

  pub they_stand_once : (v : V) (before : List Tree) (ts : Trees) (u : V) → SpellSections standing Spells add v before ts u → StandOnce standing ts
  they_stand_once _ _ _ _ (no_sections v before) w none between behind t r e h k once = cc
  they_stand_once _ _ _ _ (no_sections v before) w (more s front) between behind t r e h k once = cc
  they_stand_once _ _ _ _ (more_sections v u before s ts x l m) w none between behind t r e h k once =
      let here : is_headed_by w s ≡ true = ap (is_headed_by w) (first_of s t ts (join between (more r behind)) e) ∙ h in
      not_again (add v x) (before ++ s ∷ []) ts u m w once (occurs_last w before s here) between r behind (rest_of s t ts (join between (more r behind)) e) k
  they_stand_once _ _ _ _ (more_sections v u before s ts x l m) w (more q front) between behind t r e h k once =
      they_stand_once (add v x) (before ++ s ∷ []) ts u m w front between behind t r (rest_of s q ts (join front (more t (join between (more r behind)))) e) h k once

  -- and back
  abbrev AreNew : List Tree → Trees → Type 0
  AreNew before ts = (w : List ℕ) → standing w ≡ standings.Once → (front : Trees) (t : Tree) (behind : Trees) → ts ≡ join front (more t behind) → is_headed_by w t ≡ true → occurs w before ≡ false

  new_behind : (before : List Tree) (t : Tree) (ts : Trees) → StandOnce standing (more t ts) → AreNew before (more t ts) → AreNew (before ++ t ∷ []) ts
  new_behind before t ts once new w o front u behind e h =
      nor w before (t ∷ []) (new w o (more t front) u behind (ap (more t) e) h)
      (not_headed w t (is_headed_by w t) refl (λ k. once w none front behind t u (ap (more t) e) k h o))

  once_behind : (t : Tree) (ts : Trees) → StandOnce standing (more t ts) → StandOnce standing ts
  once_behind t ts once w front between behind r u e h k = once w (more t front) between behind r u (ap (more t) e) h k

  abbrev MayBeHead : List ℕ → Type 0
  MayBeHead w = (standing w ≡ standings.Once) ⊎ (standing w ≡ standings.Often)

  may_stand : (before : List Tree) (w : List ℕ) → MayBeHead w → (standing w ≡ standings.Once → occurs w before ≡ false) → MayStand standing before w
  may_stand before w (inl e) f = for_the_first_time e (f e)
  may_stand before w (inr e) f = as_often_as_wanted e

  module _ (may : (w : List ℕ) (s : Span) (ts : Trees) (x : S) → Spells w s ts x → MayBeHead w) where
    pub from_alone : (ts : Trees) (xs : List S) → SpellEach (IsSection Spells) ts xs → StandOnce standing ts → (v : V) (before : List Tree) → AreNew before ts
        → SpellSections standing Spells add v before ts (summed add v xs)
    from_alone _ _ no_more once v before new = no_sections v before
    from_alone _ _ (one_more _ ts _ xs (a_list w p s us x h) k) once v before new =
        let t : Tree = list (more (word w p) us) s in
        let m : MayStand standing before w = may_stand before w (may w s us x h) (λ o. new w o none t ts refl ((bytes_eq-Decides w w).1 refl)) in
        more_sections v (summed add (add v x) xs) before t ts x (a_section w p s us x m h)
        (from_alone ts xs k (once_behind t ts once) (add v x) (before ++ t ∷ []) (new_behind before t ts once new))

-- what they say together
joined : {A : Type 0} (a : A) (o r : Option A) → or_this (or_this a o) r ≡ or_this a (or_else r o)
joined a o None = refl
joined a o (Some b) = refl

or_else_assoc : {A : Type 0} (o r a : Option A) → or_else r (or_else o a) ≡ or_else (or_else r o) a
or_else_assoc o None a = refl
or_else_assoc o (Some b) a = refl

or_none : {A : Type 0} (o : Option A) → or_else o None ≡ o
or_none None = refl
or_none (Some a) = refl

abbrev listed_one : {A : Type 0} → Option A → List A
listed_one None = []
listed_one (Some a) = a ∷ []

one_filtered : {S A : Type 0} (f : S → Option A) (x : S) (xs : List S) (o : Option A) → f x ≡ o → listed_one o ++ filter_map f xs ≡ filter_map f (x ∷ xs)
one_filtered f x xs None e = rw e refl
one_filtered f x xs (Some a) e = rw e refl

module _ {S V A : Type 0} (add : V → S → V) (f : S → Option A) where
  pub said_last : (get : V → A) → ((v : V) (x : S) → get (add v x) ≡ or_this (get v) (f x)) → (v : V) (xs : List S) → get (summed add v xs) ≡ or_this (get v) (said f xs)
  said_last get step v [] = refl
  said_last get step v (x ∷ xs) = said_last get step (add v x) xs ∙ ap (λ a. or_this a (said f xs)) (step v x) ∙ joined (get v) (f x) (said f xs)

  pub said_if : (get : V → Option A) → ((v : V) (x : S) → get (add v x) ≡ or_else (f x) (get v)) → (v : V) (xs : List S) → get (summed add v xs) ≡ or_else (said f xs) (get v)
  said_if get step v [] = refl
  said_if get step v (x ∷ xs) = said_if get step (add v x) xs ∙ ap (or_else (said f xs)) (step v x) ∙ or_else_assoc (f x) (said f xs) (get v)

  pub said_each : (get : V → List A) → ((v : V) (x : S) → get (add v x) ≡ get v ++ listed_one (f x)) → (v : V) (xs : List S) → get (summed add v xs) ≡ get v ++ filter_map f xs
  said_each get step v [] = sym (append-nil (get v))
  said_each get step v (x ∷ xs) =
      said_each get step (add v x) xs ∙ ap (λ l. l ++ filter_map f xs) (step v x) ∙ append_assoc (get v) (listed_one (f x)) (filter_map f xs)
      ∙ ap (λ l. get v ++ l) (one_filtered f x xs (f x) refl)

-- domains
requirements_step : (d : Domain) (x : DomainSection) → (add_section d x).requirements ≡ or_this d.requirements (of_requirements x)
requirements_step d (has_requirements ws) = refl
requirements_step d _ = refl

types_step : (d : Domain) (x : DomainSection) → (add_section d x).types ≡ or_this d.types (of_types x)
types_step d (has_types vs) = refl
types_step d _ = refl

constants_step : (d : Domain) (x : DomainSection) → (add_section d x).constants ≡ or_this d.constants (of_constants x)
constants_step d (has_constants vs) = refl
constants_step d _ = refl

predicates_step : (d : Domain) (x : DomainSection) → (add_section d x).predicates ≡ or_this d.predicates (of_predicates x)
predicates_step d (has_predicates ps) = refl
predicates_step d _ = refl

tasks_step : (d : Domain) (x : DomainSection) → (add_section d x).tasks ≡ d.tasks ++ listed_one (of_task x)
tasks_step d (has_task t) = refl
tasks_step d _ = sym (append-nil d.tasks)

methods_step : (d : Domain) (x : DomainSection) → (add_section d x).methods ≡ d.methods ++ listed_one (of_method x)
methods_step d (has_method m) = refl
methods_step d _ = sym (append-nil d.methods)

actions_step : (d : Domain) (x : DomainSection) → (add_section d x).actions ≡ d.actions ++ listed_one (of_action x)
actions_step d (has_action a) = refl
actions_step d _ = sym (append-nil d.actions)

name_step : (d : Domain) (x : DomainSection) → (add_section d x).name ≡ d.name
name_step d (has_types vs) = refl
name_step d _ = refl

name_kept : (d : Domain) (xs : List DomainSection) → (summed add_section d xs).name ≡ d.name
name_kept d [] = refl
name_kept d (x ∷ xs) = name_kept (add_section d x) xs ∙ name_step d x

domain_says : (n : WordAt) (xs : List DomainSection) → SaysDomain n xs (summed add_section (no_domain n) xs)
domain_says n xs =
    record {
      name = name_kept (no_domain n) xs;
      requirements = said_last add_section of_requirements (λ d. d.requirements) requirements_step (no_domain n) xs;
      types = said_last add_section of_types (λ d. d.types) types_step (no_domain n) xs;
      constants = said_last add_section of_constants (λ d. d.constants) constants_step (no_domain n) xs;
      predicates = said_last add_section of_predicates (λ d. d.predicates) predicates_step (no_domain n) xs;
      tasks = said_each add_section of_task (λ d. d.tasks) tasks_step (no_domain n) xs;
      methods = said_each add_section of_method (λ d. d.methods) methods_step (no_domain n) xs;
      actions = said_each add_section of_action (λ d. d.actions) actions_step (no_domain n) xs;
    }

says_one : (n : WordAt) (xs : List DomainSection) (d e : Domain) → SaysDomain n xs d → SaysDomain n xs e → d ≡ e
says_one n xs d e h k =
    λ j. record {
      name = (h.name ∙ sym k.name) j;
      requirements = (h.requirements ∙ sym k.requirements) j;
      types = (h.types ∙ sym k.types) j;
      constants = (h.constants ∙ sym k.constants) j;
      predicates = (h.predicates ∙ sym k.predicates) j;
      tasks = (h.tasks ∙ sym k.tasks) j;
      methods = (h.methods ∙ sym k.methods) j;
      actions = (h.actions ∙ sym k.actions) j;
    }

domain_heads : (w : List ℕ) (s : Span) (ts : Trees) (x : DomainSection) → SpellsDomainSection w s ts x → MayBeHead domain_standing SpellsDomainSection add_section w
domain_heads _ _ _ _ (tables.requirements s ts ws h) = inl refl
domain_heads _ _ _ _ (tables.types s ts xs h) = inl refl
domain_heads _ _ _ _ (tables.constants s ts xs h) = inl refl
domain_heads _ _ _ _ (tables.predicates s ts ps h) = inl refl
domain_heads _ _ _ _ (tables.task_section s ts x h) = inr refl
domain_heads _ _ _ _ (tables.method_section s ts x h) = inr refl
domain_heads _ _ _ _ (tables.action_section s ts x h) = inr refl

domain_with : (es : Trees) (n : WordAt) (ts : Trees) (s : Span) (d : Domain) → SpellsDefine (codes "domain") es n ts s → StandOnce domain_standing ts
    → AreSaid domain_standing SpellsDomainSection add_section ts (no_domain n) d → IsDomainBySections es d
domain_with es n ts s d h once (xs, each, is) = domain_by_sections es n ts s xs d h each once (subst (SaysDomain n xs) (sym is) (domain_says n xs))

by_its_sections : (es : Trees) (d : Domain) → IsDomain es d → IsDomainBySections es d
by_its_sections _ _ (a_domain es n ts s d h k) =
    domain_with es n ts s d h (they_stand_once domain_standing SpellsDomainSection add_section (no_domain n) [] ts d k) (are_said domain_standing SpellsDomainSection add_section (no_domain n) [] ts d k)

from_its_sections : (es : Trees) (d : Domain) → IsDomainBySections es d → IsDomain es d
from_its_sections _ _ (domain_by_sections es n ts s xs d h each once says) =
    a_domain es n ts s d h
    (subst (SpellSections domain_standing SpellsDomainSection add_section (no_domain n) [] ts) (says_one n xs (summed add_section (no_domain n) xs) d (domain_says n xs) says)
    (from_alone domain_standing SpellsDomainSection add_section domain_heads ts xs each once (no_domain n) [] (λ w o front t behind e k. refl)))

pub domain_sections_table : (es : Trees) (d : Domain) → IsDomain es d ↔ IsDomainBySections es d
domain_sections_table es d = (by_its_sections es d, from_its_sections es d)

-- problems
domain_step : (p : Parts) (x : ProblemSection) → (add_part p x).domain ≡ or_else (of_domain x) p.domain
domain_step p (is_for n) = refl
domain_step p _ = refl

keywords_step : (p : Parts) (x : ProblemSection) → (add_part p x).requirements ≡ or_this p.requirements (of_keywords x)
keywords_step p (problems.has_requirements ws) = refl
keywords_step p _ = refl

objects_step : (p : Parts) (x : ProblemSection) → (add_part p x).objects ≡ or_this p.objects (of_objects x)
objects_step p (has_objects vs) = refl
objects_step p _ = refl

htn_step : (p : Parts) (x : ProblemSection) → (add_part p x).htn ≡ or_else (of_htn x) p.htn
htn_step p (has_htn h) = refl
htn_step p _ = refl

init_step : (p : Parts) (x : ProblemSection) → (add_part p x).init ≡ or_else (of_init x) p.init
init_step p (has_init ls) = refl
init_step p _ = refl

goal_step : (p : Parts) (x : ProblemSection) → (add_part p x).goal ≡ or_else (of_goal x) p.goal
goal_step p (has_goal f) = refl
goal_step p _ = refl

problem_heads : (w : List ℕ) (s : Span) (ts : Trees) (x : ProblemSection) → SpellsProblemSection w s ts x → MayBeHead problem_standing SpellsProblemSection add_part w
problem_heads _ _ _ _ (tables.domain_name s t w h) = inl refl
problem_heads _ _ _ _ (tables.problem_requirements s ts ws h) = inl refl
problem_heads _ _ _ _ (tables.objects s ts xs h) = inl refl
problem_heads _ _ _ _ (tables.htn_section s ts x h) = inl refl
problem_heads _ _ _ _ (tables.init s ts ls h) = inl refl
problem_heads _ _ _ _ (tables.goal s t f h) = inl refl

-- what parts have, by the sections that they are the sum of
module _ (p : Parts) (xs : List ProblemSection) (is : p ≡ summed add_part no_parts xs) where
  domain_is : p.domain ≡ said of_domain xs
  domain_is = ap (λ q. q.domain) is ∙ said_if add_part of_domain (λ q. q.domain) domain_step no_parts xs ∙ or_none (said of_domain xs)

  requirements_are : p.requirements ≡ or_this [] (said of_keywords xs)
  requirements_are = ap (λ q. q.requirements) is ∙ said_last add_part of_keywords (λ q. q.requirements) keywords_step no_parts xs

  objects_are : p.objects ≡ or_this [] (said of_objects xs)
  objects_are = ap (λ q. q.objects) is ∙ said_last add_part of_objects (λ q. q.objects) objects_step no_parts xs

  htn_is : p.htn ≡ said of_htn xs
  htn_is = ap (λ q. q.htn) is ∙ said_if add_part of_htn (λ q. q.htn) htn_step no_parts xs ∙ or_none (said of_htn xs)

  init_is : p.init ≡ said of_init xs
  init_is = ap (λ q. q.init) is ∙ said_if add_part of_init (λ q. q.init) init_step no_parts xs ∙ or_none (said of_init xs)

  goal_is : p.goal ≡ said of_goal xs
  goal_is = ap (λ q. q.goal) is ∙ said_if add_part of_goal (λ q. q.goal) goal_step no_parts xs ∙ or_none (said of_goal xs)

problem_with : (es : Trees) (n : WordAt) (ts : Trees) (s : Span) (p : Parts) (m : WordAt) (h : Htn) (ls : List Literal) → SpellsDefine (codes "problem") es n ts s → StandOnce problem_standing ts
    → p.domain ≡ Some m → p.htn ≡ Some h → p.init ≡ Some ls → AreSaid problem_standing SpellsProblemSection add_part ts no_parts p
    → IsProblemBySections es (record { name = n; domain = m; requirements = p.requirements; objects = p.objects; htn = h; init = ls; goal = p.goal })
problem_with es n ts s p m h ls d once e f g (xs, each, is) =
    problem_by_sections es n ts s xs (record { name = n; domain = m; requirements = p.requirements; objects = p.objects; htn = h; init = ls; goal = p.goal }) d each once
    (record {
      name = refl;
      domain = sym (domain_is p xs is) ∙ e;
      requirements = requirements_are p xs is;
      objects = objects_are p xs is;
      htn = sym (htn_is p xs is) ∙ f;
      init = sym (init_is p xs is) ∙ g;
      goal = goal_is p xs is;
    })

problem_by : (es : Trees) (p : Problem) → IsProblem es p → IsProblemBySections es p
problem_by _ _ (a_problem es n ts s p m h ls d k e f g) =
    problem_with es n ts s p m h ls d (they_stand_once problem_standing SpellsProblemSection add_part no_parts [] ts p k) e f g
    (are_said problem_standing SpellsProblemSection add_part no_parts [] ts p k)

problem_from : (es : Trees) (p : Problem) → IsProblemBySections es p → IsProblem es p
problem_from _ _ (problem_by_sections es n ts s xs p d each once says) =
    let parts : Parts = summed add_part no_parts xs in
    let spelled = from_alone problem_standing SpellsProblemSection add_part problem_heads ts xs each once no_parts [] (λ w o front t behind e k. refl) in
    subst (IsProblem es)
    (λ j. record {
      name = sym says.name j;
      domain = p.domain;
      requirements = (requirements_are parts xs refl ∙ sym says.requirements) j;
      objects = (objects_are parts xs refl ∙ sym says.objects) j;
      htn = p.htn;
      init = p.init;
      goal = (goal_is parts xs refl ∙ sym says.goal) j;
    })
    (a_problem es n ts s parts p.domain p.htn p.init d spelled (domain_is parts xs refl ∙ says.domain) (htn_is parts xs refl ∙ says.htn) (init_is parts xs refl ∙ says.init))

pub problem_sections_table : (es : Trees) (p : Problem) → IsProblem es p ↔ IsProblemBySections es p
problem_sections_table es p = (problem_by es p, problem_from es p)

-- What is read of problems does not look at places; what is read from the canonical text of a problem.
use Rattle.std.proofs.Common.{◌≡◌, ◌≤◌, ℕ, Bool, true, false, List, [], length, map, Option, Some, None, Ok, option_map, refl, sym, ap, ◌∙◌, codes, if◌then◌else◌}
use Rattle.std.specs.Prelude.{option_and_then}
use Rattle.hv_text.specs.Trees.{Tree, word, list, Trees, none, more}
use Rattle.hv_text.specs.Words.{nowhere}
use Rattle.hv_text.specs.Sexps.{AreExpressions}
use Rattle.hv_text.specs.declared.span.Span.{Span}
use Rattle.hv_text.specs.declared.fault.TheConstants.{MOST_BYTES, MOST_OPEN}
use Rattle.hv_reading.specs.declared.word.Sort.TheVariants as sorts
use Rattle.hv_syntax.specs.Values.{WordAt, Formula, Literal, Htn, Problem}
use Rattle.hv_reading.specs.Words.{is, is_the_word}
use Rattle.hv_reading.specs.inside.Reading.{every, only}
use Rattle.hv_reading.specs.inside.TypedLists.{typed_list_of}
use Rattle.hv_reading.specs.inside.Formulas.{formula_of}
use Rattle.hv_reading.specs.inside.Literals.{ground_literal_of}
use Rattle.hv_reading.specs.inside.Sections.{one_name, keyword_of, title_of, defined_with, define_form}
use Rattle.hv_syntax.specs.Problems.{ProblemSection, is_for, has_requirements, has_objects, has_htn, has_init, has_goal, Parts, no_parts, add_part}
use Rattle.hv_reading.specs.Standings.{problem_standing}
use Rattle.hv_reading.specs.inside.Problems.{htn_of, goal_of, problem_section_by, parts_from, whole_by, whole, problem_in, problem_of}
use Rattle.hv_reading.specs.Tables.{IsProblem}
use Rattle.hv_reading.specs.Texts.{IsProblemText}
use Rattle.hv_reading.specs.ReadBack.{IsReadBack}
use Rattle.hv_reading.specs.CanonicalSections.{problem_sections, problem_expression, canonical_problem}
use Rattle.hv_reading.specs.Bare.{bare_word, bare_typed, bare_formula, bare_literal, bare_htn, bare_problem}
use Rattle.hv_text.specs.Shapes.{bare_tree, bare_trees}
use Rattle.hv_reading.proofs.AgainProblems.{problem_again}
use Rattle.hv_reading.proofs.Alike.{problems_alike}
use Rattle.hv_reading.proofs.TextSpellings.{problem_table, one_problem, one_text}
use Rattle.hv_reading.proofs.Fitting.{Fits, all_fit}
use Rattle.hv_reading.proofs.FittingTexts.{problem_said_fits}
use Rattle.hv_reading.proofs.Places.{Same, same_map, same_if, every_same, sorted_same, word_is_same, typed_list_same, only_bare, formula_same, ground_literal_same}
use Rattle.hv_reading.proofs.PlacesSections.{ok_of, SameOk, then_same, sections_same, one_name_same, title_same, htn_same, map_twice, typed_twice, variables_twice, formula_twice, literal_twice, found}
use Rattle.hv_reading.proofs.ReadBack.{network_twice, Tidied, Found, One, definition_found}

abbrev bare_section : ProblemSection → ProblemSection
bare_section (is_for n) = is_for (bare_word n)
bare_section (has_requirements ws) = has_requirements (map bare_word ws)
bare_section (has_objects vs) = has_objects (map bare_typed vs)
bare_section (has_htn h) = has_htn (bare_htn h)
bare_section (has_init ls) = has_init (map bare_literal ls)
bare_section (has_goal f) = has_goal (bare_formula f)

goal_only : (o : Option Tree) → Same bare_formula (option_and_then formula_of (option_map bare_tree o)) (option_and_then formula_of o)
goal_only None = refl
goal_only (Some t) = formula_same t

goal_same : (ts : Trees) → Same bare_formula (goal_of (bare_trees ts)) (goal_of ts)
goal_same ts = ap (λ o. option_map bare_formula (option_and_then formula_of o)) (only_bare ts) ∙ goal_only (only ts)

section_alike : (w : List ℕ) (s t : Span) (ts : Trees) → Same bare_section (problem_section_by w s (bare_trees ts)) (problem_section_by w t ts)
section_alike w s t ts =
    same_if bare_section (is w (codes ":domain")) _ _ _ _
    (same_map is_for is_for bare_word bare_section (λ x y e. ap is_for e) (one_name (bare_trees ts)) (one_name ts) (one_name_same ts))
    (same_if bare_section (is w (codes ":requirements")) _ _ _ _
    (same_map has_requirements has_requirements (map bare_word) bare_section (λ x y e. ap has_requirements e) (every keyword_of (bare_trees ts)) (every keyword_of ts) (every_same keyword_of bare_word (sorted_same sorts.Keyword) ts))
    (same_if bare_section (is w (codes ":objects")) _ _ _ _
    (same_map has_objects has_objects (map bare_typed) bare_section (λ x y e. ap has_objects e) (typed_list_of (bare_trees ts)) (typed_list_of ts) (typed_list_same ts))
    (same_if bare_section (is w (codes ":htn")) _ _ _ _
    (same_map has_htn has_htn bare_htn bare_section (λ x y e. ap has_htn e) (htn_of s (bare_trees ts)) (htn_of t ts) (htn_same s t ts))
    (same_if bare_section (is w (codes ":init")) _ _ _ _
    (same_map has_init has_init (map bare_literal) bare_section (λ x y e. ap has_init e) (every ground_literal_of (bare_trees ts)) (every ground_literal_of ts) (every_same ground_literal_of bare_literal ground_literal_same ts))
    (same_if bare_section (is w (codes ":goal")) _ _ None None
    (same_map has_goal has_goal bare_formula bare_section (λ x y e. ap has_goal e) (goal_of (bare_trees ts)) (goal_of ts) (goal_same ts)) refl)))))

abbrev bare_parts : Parts → Parts
bare_parts p =
    record { domain = option_map bare_word p.domain; requirements = map bare_word p.requirements; objects = map bare_typed p.objects; htn = option_map bare_htn p.htn; init = option_map (map bare_literal) p.init; goal = option_map bare_formula p.goal }

added : (p : Parts) (s : ProblemSection) → bare_parts (add_part p s) ≡ add_part (bare_parts p) (bare_section s)
added p (is_for n) = refl
added p (has_requirements ws) = refl
added p (has_objects vs) = refl
added p (has_htn h) = refl
added p (has_init ls) = refl
added p (has_goal f) = refl

add_alike : (p q : Parts) (x y : ProblemSection) → bare_parts p ≡ bare_parts q → bare_section x ≡ bare_section y → bare_parts (add_part p x) ≡ bare_parts (add_part q y)
add_alike p q x y e f = added p x ∙ ap (λ z. add_part z (bare_section x)) e ∙ ap (add_part (bare_parts q)) f ∙ sym (added q y)

whole_is : (s : Span) (n : WordAt) (p : Parts) (d : Option WordAt) (h : Option Htn) (ls : Option (List Literal))
    → option_map bare_problem (ok_of (whole_by s n p d h ls)) ≡ ok_of (whole_by nowhere (bare_word n) (bare_parts p) (option_map bare_word d) (option_map bare_htn h) (option_map (map bare_literal) ls))
whole_is s n p None h ls = refl
whole_is s n p (Some d) None ls = refl
whole_is s n p (Some d) (Some h) None = refl
whole_is s n p (Some d) (Some h) (Some ls) = refl

whole_same : (s t : Span) (n m : WordAt) → bare_word n ≡ bare_word m → (p q : Parts) → bare_parts p ≡ bare_parts q → SameOk bare_problem (whole s n p) (whole t m q)
whole_same s t n m e p q f =
    whole_is s n p p.domain p.htn p.init ∙ ap (λ w. ok_of (whole nowhere w (bare_parts p))) e ∙ ap (λ z. ok_of (whole nowhere (bare_word m) z)) f ∙ sym (whole_is t m q q.domain q.htn q.init)

named : (o r : Option WordAt) (us : Trees) (s : Span) → Same bare_word o r → SameOk bare_problem (problem_in (option_map (defined_with (bare_trees us) nowhere) o)) (problem_in (option_map (defined_with us s) r))
named None None us s e = refl
named None (Some m) us s e = absurd cc
named (Some n) None us s e = absurd cc
named (Some n) (Some m) us s e =
    let same : bare_word n ≡ bare_word m = cc in
    then_same bare_parts bare_problem (parts_from no_parts [] (bare_trees us)) (parts_from no_parts [] us) (whole nowhere n) (whole s m)
    (sections_same problem_standing problem_section_by bare_section section_alike add_part bare_parts add_alike us no_parts no_parts [] refl)
    (whole_same nowhere s n m same)

if_problem : (k : Bool) (o r : Option WordAt) (us : Trees) (s : Span) → Same bare_word o r
    → SameOk bare_problem (problem_in (if k then option_map (defined_with (bare_trees us) nowhere) o else None)) (problem_in (if k then option_map (defined_with us s) r else None))
if_problem true o r us s e = named o r us s e
if_problem false o r us s e = refl

define_problem : (t : Tree) → SameOk bare_problem (problem_in (define_form (codes "problem") (bare_tree t))) (problem_in (define_form (codes "problem") t))
define_problem (word w s) = refl
define_problem (list none s) = refl
define_problem (list (more x none) s) = refl
define_problem (list (more x (more t ts)) s) =
    ap (λ k. option_map bare_problem (ok_of (problem_in (if k then option_map (defined_with (bare_trees ts) nowhere) (title_of (codes "problem") (bare_tree t)) else None)))) (word_is_same (codes "define") x)
    ∙ if_problem (is_the_word (codes "define") x) (title_of (codes "problem") (bare_tree t)) (title_of (codes "problem") t) ts s (title_same (codes "problem") t)

problem_same : (ts : Trees) → SameOk bare_problem (problem_of (bare_trees ts)) (problem_of ts)
problem_same none = refl
problem_same (more t none) = define_problem t
problem_same (more t (more u ts)) = refl

pub problem_found : (us vs : Trees) (p : Problem) → bare_trees us ≡ bare_trees vs → problem_of vs ≡ Ok p → (q : Problem) × (problem_of us ≡ Ok q) × (bare_problem q ≡ bare_problem p)
problem_found us vs p h k =
    found bare_problem (problem_of us) (bare_problem p)
    (sym (problem_same us) ∙ ap (λ x. option_map bare_problem (ok_of (problem_of x))) h ∙ problem_same vs ∙ ap (λ r. option_map bare_problem (ok_of r)) k)

htn_twice : (h : Htn) → bare_htn (bare_htn h) ≡ bare_htn h
htn_twice h = ap (λ vs. record (bare_htn (bare_htn h)) { parameters = vs }) (variables_twice h.parameters) ∙ ap (λ n. record (bare_htn h) { network = n }) (network_twice h.network)

goal_twice : (f : Option Formula) → option_map bare_formula (option_map bare_formula f) ≡ option_map bare_formula f
goal_twice None = refl
goal_twice (Some f) = ap Some (formula_twice f)

problem_twice : (p : Problem) → bare_problem (bare_problem p) ≡ bare_problem p
problem_twice p =
    ap (λ x. record (bare_problem (bare_problem p)) { requirements = x }) (map_twice bare_word (λ w. refl) p.requirements)
    ∙ ap (λ x. record (bare_problem (bare_problem p)) { requirements = map bare_word p.requirements; objects = x }) (typed_twice p.objects)
    ∙ ap (λ x. record (bare_problem p) { htn = x; init = map bare_literal (map bare_literal p.init); goal = option_map bare_formula (option_map bare_formula p.goal) }) (htn_twice p.htn)
    ∙ ap (λ x. record (bare_problem p) { init = x; goal = option_map bare_formula (option_map bare_formula p.goal) }) (map_twice bare_literal literal_twice p.init)
    ∙ ap (λ x. record (bare_problem p) { goal = x }) (goal_twice p.goal)

problem_fits : Tidied → (text : List ℕ) (p : Problem) → IsProblemText text p → Fits (problem_expression p) MOST_OPEN
problem_fits tidied text p h = let w = tidied text h.0 h.1 in problem_said_fits 251 h.0 p h.2 (all_fit h.0 MOST_OPEN w.0 w.1)

-- the canonical text of a problem has its canonical expression alone, places aside
pub problem_expression_found : Tidied → Found → (text : List ℕ) (p : Problem) → IsProblemText text p → length (canonical_problem p) ≤ MOST_BYTES
    → (us : Trees) × AreExpressions (canonical_problem p) us × (bare_trees us ≡ bare_trees (more (problem_expression p) none))
problem_expression_found tidied found text p h l =
    definition_found found (codes "problem") p.name (problem_sections p) (problem_fits tidied text p h) l

-- it is read as that problem, places aside
pub problem_back : Tidied → Found → (text : List ℕ) (p : Problem) → IsProblemText text p → IsReadBack IsProblemText bare_problem (canonical_problem p) p
problem_back tidied found text p h l =
    let w = problem_expression_found tidied found text p h l in
    let f = problem_found w.0 (more (problem_expression p) none) (bare_problem p) w.2 (problem_again h.0 p ((problem_table h.0 p).0 h.2)) in
    (f.0, (w.0, w.1, (problem_table w.0 f.0).1 f.1), f.2 ∙ problem_twice p)

-- and as no other
pub problem_only : Tidied → Found → One → (text : List ℕ) (p q : Problem) → IsProblemText text p → IsProblemText (canonical_problem p) q → bare_problem q ≡ bare_problem p
problem_only tidied found one text p q h k =
    let f = problem_back tidied found text p h k.1.size in
    ap bare_problem (one_text IsProblem one_problem (canonical_problem p) (one (canonical_problem p)) q f.0 k f.1) ∙ f.2

-- printing what is read from it gives that text again
pub problem_bytes : Tidied → Found → One → (text : List ℕ) (p q : Problem) → IsProblemText text p → IsProblemText (canonical_problem p) q → canonical_problem q ≡ canonical_problem p
problem_bytes tidied found one text p q h k = problems_alike q p (problem_only tidied found one text p q h k)

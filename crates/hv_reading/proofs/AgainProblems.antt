-- The canonical expression of a problem is read as it, places aside.
use Rattle.std.proofs.Common.{◌≡◌, ℕ, false, List, [], ◌∷◌, ◌++◌, map, Option, Some, None, Result, Ok, Err, option_map, refl, ap, ◌∙◌, subst, codes, if◌then◌else◌}
use Rattle.std.specs.Prelude.{IfSome, IfOk, option_and_then}
use Rattle.hv_text.specs.Trees.{Tree, Trees, none, more, trees_of}
use Rattle.hv_text.specs.Words.{nowhere}
use Rattle.hv_text.specs.declared.span.Span.{Span}
use Rattle.hv_reading.specs.declared.word.Sort.TheVariants as sorts
use Rattle.hv_reading.specs.declared.fault.SyntaxKind.{SyntaxKind}
use Rattle.hv_syntax.specs.Values.{WordAt, Typed, Formula, Literal, Htn, Problem}
use Rattle.hv_reading.specs.Words.{is}
use Rattle.hv_reading.specs.inside.Words.{sorted_word_of}
use Rattle.hv_reading.specs.inside.Reading.{every, only}
use Rattle.hv_reading.specs.inside.TypedLists.{typed_list_of}
use Rattle.hv_reading.specs.inside.Formulas.{formula_of}
use Rattle.hv_reading.specs.inside.Literals.{ground_literal_of}
use Rattle.hv_reading.specs.Unsupported.{has_unsupported}
use Rattle.hv_reading.specs.Sections.{occurs}
use Rattle.hv_reading.specs.inside.Sections.{one_name, keyword_of, sections_of, defined_with, ◌>>=◌}
use Rattle.hv_syntax.specs.Problems.{ProblemSection, is_for, has_requirements, has_objects, has_htn, has_init, has_goal, Parts, no_parts, add_part}
use Rattle.hv_reading.specs.Standings.{problem_standing}
use Rattle.hv_reading.specs.inside.Problems.{htn_of, goal_of, problem_section_by, problem_section, parts_from, whole_by, whole, problem_in, problem_of}
use Rattle.hv_reading.specs.Canonical.{form, each, word_expression, typed_members, formula_expression, literal_expression}
use Rattle.hv_reading.specs.CanonicalSections.{unless_empty, htn_section, goal_section, problem_sections, problem_expression}
use Rattle.hv_reading.specs.Bare.{bare_word, bare_typed, bare_formula, bare_literal, bare_htn, bare_problem}
use Rattle.hv_reading.proofs.Again.{if_map, AreReadAgain, every_again, sorted_again, AreTypedAgain, typed_list_again}
use Rattle.hv_reading.proofs.AgainFormulas.{IsFormulaAgain, formula_again, ground_literal_again}
use Rattle.hv_reading.proofs.AgainDeclarations.{htn_members, IsHtnAgain, htn_again}
use Rattle.hv_reading.proofs.Parts.{OfParts, part_added}
use Rattle.hv_reading.proofs.AgainSections.{IsNameAgain, if_else, one_name_again, sections_again, sections_good, once_read, nor, not_in_other, Reads, reads_one, reads_none, reads_both, reads_all}

abbrev AreKeywordsAgain : List WordAt → Type 0
AreKeywordsAgain ws = AreReadAgain keyword_of word_expression bare_word ws

abbrev AreNamesAgain : List Typed → Type 0
AreNamesAgain vs = AreTypedAgain vs

abbrev AreGroundAgain : List Literal → Type 0
AreGroundAgain ls = AreReadAgain ground_literal_of literal_expression bare_literal ls

abbrev IsSectionAgain : ProblemSection → Type 0
IsSectionAgain (is_for n) = IsNameAgain n
IsSectionAgain (has_requirements ws) = AreKeywordsAgain ws
IsSectionAgain (has_objects vs) = AreNamesAgain vs
IsSectionAgain (has_htn h) = IsHtnAgain h
IsSectionAgain (has_init ls) = AreGroundAgain ls
IsSectionAgain (has_goal f) = IsFormulaAgain f

goal_of_only : (o : Option Tree) → IfSome (option_and_then formula_of o) IsFormulaAgain
goal_of_only None = tt
goal_of_only (Some t) = formula_again t

section_again : (w : List ℕ) (s : Span) (ts : Trees) → IfSome (problem_section_by w s ts) IsSectionAgain
section_again w s ts =
    let domain : Option ProblemSection = option_map is_for (one_name ts) in
    let requirements : Option ProblemSection = option_map has_requirements (every keyword_of ts) in
    let objects : Option ProblemSection = option_map has_objects (typed_list_of ts) in
    let network : Option ProblemSection = option_map has_htn (htn_of s ts) in
    let literals : Option ProblemSection = option_map has_init (every ground_literal_of ts) in
    let wanted : Option ProblemSection = option_map has_goal (goal_of ts) in
    let r5 : Option ProblemSection = if is w (codes ":goal") then wanted else None in
    let r4 : Option ProblemSection = if is w (codes ":init") then literals else r5 in
    let r3 : Option ProblemSection = if is w (codes ":htn") then network else r4 in
    let r2 : Option ProblemSection = if is w (codes ":objects") then objects else r3 in
    let r1 : Option ProblemSection = if is w (codes ":requirements") then requirements else r2 in
    if_else IsSectionAgain (is w (codes ":domain")) domain r1 (if_map is_for IsNameAgain IsSectionAgain (λ x h. h) (one_name ts) (one_name_again ts))
    (if_else IsSectionAgain (is w (codes ":requirements")) requirements r2 (if_map has_requirements AreKeywordsAgain IsSectionAgain (λ x h. h) (every keyword_of ts) (every_again keyword_of word_expression bare_word (sorted_again sorts.Keyword) ts))
    (if_else IsSectionAgain (is w (codes ":objects")) objects r3 (if_map has_objects AreNamesAgain IsSectionAgain (λ x h. h) (typed_list_of ts) (typed_list_again ts))
    (if_else IsSectionAgain (is w (codes ":htn")) network r4 (if_map has_htn IsHtnAgain IsSectionAgain (λ x h. h) (htn_of s ts) (htn_again s ts))
    (if_else IsSectionAgain (is w (codes ":init")) literals r5 (if_map has_init AreGroundAgain IsSectionAgain (λ x h. h) (every ground_literal_of ts) (every_again ground_literal_of literal_expression bare_literal ground_literal_again ts))
    (if_else IsSectionAgain (is w (codes ":goal")) wanted None (if_map has_goal IsFormulaAgain IsSectionAgain (λ x h. h) (goal_of ts) (goal_of_only (only ts))) tt)))))

-- all that the sections of a problem say is read again
abbrev ArePartsAgain : Parts → Type 0
ArePartsAgain p = OfParts IsSectionAgain p

-- all that a problem says is read again
record IsProblemAgain (p : Problem) : Type 0 where
  name : IsNameAgain p.name
  domain : IsNameAgain p.domain
  requirements : AreKeywordsAgain p.requirements
  objects : AreNamesAgain p.objects
  network : IsHtnAgain p.htn
  literals : AreGroundAgain p.init
  wanted : IfSome p.goal IsFormulaAgain

whole_good : (s : Span) (n : WordAt) (p : Parts) (d : Option WordAt) (h : Option Htn) (ls : Option (List Literal)) → IsNameAgain n → AreKeywordsAgain p.requirements → AreNamesAgain p.objects → IfSome p.goal IsFormulaAgain
    → IfSome d IsNameAgain → IfSome h IsHtnAgain → IfSome ls AreGroundAgain → IfOk (whole_by s n p d h ls) IsProblemAgain
whole_good s n p None h ls a b c e f g k = tt
whole_good s n p (Some d) None ls a b c e f g k = tt
whole_good s n p (Some d) (Some h) None a b c e f g k = tt
whole_good s n p (Some d) (Some h) (Some ls) a b c e f g k = record { name = a; domain = f; requirements = b; objects = c; network = g; literals = k; wanted = e }

then_whole : (s : Span) (n : WordAt) → IsNameAgain n → (r : Result Parts (SyntaxKind × Span)) → IfOk r ArePartsAgain → IfOk (r >>= whole s n) IsProblemAgain
then_whole s n a (Err e) h = tt
then_whole s n a (Ok p) h = whole_good s n p p.domain p.htn p.init a h.requirements h.objects h.wanted h.domain h.network h.literals

problem_in_good : (o : Option (WordAt × Trees × Span)) → IfSome o (λ p. IsNameAgain p.0) → IfOk (problem_in o) IsProblemAgain
problem_in_good None h = tt
problem_in_good (Some (n, ts, s)) h =
    then_whole s n h (parts_from no_parts [] ts)
    (sections_good problem_standing problem_section_by IsSectionAgain section_again add_part ArePartsAgain (part_added IsSectionAgain) ts no_parts []
    (record { domain = tt; requirements = refl; objects = refl; network = tt; literals = tt; wanted = tt }))

problem_good : (ts : Trees) → IfOk (problem_of ts) IsProblemAgain
problem_good ts = problem_in_good (sections_of (codes "problem") ts) (sections_again (codes "problem") ts)

abbrev made : Option WordAt → List WordAt → List Typed → Option Htn → Option (List Literal) → Option Formula → Parts
made d rs os h ls f = record { domain = d; requirements = rs; objects = os; htn = h; init = ls; goal = f }

abbrev Read : Parts → List Tree → List Tree → Parts → Type 0
Read = Reads problem_section add_part

domain_read : (n : WordAt) → IsNameAgain n → Read no_parts [] (form (codes ":domain") (more (word_expression n) none) ∷ []) (made (Some (bare_word n)) [] [] None None None)
domain_read n h =
    let ts : Trees = more (word_expression n) none in
    reads_one problem_section add_part no_parts [] (form (codes ":domain") ts) (is_for (bare_word n))
    (once_read false (has_unsupported (codes ":domain") ts) (option_map is_for (one_name ts)) (is_for (bare_word n)) refl (ap (option_map is_for) h))

module _ (d : Option WordAt) where
  requirements_read : (b : List Tree) (ws : List WordAt) → occurs (codes ":requirements") b ≡ false → AreKeywordsAgain ws
      → Read (made d [] [] None None None) b (unless_empty (codes ":requirements") (each word_expression ws)) (made d (map bare_word ws) [] None None None)
  requirements_read b [] e h = reads_none problem_section add_part (made d [] [] None None None) b
  requirements_read b (w ∷ ws) e h =
      let ts : Trees = each word_expression (w ∷ ws) in
      reads_one problem_section add_part (made d [] [] None None None) b (form (codes ":requirements") ts) (has_requirements (map bare_word (w ∷ ws)))
      (once_read (occurs (codes ":requirements") b) (has_unsupported (codes ":requirements") ts) (option_map has_requirements (every keyword_of ts)) (has_requirements (map bare_word (w ∷ ws))) e (ap (option_map has_requirements) h))

  objects_read : (rs : List WordAt) (b : List Tree) (vs : List Typed) → occurs (codes ":objects") b ≡ false → AreNamesAgain vs
      → Read (made d rs [] None None None) b (unless_empty (codes ":objects") (typed_members vs)) (made d rs (map bare_typed vs) None None None)
  objects_read rs b [] e h = reads_none problem_section add_part (made d rs [] None None None) b
  objects_read rs b (v ∷ vs) e h =
      let ts : Trees = typed_members (v ∷ vs) in
      reads_one problem_section add_part (made d rs [] None None None) b (form (codes ":objects") ts) (has_objects (map bare_typed (v ∷ vs)))
      (once_read (occurs (codes ":objects") b) (has_unsupported (codes ":objects") ts) (option_map has_objects (typed_list_of ts)) (has_objects (map bare_typed (v ∷ vs))) e (ap (option_map has_objects) h))

  module _ (rs : List WordAt) (os : List Typed) where
    htn_read : (b : List Tree) (x : Htn) → occurs (codes ":htn") b ≡ false → IsHtnAgain x → Read (made d rs os None None None) b (htn_section x ∷ []) (made d rs os (Some (bare_htn x)) None None)
    htn_read b x e h =
        let ts : Trees = htn_members x in
        reads_one problem_section add_part (made d rs os None None None) b (htn_section x) (has_htn (bare_htn x))
        (once_read (occurs (codes ":htn") b) (has_unsupported (codes ":htn") ts) (option_map has_htn (htn_of nowhere ts)) (has_htn (bare_htn x)) e (ap (option_map has_htn) h))

    init_read : (x : Option Htn) (b : List Tree) (ls : List Literal) → occurs (codes ":init") b ≡ false → AreGroundAgain ls
        → Read (made d rs os x None None) b (form (codes ":init") (each literal_expression ls) ∷ []) (made d rs os x (Some (map bare_literal ls)) None)
    init_read x b ls e h =
        let ts : Trees = each literal_expression ls in
        reads_one problem_section add_part (made d rs os x None None) b (form (codes ":init") ts) (has_init (map bare_literal ls))
        (once_read (occurs (codes ":init") b) (has_unsupported (codes ":init") ts) (option_map has_init (every ground_literal_of ts)) (has_init (map bare_literal ls)) e (ap (option_map has_init) h))

    goal_read : (x : Option Htn) (ls : Option (List Literal)) (b : List Tree) (f : Option Formula) → occurs (codes ":goal") b ≡ false → IfSome f IsFormulaAgain
        → Read (made d rs os x ls None) b (goal_section f) (made d rs os x ls (option_map bare_formula f))
    goal_read x ls b None e h = reads_none problem_section add_part (made d rs os x ls None) b
    goal_read x ls b (Some f) e h =
        let ts : Trees = more (formula_expression f) none in
        reads_one problem_section add_part (made d rs os x ls None) b (form (codes ":goal") ts) (has_goal (bare_formula f))
        (once_read (occurs (codes ":goal") b) (has_unsupported (codes ":goal") ts) (option_map has_goal (goal_of ts)) (has_goal (bare_formula f)) e (ap (option_map has_goal) h))

-- a head that is none of these stands in none of them
none_before : (v : List ℕ) (k l : List ℕ) (ds : List Tree) (ts us : Trees) → occurs v ds ≡ false → is k v ≡ false → is l v ≡ false → occurs v (ds ++ unless_empty k ts ++ unless_empty l us) ≡ false
none_before v k l ds ts us e f g = nor v (ds ++ unless_empty k ts) (unless_empty l us) (nor v ds (unless_empty k ts) e (not_in_other v k ts f)) (not_in_other v l us g)

all_read : (p : Problem) → IsProblemAgain p
    → Read no_parts [] (problem_sections p) (made (Some (bare_word p.domain)) (map bare_word p.requirements) (map bare_typed p.objects) (Some (bare_htn p.htn)) (Some (map bare_literal p.init)) (option_map bare_formula p.goal))
all_read p g =
    let n : Option WordAt = Some (bare_word p.domain) in
    let rs : List WordAt = map bare_word p.requirements in
    let os : List Typed = map bare_typed p.objects in
    let x : Option Htn = Some (bare_htn p.htn) in
    let ls : Option (List Literal) = Some (map bare_literal p.init) in
    let f : Option Formula = option_map bare_formula p.goal in
    let tr : Trees = each word_expression p.requirements in
    let to : Trees = typed_members p.objects in
    let d : List Tree = form (codes ":domain") (more (word_expression p.domain) none) ∷ [] in
    let r : List Tree = unless_empty (codes ":requirements") tr in
    let o : List Tree = unless_empty (codes ":objects") to in
    let h : List Tree = htn_section p.htn ∷ [] in
    let i : List Tree = form (codes ":init") (each literal_expression p.init) ∷ [] in
    let w : List Tree = goal_section p.goal in
    reads_both problem_section add_part no_parts (made n rs os x ls None) (made n rs os x ls f) [] (d ++ r ++ o ++ h ++ i) w
    (reads_both problem_section add_part no_parts (made n rs os x None None) (made n rs os x ls None) [] (d ++ r ++ o ++ h) i
    (reads_both problem_section add_part no_parts (made n rs os None None None) (made n rs os x None None) [] (d ++ r ++ o) h
    (reads_both problem_section add_part no_parts (made n rs [] None None None) (made n rs os None None None) [] (d ++ r) o
    (reads_both problem_section add_part no_parts (made n [] [] None None None) (made n rs [] None None None) [] d r
    (domain_read p.domain g.domain)
    (requirements_read n d p.requirements refl g.requirements))
    (objects_read n rs (d ++ r) p.objects (nor (codes ":objects") d r refl (not_in_other (codes ":objects") (codes ":requirements") tr refl)) g.objects))
    (htn_read n rs os (d ++ r ++ o) p.htn (none_before (codes ":htn") (codes ":requirements") (codes ":objects") d tr to refl refl refl) g.network))
    (init_read n rs os x (d ++ r ++ o ++ h) p.init
    (nor (codes ":init") (d ++ r ++ o) h (none_before (codes ":init") (codes ":requirements") (codes ":objects") d tr to refl refl refl) refl) g.literals))
    (goal_read n rs os x ls (d ++ r ++ o ++ h ++ i) p.goal
    (nor (codes ":goal") (d ++ r ++ o ++ h) i (nor (codes ":goal") (d ++ r ++ o) h (none_before (codes ":goal") (codes ":requirements") (codes ":objects") d tr to refl refl refl) refl) refl) g.wanted)

-- what is read of the name goes before what is read of the sections
named : (o : Option WordAt) (n : WordAt) (ts : Trees) → o ≡ Some n → problem_in (option_map (defined_with ts nowhere) o) ≡ (parts_from no_parts [] ts >>= whole nowhere n)
named o n ts h = rw h refl

again : (p : Problem) → IsProblemAgain p → problem_of (more (problem_expression p) none) ≡ Ok (bare_problem p)
again p g =
    named (sorted_word_of sorts.Name (word_expression p.name)) (bare_word p.name) (trees_of (problem_sections p)) g.name
    ∙ ap (λ r. r >>= whole nowhere (bare_word p.name))
    (reads_all problem_section add_part no_parts (made (Some (bare_word p.domain)) (map bare_word p.requirements) (map bare_typed p.objects) (Some (bare_htn p.htn)) (Some (map bare_literal p.init)) (option_map bare_formula p.goal)) (problem_sections p) (all_read p g))

pub problem_again : (ts : Trees) (p : Problem) → problem_of ts ≡ Ok p → problem_of (more (problem_expression p) none) ≡ Ok (bare_problem p)
problem_again ts p e = again p (subst (λ r. IfOk r IsProblemAgain) e (problem_good ts))

-- What the problems of the code say.
use Rattle.std.specs.Prelude.{ℕ, List, ◌++◌, map, option_map, drop}
use Rattle.hv_text.specs.declared.span.Span.{Span}
use Rattle.hv_syntax.specs.declared.word.Placed.{Placed}
use Rattle.hv_syntax.specs.declared.init.LiteralHead.{LiteralHead}
use Rattle.hv_syntax.specs.declared.init.InitText.{InitText}
use Rattle.hv_syntax.specs.declared.init.by_place.PlacedHead.{PlacedHead}
use Rattle.hv_syntax.specs.declared.init.by_place.LiteralsByPlace.{LiteralsByPlace}
use Rattle.hv_syntax.specs.declared.init.InitLiterals.{InitLiterals}
use Rattle.hv_syntax.specs.declared.problem.HtnText.{HtnText}
use Rattle.hv_syntax.specs.declared.problem.ProblemText.{ProblemText}
use Rattle.hv_syntax.specs.declared.problem.ProblemParts.{ProblemParts}
use Rattle.hv_syntax.specs.declared.problem.ProblemSection as code
use Rattle.hv_syntax.specs.declared.problem.ProblemSection.TheVariants as sections
use Rattle.hv_syntax.specs.Values.{constant, Htn, htn, Problem, Literal, literal, atom_with}
use Rattle.hv_syntax.specs.Problems.{ProblemSection, is_for, has_requirements, has_objects, has_htn, has_init, has_goal, Parts}
use Rattle.hv_syntax.specs.Views.{word_view, word_in, typed_view, variable_view, formula_view, constant_view}
use Rattle.hv_syntax.specs.NetworkViews.{network_view}

-- the initial network that a value of the code says
abbrev pub htn_view : HtnText → Htn
htn_view h = htn h.span (map variable_view h.parameters.items) (network_view h.network)

-- the literals of an initial state that a value of the code says, and those that are left of them
abbrev pub headed_literal : LiteralHead × List Placed → Literal
headed_literal (h, ws) =
    literal h.is_positive (atom_with (word_view h.symbol) (map constant_view ws))

-- the literal whose words a text has at these places
abbrev pub literal_in : List ℕ → PlacedHead × List Span → Literal
literal_in text (h, ss) =
    literal h.is_positive
    (atom_with (word_in text h.symbol) (map (λ s. constant (word_in text s)) ss))

abbrev pub by_place_view : LiteralsByPlace → List Literal
by_place_view l = map (literal_in l.text.now) l.literals

abbrev pub init_view : InitText → List Literal
init_view i = by_place_view i.by_place ++ map headed_literal i.by_words

abbrev pub literals_left : InitLiterals → List Literal
literals_left it =
    drop it.next (by_place_view it.init.now.by_place)
    ++ drop it.next_by_words (map headed_literal it.init.now.by_words)

-- what a section of the code says
abbrev pub problem_section_view : code.ProblemSection → ProblemSection
problem_section_view (sections.Domain p) = is_for (word_view p)
problem_section_view (sections.Requirements v) = has_requirements (map word_view v.items)
problem_section_view (sections.Objects v) = has_objects (map typed_view v.items)
problem_section_view (sections.Htn h) = has_htn (htn_view h)
problem_section_view (sections.Init i) = has_init (init_view i)
problem_section_view (sections.Goal g) = has_goal (formula_view g)

-- what the sections have said so far
abbrev pub parts_view : ProblemParts → Parts
parts_view p =
    record {
      domain = option_map word_view p.domain;
      requirements = map word_view p.requirements.items;
      objects = map typed_view p.objects.items;
      htn = option_map htn_view p.htn;
      init = option_map init_view p.init;
      goal = option_map formula_view p.goal;
    }

-- the problem that a value of the code says
abbrev pub problem_view : ProblemText → Problem
problem_view p =
    record {
      name = word_view p.name;
      domain = word_view p.domain;
      requirements = map word_view p.requirements.items;
      objects = map typed_view p.objects.items;
      htn = htn_view p.htn;
      init = init_view p.init;
      goal = option_map formula_view p.goal;
    }

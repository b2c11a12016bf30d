-- How the code reads: the grammar of problems.
use Rattle.std.specs.Prelude.{ℕ, List, [], Option, Some, None, Result, Ok, Err, codes, option_map, option_and_then, if◌then◌else◌}
use Rattle.hv_text.specs.Trees.{Tree, Trees}
use Rattle.hv_text.specs.declared.span.Span.{Span}
use Rattle.hv_reading.specs.declared.field.Slot.TheVariants as slots
use Rattle.hv_reading.specs.declared.fault.SyntaxKind.{SyntaxKind}
use Rattle.hv_reading.specs.declared.fault.SyntaxKind.TheVariants as kinds
use Rattle.hv_reading.specs.Words.{is}
use Rattle.hv_reading.specs.inside.Reading.{both, every, only}
use Rattle.hv_syntax.specs.Values.{WordAt, Formula, Literal, Htn, htn, Problem}
use Rattle.hv_reading.specs.inside.TypedLists.{typed_list_of}
use Rattle.hv_reading.specs.inside.Formulas.{formula_of}
use Rattle.hv_reading.specs.inside.Literals.{ground_literal_of}
use Rattle.hv_reading.specs.Fields.{field, is_field_list}
use Rattle.hv_reading.specs.inside.Networks.{network_of}
use Rattle.hv_reading.specs.inside.Declarations.{parameters_at}
use Rattle.hv_reading.specs.Sections.{at_start}
use Rattle.hv_reading.specs.inside.Sections.{one_name, keyword_of, section_of, sections_from, sections_of, ◌>>=◌}
use Rattle.hv_syntax.specs.Problems.{Parts, ProblemSection, add_part, assembled_by, has_goal, has_htn, has_init, has_objects, has_requirements, is_for, no_parts}
use Rattle.hv_reading.specs.Standings.{problem_standing}
use Rattle.hv_reading.specs.Declarations.{htn_slots}

-- an initial network, of the section at this place: `:parameters`, and the fields of a network
abbrev pub htn_of : Span → Trees → Option Htn
htn_of s ts =
    if is_field_list htn_slots ts then both (htn s) (parameters_at (field slots.Parameters ts))
    (network_of ts) else None

-- a goal: one formula
abbrev pub goal_of : Trees → Option Formula
goal_of ts = option_and_then formula_of (only ts)

-- the section that a head and the members behind it spell, at this place
abbrev pub problem_section_by : List ℕ → Span → Trees → Option ProblemSection
problem_section_by w s ts =
    if is w (codes ":domain") then option_map is_for (one_name ts) else
    if is w (codes ":requirements") then option_map has_requirements (every keyword_of ts) else
    if is w (codes ":objects") then option_map has_objects (typed_list_of ts) else
    if is w (codes ":htn") then option_map has_htn (htn_of s ts) else
    if is w (codes ":init") then option_map has_init (every ground_literal_of ts) else
    if is w (codes ":goal") then option_map has_goal (goal_of ts) else
    None

-- the section that an expression is, where these stand before it, or what is wrong with it
abbrev pub problem_section : List Tree → Tree → Result ProblemSection (SyntaxKind × Span)
problem_section = section_of problem_standing problem_section_by

-- the sections of a problem one after another, up to the first fault
abbrev pub parts_from : Parts → List Tree → Trees → Result Parts (SyntaxKind × Span)
parts_from = sections_from problem_section add_part

-- a problem, or that a section is missing in the text at this place
abbrev pub or_missing : Span → Option Problem → Result Problem (SyntaxKind × Span)
or_missing s None = Err (kinds.MissingSection, s)
or_missing s (Some p) = Ok p

-- the problem of this name and these parts, in the text at this place
abbrev pub whole_by : Span → WordAt → Parts → Option WordAt → Option Htn → Option (List Literal)
    → Result Problem (SyntaxKind × Span)
whole_by s n p d h ls = or_missing s (assembled_by n p d h ls)

-- the same, by what the parts have
abbrev pub whole : Span → WordAt → Parts → Result Problem (SyntaxKind × Span)
whole s n p = whole_by s n p p.domain p.htn p.init

-- the problem that these sections spell, where the text is a definition
abbrev pub problem_in : Option (WordAt × Trees × Span) → Result Problem (SyntaxKind × Span)
problem_in None = Err (kinds.NotDefine, at_start)
problem_in (Some (n, ts, s)) = parts_from no_parts [] ts >>= whole s n

-- the problem that the expressions of a text spell, or the first fault
abbrev pub problem_of : Trees → Result Problem (SyntaxKind × Span)
problem_of ts = problem_in (sections_of (codes "problem") ts)

-- How the code reads: the grammar of domains.
use Rattle.std.specs.Prelude.{ℕ, List, [], Option, Some, None, Result, Err, codes, option_map, if◌then◌else◌}
use Rattle.hv_text.specs.Trees.{Tree, Trees}
use Rattle.hv_text.specs.declared.span.Span.{Span}
use Rattle.hv_reading.specs.declared.fault.SyntaxKind.{SyntaxKind}
use Rattle.hv_reading.specs.declared.fault.SyntaxKind.TheVariants as kinds
use Rattle.hv_reading.specs.Words.{is}
use Rattle.hv_reading.specs.inside.Reading.{every}
use Rattle.hv_syntax.specs.Values.{WordAt, Domain}
use Rattle.hv_reading.specs.inside.TypedLists.{typed_list_of}
use Rattle.hv_reading.specs.inside.Declarations.{predicate_of, task_of, method_of, action_of}
use Rattle.hv_reading.specs.Sections.{at_start}
use Rattle.hv_reading.specs.inside.Sections.{keyword_of, section_of, sections_from, sections_of}
use Rattle.hv_syntax.specs.Domains.{DomainSection, add_section, has_action, has_constants, has_method, has_predicates, has_requirements, has_task, has_types, no_domain}
use Rattle.hv_reading.specs.Standings.{domain_standing}

-- the section that a head and the members behind it spell, at this place
abbrev pub domain_section_by : List ℕ → Span → Trees → Option DomainSection
domain_section_by w s ts =
    if is w (codes ":requirements") then option_map has_requirements (every keyword_of ts) else
    if is w (codes ":types") then option_map has_types (typed_list_of ts) else
    if is w (codes ":constants") then option_map has_constants (typed_list_of ts) else
    if is w (codes ":predicates") then option_map has_predicates (every predicate_of ts) else
    if is w (codes ":task") then option_map has_task (task_of s ts) else
    if is w (codes ":method") then option_map has_method (method_of s ts) else
    if is w (codes ":action") then option_map has_action (action_of s ts) else
    None

-- the section that an expression is, where these stand before it, or what is wrong with it
abbrev pub domain_section : List Tree → Tree → Result DomainSection (SyntaxKind × Span)
domain_section = section_of domain_standing domain_section_by

-- the sections of a domain one after another, up to the first fault
abbrev pub domain_from : Domain → List Tree → Trees → Result Domain (SyntaxKind × Span)
domain_from = sections_from domain_section add_section

-- the domain that these sections spell, where the text is a definition
abbrev pub domain_in : Option (WordAt × Trees × Span) → Result Domain (SyntaxKind × Span)
domain_in None = Err (kinds.NotDefine, at_start)
domain_in (Some (n, ts, s)) = domain_from (no_domain n) [] ts

-- the domain that the expressions of a text spell, or the first fault
abbrev pub domain_of : Trees → Result Domain (SyntaxKind × Span)
domain_of ts = domain_in (sections_of (codes "domain") ts)

-- Which sections may stand in a domain or a problem, and how often.
use Rattle.std.specs.Prelude.{ℕ, ◌||◌, List, codes, if◌then◌else◌}
use Rattle.hv_reading.specs.declared.section.Standing.{Standing}
use Rattle.hv_reading.specs.declared.section.Standing.TheVariants as standings
use Rattle.hv_reading.specs.Words.{is}
use Rattle.hv_reading.specs.Sections.{is_unsupported}

-- which heads may stand in a domain, and how often
abbrev pub domain_standing : List ℕ → Standing
domain_standing w =
    if is w (codes ":requirements") || is w (codes ":types") || is w (codes ":constants")
    || is w (codes ":predicates") then standings.Once else
    if is w (codes ":task") || is w (codes ":method")
    || is w (codes ":action") then standings.Often else
    if is_unsupported w then standings.Unsupported else
    standings.Unknown

-- which heads may stand in a problem, and how often
abbrev pub problem_standing : List ℕ → Standing
problem_standing w =
    if is w (codes ":domain") || is w (codes ":requirements") || is w (codes ":objects")
    || is w (codes ":htn") || is w (codes ":init") || is w (codes ":goal")
    then standings.Once else
    if is_unsupported w then standings.Unsupported else
    standings.Unknown

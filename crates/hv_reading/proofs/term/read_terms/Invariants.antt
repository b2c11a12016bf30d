use Rattle.std.proofs.Common.{◌≡◌, drop, map}
use Rattle.hv_text.specs.Trees.{trees}
use Rattle.hv_reading.specs.inside.Reading.{every, behind}
use Rattle.hv_reading.specs.inside.Terms.{term_of}
use Rattle.hv_syntax.specs.Views.{term_view}
use Rattle.hv_reading.proofs.term.read_terms.Given as goal

-- what has been read, and behind it what the rest spells, is what all spell
abbrev pub invariant-loop-e : goal.invariant-loop-e
invariant-loop-e l = behind (map term_view l.terms.items) (every term_of (trees (drop l.e-index l.es))) ≡ every term_of (trees l.es)

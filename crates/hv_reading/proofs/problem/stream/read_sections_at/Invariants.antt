use Rattle.std.proofs.Common.{◌≡◌, [], List, map}
use Rattle.hv_text.specs.Names.{text_of}
use Rattle.hv_text.specs.Trees.{Tree}
use Rattle.hv_text.specs.Rests.{here, ended}
use Rattle.hv_text.specs.Cursors.{rest_at, left_at}
use Rattle.hv_syntax.specs.Problems.{no_parts}
use Rattle.hv_reading.specs.inside.Problems.{parts_from}
use Rattle.hv_syntax.specs.ProblemViews.{parts_view}
use Rattle.hv_reading.specs.inside.Streams.{heads}
use Rattle.hv_reading.proofs.problem.stream.read_sections_at.Given as goal

-- behind some sections with these heads, going on from here gives what all gives
abbrev pub invariant-sections : goal.invariant-sections
invariant-sections l = ((before : List Tree) × (heads before ≡ map text_of l.heads.items) × (parts_from (parts_view l.parts) before (here (rest_at l.cursor)) ≡ parts_from no_parts [] (here (rest_at l.from))))
    × (ended (rest_at l.cursor) ≡ ended (rest_at l.from))

abbrev pub decreases-sections : goal.decreases-sections
decreases-sections l = left_at l.cursor

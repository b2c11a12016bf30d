use Rattle.std.proofs.Common.{◌≡◌, ◌≤◌}
use Rattle.hv_text.specs.Rests.{here, ended}
use Rattle.hv_text.specs.Cursors.{rest_at, left_at}
use Rattle.hv_reading.specs.inside.Reading.{every, behind}
use Rattle.hv_reading.specs.inside.Literals.{ground_literal_of}
use Rattle.hv_syntax.specs.ProblemViews.{init_view}
use Rattle.hv_reading.proofs.literal.stream.read_ground_literals_at.Given as goal

-- what has been read, and behind it what the rest spells, is what all spell
abbrev pub invariant-all : goal.invariant-all
invariant-all l = (behind (init_view l.literals) (every ground_literal_of (here (rest_at l.cursor))) ≡ every ground_literal_of (here (rest_at l.from)))
    × (ended (rest_at l.cursor) ≡ ended (rest_at l.from))
    × (left_at l.cursor ≤ left_at l.from)

abbrev pub decreases-all : goal.decreases-all
decreases-all l = left_at l.cursor

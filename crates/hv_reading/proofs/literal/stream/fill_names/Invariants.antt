use Rattle.std.proofs.Common.{◌≡◌, ◌≤◌, map}
use Rattle.hv_text.specs.Rests.{here, ended}
use Rattle.hv_text.specs.Cursors.{rest_at, left_at}
use Rattle.hv_reading.specs.inside.Reading.{every, behind}
use Rattle.hv_reading.specs.inside.Terms.{term_of}
use Rattle.hv_syntax.specs.Views.{constant_view}
use Rattle.hv_reading.proofs.literal.stream.fill_names.Given as goal

-- the names so far, and behind them what the rest spells, is what all spell
abbrev pub invariant-names : goal.invariant-names
invariant-names l = (behind (map constant_view l.room.items) (every term_of (here (rest_at l.cursor))) ≡ every term_of (here (rest_at l.from)))
    × (ended (rest_at l.cursor) ≡ ended (rest_at l.from))
    × (left_at l.cursor ≤ left_at l.from)

abbrev pub decreases-names : goal.decreases-names
decreases-names l = left_at l.cursor

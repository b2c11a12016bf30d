use Rattle.std.proofs.Common.{◌≡◌, ◌≤◌}
use Rattle.hv_text.specs.Rests.{here, ended}
use Rattle.hv_text.specs.Cursors.{rest_at, left_at}
use Rattle.hv_reading.specs.inside.TypedLists.{typed_list_of}
use Rattle.hv_reading.specs.inside.Typings.{typed_behind}
use Rattle.hv_reading.proofs.typed.stream.read_typed_list_at.Given as goal

-- what is read, and behind it what is still to come, is the whole list
abbrev pub invariant-words : goal.invariant-words
invariant-words l = (typed_behind l.typing (here (rest_at l.cursor)) ≡ typed_list_of (here (rest_at l.from)))
    × (ended (rest_at l.cursor) ≡ ended (rest_at l.from))
    × (left_at l.cursor ≤ left_at l.from)

abbrev pub decreases-words : goal.decreases-words
decreases-words l = left_at l.cursor

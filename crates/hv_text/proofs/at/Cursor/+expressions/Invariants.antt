use Rattle.std.proofs.Common.{◌≡◌, ◌≤◌, ◌+◌, ◌*◌}
use Rattle.hv_text.specs.Trees.{trees}
use Rattle.hv_text.specs.Rests.{add_all}
use Rattle.hv_text.specs.Cursors.{rest_at, left_at}
use Rattle.hv_text.proofs.at.Cursor.+expressions.Given as goal

abbrev pub decreases-read_one : goal.decreases-read_one
decreases-read_one l = 2 * left_at l.self

abbrev pub decreases-read_rest : goal.decreases-read_rest
decreases-read_rest l = 2 * left_at l.self + 1

-- what has been read, and behind it what is left, is what was to come
abbrev pub invariant-read_rest-members : goal.invariant-read_rest-members
invariant-read_rest-members l = (rest_at l.self ≡ add_all (trees l.members.items) (rest_at l.cursor)) × (left_at l.cursor ≤ left_at l.self)

abbrev pub decreases-read_rest-members : goal.decreases-read_rest-members
decreases-read_rest-members l = left_at l.cursor

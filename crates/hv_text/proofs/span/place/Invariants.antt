use Rattle.std.proofs.Common.{◌≡◌, ◌≤◌, ◌+◌, ◌==◌, not, take, count_by}
use Rattle.std.specs.List.{suffix_len}
use Rattle.hv_text.proofs.span.place.Given as goal

-- the line and the column after the bytes so far
abbrev pub invariant-loop-b : goal.invariant-loop-b
invariant-loop-b l = (l.line ≡ 1 + count_by (λ b. b == 10) (take l.b-index l.before))
    × (l.column ≡ 1 + suffix_len (λ b. not (b == 10)) (take l.b-index l.before))
    × (l.line ≤ l.b-index + 1)
    × (l.column ≤ l.b-index + 1)

use Rattle.std.proofs.Common.{◌≡◌, ◌<◌, ℕ, Some, slice_get}
use Rattle.hv_world.specs.declared.nested.Span.{Span}
use Rattle.hv_world.proofs.nested.have_parts.Given as goal

-- those so far have parts
abbrev pub invariant-loop-number : goal.invariant-loop-number
invariant-loop-number l = (t : ℕ) → 0 < t → t < l.number → (s : Span) × (slice_get l.spans t ≡ Some (Some s))

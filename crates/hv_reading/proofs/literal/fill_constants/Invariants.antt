use Rattle.std.proofs.Common.{◌≡◌, take, drop, map}
use Rattle.hv_reading.specs.Literals.{are_constants}
use Rattle.hv_syntax.specs.Views.{term_view, constant_view}
use Rattle.hv_reading.proofs.literal.fill_constants.Given as goal

abbrev pub invariant-loop-term : goal.invariant-loop-term
invariant-loop-term l = (map constant_view l.room.items ≡ map term_view (take l.term-index l.terms))
    × (are_constants (map term_view (drop l.term-index l.terms)) ≡ are_constants (map term_view l.terms))

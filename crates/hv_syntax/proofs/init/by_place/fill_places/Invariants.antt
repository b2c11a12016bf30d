use Rattle.std.proofs.Common.{◌≡◌, map, take}
use Rattle.hv_syntax.proofs.init.by_place.fill_places.Given as goal

abbrev pub invariant-loop-word : goal.invariant-loop-word
invariant-loop-word l = l.room.items ≡ map (λ w. w.span) (take l.word-index l.words)

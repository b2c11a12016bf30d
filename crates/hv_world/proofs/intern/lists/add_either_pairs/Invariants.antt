use Rattle.std.proofs.Common.{◌≡◌, ◌++◌, drop, map}
use Rattle.hv_text.specs.Names.{text_of}
use Rattle.hv_world.specs.inside.Tables.{known_by}
use Rattle.hv_world.specs.Worlds.{either_pairs}
use Rattle.hv_world.proofs.intern.lists.add_either_pairs.Given as goal

abbrev pub invariant-loop-name : goal.invariant-loop-name
invariant-loop-name l = map (λ p. (p.0.0, p.1.0)) l.pairs.items ++ either_pairs (known_by l.tables) l.above (map text_of (drop l.name-index l.list)) ≡ map (λ p. (p.0.0, p.1.0)) l.initial.pairs.items ++ either_pairs (known_by l.tables) l.above (map text_of l.list)

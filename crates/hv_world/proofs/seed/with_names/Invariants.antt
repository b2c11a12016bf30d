use Rattle.std.proofs.Common.{◌≡◌, drop, map}
use Rattle.hv_text.specs.Seeds.{start_of}
use Rattle.hv_text.specs.Names.{text_of}
use Rattle.hv_world.specs.inside.Seeds.{with_taken_in}
use Rattle.hv_world.proofs.seed.with_names.Given as goal

abbrev pub invariant-loop-name : goal.invariant-loop-name
invariant-loop-name l = with_taken_in (start_of l.seed) (map text_of (drop l.name-index l.names)) ≡ with_taken_in (start_of l.fn.start) (map text_of l.names)

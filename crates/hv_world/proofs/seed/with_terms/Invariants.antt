use Rattle.std.proofs.Common.{◌≡◌, drop, fold, map}
use Rattle.std.specs.List.{flat_map}
use Rattle.std.specs.Hash.DefaultHasher as sip
use Rattle.hv_text.specs.Seeds.{start_of}
use Rattle.hv_world.specs.inside.Seeds.{term_writes}
use Rattle.hv_world.specs.Views.{term_view}
use Rattle.hv_world.proofs.seed.with_terms.Given as goal

abbrev pub invariant-loop-term : goal.invariant-loop-term
invariant-loop-term l =
    fold sip.write (start_of l.seed) (flat_map term_writes (map term_view (drop l.term-index l.terms)))
    ≡ fold sip.write (start_of l.fn.start) (flat_map term_writes (map term_view l.terms))

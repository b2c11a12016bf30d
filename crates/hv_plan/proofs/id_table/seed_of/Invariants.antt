use Rattle.std.proofs.Common.{◌≡◌, drop, fold}
use Rattle.std.specs.List.{flat_map}
use Rattle.std.specs.Hash as fed
use Rattle.std.specs.Hash.DefaultHasher as sip
use Rattle.hv_text.specs.Seeds.{start_of}
use Rattle.hv_plan.proofs.id_table.seed_of.Given as goal

abbrev pub invariant-loop-id : goal.invariant-loop-id
invariant-loop-id l = fold sip.write (start_of l.seed) (flat_map fed.u64 (drop l.id-index l.ids)) ≡ fold sip.write sip.initial (flat_map fed.u64 l.ids)

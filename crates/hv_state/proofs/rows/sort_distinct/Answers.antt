use Rattle.std.proofs.lemmas.List.Filters.{dedup_is}
use Rattle.hv_state.proofs.SortLemmas.{distinct_ascend, distinct_same}
use Rattle.hv_state.proofs.rows.sort_distinct.Goals as goal

pub returns-clause-ascend : goal.returns-clause-ascend
returns-clause-ascend c = rw (dedup_is _ _ _ c.dedup.ensures.filtered) (distinct_ascend c.sort_unstable.new.self.items c.sort_unstable.ensures.sorted)

pub returns-clause-exact : goal.returns-clause-exact
returns-clause-exact c = rw (dedup_is _ _ _ c.dedup.ensures.filtered) (distinct_same c.args.rows.now.items c.sort_unstable.new.self.items c.sort_unstable.ensures.permutation)

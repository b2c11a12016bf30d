use Rattle.std.proofs.lemmas.List.Filters.{dedup_is}
use Rattle.hv_state.proofs.SortLemmas.{distinct_ascend, distinct_same}
use Rattle.hv_state.proofs.rows.merge_distinct.Goals as goal

pub returns-clause-ascend : goal.returns-clause-ascend
returns-clause-ascend c = rw (dedup_is _ _ _ c.dedup.ensures.filtered) (distinct_ascend c.sort.new.self.items c.in_ok-sort.ensures.sorted)

pub returns-clause-exact : goal.returns-clause-exact
returns-clause-exact c = rw (dedup_is _ _ _ c.dedup.ensures.filtered) (distinct_same c.args.rows.now.items c.sort.new.self.items c.in_ok-sort.ensures.permutation)

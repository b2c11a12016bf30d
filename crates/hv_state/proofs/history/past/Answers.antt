use Rattle.std.proofs.Common.{rules, ◌≡◌, nat_le}
use Rattle.std.proofs.lemmas.List.Sorted.{IsPartitionedBy-leb}
use Rattle.std.proofs.lemmas.Fn.{answers_by}
use Rattle.hv_state.specs.declared.history.Change.{Change}
use Rattle.hv_state.specs.inside.Histories.{index_of}
use Rattle.hv_state.proofs.HistoryLemmas.{indices_rise}
use Rattle.hv_state.proofs.history.past.Goals as goal

pub returns : goal.returns
returns c =
    let facts = c.partition_point-found.ensures in
    let test = λ (x : Change). nat_le (index_of x) c.args.k in
    let point = facts.partitioned test (answers_by _ _ (λ g. g.0.now ≡ c.args.k) (λ g a r h called i. search rules) _ (search rules)) (IsPartitionedBy-leb index_of c.args.list.now c.args.k (indices_rise c.args.list.now c.requires)) in
    (facts.bound, point)

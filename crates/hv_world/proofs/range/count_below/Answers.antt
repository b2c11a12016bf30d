use Rattle.std.proofs.Common.{rules, ◌≡◌, nat_lt}
use Rattle.std.proofs.lemmas.List.Sorted.{IsPartitionedBy-ltb}
use Rattle.std.proofs.lemmas.Fn.{answers_by}
use Rattle.hv_world.specs.declared.id.ObjectId.{ObjectId}
use Rattle.hv_world.proofs.RangeLemmas.{window_rises, are_below}
use Rattle.hv_world.proofs.range.count_below.Goals as goal

pub returns : goal.returns
returns c =
    let range = c.args.objects.now in
    let facts = c.partition_point.ensures in
    let test = λ (o : ObjectId). nat_lt o.0 c.args.until in
    let point = facts.partitioned test (answers_by _ _ (λ g. g.0.now ≡ c.args.until) (λ g a r h called i. search rules) _ (search rules)) (IsPartitionedBy-ltb (λ (o : ObjectId). o.0) _ c.args.until (window_rises range c.args.number c.requires)) in
    are_below range c.args.number c.requires c.args.until c.partition_point.result c.if-objects-number.false facts.bound (λ k d from lt. point.0 k d from lt)

use Rattle.std.proofs.Common.{rules}
use Rattle.std.proofs.lemmas.List.Sorted.{answers_always}
use Rattle.hv_world.proofs.TypeLemmas.{searched}
use Rattle.hv_world.proofs.range.is_among.Goals as goal

-- the closure gives an object's number
pub returns : goal.returns
returns c =
    let facts = c.binary_search_by_key.ensures in
    let by_number = facts.position (λ o. o.0) (answers_always _ _ _ (λ f a r g called. search rules)) in
    rw (c.is_ok.ensures.value) (searched c.args.objects.now c.requires c.args.object _ facts.bound by_number)

use Rattle.std.proofs.lemmas.List.{length-map}
use Rattle.hv_world.specs.Types.{object_numbers}
use Rattle.hv_world.specs.declared.id.ObjectId.{ObjectId}
use Rattle.hv_match.proofs.counts.many.Goals as goal

pub returns : goal.returns
returns c = record {
  objects = object_numbers c.objects_of.result.now;
  exact = c.objects_of.ensures.exact;
  once = c.objects_of.ensures.once;
  many = length-map c.objects_of.result.now (λ (o : ObjectId). o.0);
}

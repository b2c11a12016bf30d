use Rattle.std.proofs.Common.{ap, ◌∙◌, slice_get}
use Rattle.hv_world.specs.Alike.{class_of}
use Rattle.hv_world.proofs.ClassLemmas.{number_at}
use Rattle.hv_world.proofs.alike.Classes.of.Goals as goal

pub returns : goal.returns
returns c = λ ss are.
    c.number_at.ensures ∙ ap (λ is. slice_get is c.args.subtask) c.deref.ensures.value ∙ number_at (class_of ss) ss c.args.self.now.numbers.items are.numbers c.args.subtask

use Rattle.hv_world.proofs.AlikeLaws.{alike_key, key_alike}
use Rattle.hv_world.proofs.alike.keys_tell_classes.Goals as goal

pub returns : goal.returns
returns c = λ ss s t p q. (alike_key ss s t p q, key_alike ss s t p q)

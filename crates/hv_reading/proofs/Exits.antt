-- What the exit of a `?` returns.
use Rattle.std.proofs.Common.{◌≡◌, Option, None, Result, Err, subst, sym}
use Rattle.hv_reading.specs.declared.refusal.Refusal.{Refusal}
use Rattle.hv_reading.specs.declared.refusal.Refusal.TheVariants as refusals
use Rattle.hv_reading.specs.inside.Reading.{Gives, Fails}

pub passed_on : {A Y : Type 0} (e : Refusal) (part : Option A) (whole : Option Y) → (part ≡ None → whole ≡ None) → Fails e part → Fails e whole
passed_on refusals.Memory part whole f h = tt
passed_on refusals.NoSpelling part whole f h = f h

pub exits : {A X Y : Type 0} (view : X → Y) (r : Result X Refusal) (e : Refusal) (part : Option A) (whole : Option Y) → (y : Refusal) × (r ≡ Err y) × (y ≡ e)
    → (part ≡ None → whole ≡ None) → Fails e part → Gives view r whole
exits view r e part whole (y, is, same) f h =
    subst (λ x. Gives view x whole) (sym is) (subst (λ x. Fails x whole) (sym same) (passed_on e part whole f h))

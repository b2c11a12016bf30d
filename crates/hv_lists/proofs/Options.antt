-- What may be there, and what may fail.
use Rattle.std.proofs.Common.{◌≡◌, Some, None, Result, Ok, Err, OnErr}

pub same_some : {X : Type 0} (x y : X) → Some x ≡ Some y → x ≡ y
same_some x y e = cc

pub not_some : {X : Type 0} (x : X) → None ≡ Some x → ⊥
not_some x e = cc

-- what holds in any case holds of a failure
pub on_err : {T E : Type 0} (r : Result T E) (P : Type 0) → P → OnErr r P
on_err (Ok x) P p = tt
on_err (Err e) P p = p

-- One type for several words.
use Rattle.std.specs.Prelude.{List, map}
use Rattle.hv_syntax.specs.Values.{WordAt, TypedBy, typed}

-- all these words, of this type
abbrev pub with_type : {T : Type 0} → T → List WordAt → List (TypedBy T)
with_type t names = map (typed t) names

-- The objects of a type, by number.
use Rattle.std.specs.Prelude.{◌↔◌, ℕ, List}
use Rattle.std.specs.List.{Contains}
use Rattle.hv_lists.specs.Lists.{Once}
use Rattle.hv_world.specs.Types.{Typing, Of, object_numbers}
use Rattle.hv_world.specs.declared.range.Range.{Range}

-- the objects of a type, each once
pub record IsRange (w : Typing) (os : List ℕ) (t : ℕ) : Type 0 where
  pub exact : (o : ℕ) → Contains os o ↔ Of w o t
  pub once : Once os

abbrev pub range_view : Range → List ℕ
range_view r = object_numbers r.objects.now

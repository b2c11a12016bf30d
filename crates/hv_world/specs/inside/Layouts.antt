-- How the objects of each type are kept.
use Rattle.hv_world.specs.Types.{Typing}
use Rattle.hv_world.specs.declared.types.Layout.{Layout}
use Rattle.hv_world.specs.declared.types.Layout.TheVariants as layouts
use Rattle.hv_world.specs.declared.lists.TypeLists.{TypeLists}
use Rattle.hv_world.specs.inside.Bases.{AreShared}
use Rattle.hv_world.specs.inside.Lines.{AreNested}
use Rattle.hv_world.specs.inside.TypeLists.{type_numbers, object_lists}

-- each type's list has its objects
abbrev pub HaveLists : Typing → TypeLists → Type 0
HaveLists w m = AreShared w (type_numbers m.bases.items) (object_lists m.lists.items)

-- the objects are kept so
abbrev pub Keeps : Typing → Layout → Type 0
Keeps w (layouts.Listed m) = HaveLists w m
Keeps w (layouts.Nested n) = AreNested w n

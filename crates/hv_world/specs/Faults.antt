-- Static faults, and which of several stands first.
use Rattle.std.specs.Prelude.{◌≤◌, Bool, List, [], ◌∷◌, map, Option, Some, None, nat_le, if◌then◌else◌}
use Rattle.std.specs.List.{Contains, All}
use Rattle.hv_text.specs.declared.span.Span.{Span}
use Rattle.hv_syntax.specs.Values.{WordAt}
use Rattle.hv_world.specs.declared.fault.StaticKind.{StaticKind}
use Rattle.hv_world.specs.declared.fault.StaticKind.TheVariants as kinds
use Rattle.hv_world.specs.declared.fault.Side.{Side}
use Rattle.hv_world.specs.declared.fault.Side.TheVariants as sides
use Rattle.hv_world.specs.declared.fault.StaticFault.{StaticFault}

-- a fault at a place, and at a word
abbrev pub fault_on : StaticKind → Side → Span → StaticFault
fault_on k s place = record { kind = k; side = s; span = place }

abbrev pub fault_at : StaticKind → Side → WordAt → StaticFault
fault_at k s w = fault_on k s w.place

abbrev pub faults_at : StaticKind → Side → List WordAt → List StaticFault
faults_at k s ws = map (fault_at k s) ws

-- a fault, where the test says so
abbrev pub fault_if : Bool → StaticKind → Side → WordAt → Option StaticFault
fault_if b k s w = if b then Some (fault_at k s w) else None

-- want of memory, which has no place
abbrev pub memory_fault : StaticFault
memory_fault = fault_on kinds.Memory sides.Domain (record { start = 0; past = 0 })

-- one of these, and none of them stands before it
pub record IsFirst (fs : List StaticFault) (f : StaticFault) : Type 0 where
  pub is_one : Contains fs f
  pub stands_first : All (λ g. f.span.start ≤ g.span.start) fs

-- the one of two faults that stands first
abbrev pub earlier : Option StaticFault → Option StaticFault → Option StaticFault
earlier None b = b
earlier (Some f) None = Some f
earlier (Some f) (Some g) = if nat_le f.span.start g.span.start then Some f else Some g

-- the one of these faults that stands first
abbrev pub least : List StaticFault → Option StaticFault
least [] = None
least (f ∷ fs) = earlier (Some f) (least fs)

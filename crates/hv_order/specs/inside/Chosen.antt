-- What is chosen for each node by a walk: the candidate by which it stands.
use Rattle.std.specs.Prelude.{◌≡◌, ℕ, ◌<◌, List, length, slice_get, Option, Some}
use Rattle.hv_order.specs.inside.Walks.{said_of}
use Rattle.hv_order.specs.declared.walk.Stand.{Stand}
use Rattle.hv_order.specs.declared.certify.Chosen.{Chosen}

-- the node of a number stands
abbrev pub HasStand : List (Option Stand) → ℕ → Type 0
HasStand stands v = (s : Stand) × (said_of stands v ≡ Some s)

-- so do all nodes
abbrev pub DoAllStand : List (Option Stand) → Type 0
DoAllStand stands = (v : ℕ) → v < length stands → HasStand stands v

-- what is chosen is what a node's candidate says, with its index
pub record IsChosenOf (s : Stand) (c : Chosen) : Type 0 where
  pub children : c.children.now ≡ s.winner.children.items
  pub objects : c.objects.now ≡ s.winner.objects.items
  pub index : c.at ≡ s.at

-- it is chosen for the node of a number as that stands
pub record IsChosenBy (stands : List (Option Stand)) (v : ℕ) (c : Chosen) : Type 0 where
  pub stand : Stand
  pub said : said_of stands v ≡ Some stand
  pub is : IsChosenOf stand c

-- so for each node
pub record AreChosenBy (stands : List (Option Stand)) (chosen : List Chosen) : Type 0 where
  pub as_many : length chosen ≡ length stands
  pub each : (v : ℕ) (c : Chosen) → slice_get chosen v ≡ Some c → IsChosenBy stands v c

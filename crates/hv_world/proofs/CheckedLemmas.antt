-- Lists that are checked as they get their numbers, one after another.
use Rattle.std.proofs.Common.{◌≡◌, ℕ, ◌+◌, ◌<◌, ◌≤◌, List, [], ◌∷◌, ◌++◌, map, drop, length, get_or, Option}
use Rattle.std.specs.List.{flat_map}
use Rattle.hv_world.specs.declared.fault.StaticFault.{StaticFault}
use Rattle.hv_world.specs.Faults.{earlier, least}
use Rattle.hv_world.proofs.FaultLemmas.{faults_next, faults_end}
use Rattle.hv_world.proofs.InternLemmas.{map_all}
use Rattle.hv_world.proofs.LiteralLemmas.{value_more}

module _ {X Y V T : Type 0} (view : X → Y) (value : Y → V) (shown : T → V) (faults : Y → List StaticFault) (xs : List X) where
  -- these values and this fault are those of all before a place: with the others they make up the whole
  abbrev pub AreChecked : ℕ → List T → Option StaticFault → Type 0
  AreChecked i ts found =
      (map shown ts ++ map value (map view (drop i xs)) ≡ map value (map view xs))
      × (earlier found (least (flat_map faults (map view (drop i xs)))) ≡ least (flat_map faults (map view xs)))

  pub one_more : (i : ℕ) (x : X) (old : List T) (found : Option StaticFault) {new : List T} {t : T} {this next : Option StaticFault} → AreChecked i old found
      → i < length xs → x ≡ get_or xs i x → shown t ≡ value (view x) → this ≡ least (faults (view x)) → new ≡ old ++ t ∷ [] → next ≡ earlier found this
      → AreChecked (i + 1) new next
  one_more i x old found {new} {t} {this} {next} so_far less is is_value is_fault pushed first =
      (value_more xs i x less is view value shown old new t _ so_far.0 pushed is_value, faults_next view faults xs i x found this next _ less is is_fault first so_far.1)

  pub all_checked : (i : ℕ) (ts : List T) (found : Option StaticFault) → length xs ≤ i → AreChecked i ts found
      → (map shown ts ≡ map value (map view xs)) × (found ≡ least (flat_map faults (map view xs)))
  all_checked i ts found le so_far = (map_all value view xs i (map shown ts) _ le so_far.0, faults_end view faults xs i found _ le so_far.1)

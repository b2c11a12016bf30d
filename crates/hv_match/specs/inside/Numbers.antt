-- Numbers where 64 bits hold them.
use Rattle.std.specs.Prelude.{◌≡◌, ℕ, ◌*◌, ◌^◌, if◌then◌else◌, nat_lt, List, Option, Some, None}
use Rattle.hv_world.specs.Worlds.{World, Method}
use Rattle.hv_match.specs.Counts.{product, free, AreChoices}

-- the number, and nothing where it needs more than 64 bits
abbrev pub in_64_bits : ℕ → Option ℕ
in_64_bits n = if nat_lt n (2 ^ 64) then Some n else None

-- the number times those of the objects that the free parameters may have, where 64 bits hold it
abbrev pub TimesChoices : World → Method → Option ℕ → Option ℕ → Type 0
TimesChoices w m old new =
    (ns : List ℕ) × AreChoices w m (free m) ns
    × ((n : ℕ) → old ≡ in_64_bits n → new ≡ in_64_bits (n * product ns))

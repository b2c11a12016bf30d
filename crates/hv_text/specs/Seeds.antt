-- What a table is hashed from.
use Rattle.std.specs.declared.hash.DefaultHasher.{DefaultHasher}
use Rattle.hv_text.specs.declared.seed.Seeded.{Seeded}

-- the hasher that takes in a key that is looked for: it has taken in all keys of the table before
abbrev pub start_of : Seeded → DefaultHasher
start_of s = s.start

-- Places in a table of ids.
use Rattle.std.specs.Prelude.{ℕ, List, nat_eq}
use Rattle.std.specs.List.{position_or_len}

-- the place of an id; that behind the last where it is none of them
abbrev pub place_of : List ℕ → ℕ → ℕ
place_of is i = position_or_len (nat_eq i) is

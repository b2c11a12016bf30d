-- What a name means, and how names compare.
use Rattle.std.specs.Prelude.{ℕ, List}
use Rattle.std.specs.Cmp.Lexicographic.{bytes_decides}
use Rattle.std.specs.Str.{bytes_eq}
use Rattle.std.specs.Hash.{HashWrites, Alike, on_Alike, same_Alike}
use Rattle.hv_text.specs.Bytes.{lower, words_of}
use Rattle.hv_text.specs.declared.name.Name.{Name}

-- a name as it was written
abbrev pub bytes_of : Name → List ℕ
bytes_of n = n.bytes.now

-- what a name means: its bytes in lower case
abbrev pub text_of : Name → List ℕ
text_of n = lower (bytes_of n)

-- what a hash reads of a name
abbrev pub hash_input_of : Name → HashWrites
hash_input_of n = words_of (text_of n)

-- names that are equal are hashed alike
pub same_hash : Alike (λ (a b : Name). bytes_eq (text_of a) (text_of b)) hash_input_of
same_hash = on_Alike text_of (same_Alike words_of bytes_decides)

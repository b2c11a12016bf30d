-- How the code reads: lists that stand as `()`, as one member, or behind `and`; and what stands
-- behind `not`.
use Rattle.std.specs.Prelude.{List, [], ◌∷◌, Option, Some, None, option_map}
use Rattle.hv_text.specs.Trees.{Tree, word, list, Trees, none, more}
use Rattle.hv_reading.specs.declared.word.Head.{Head}
use Rattle.hv_reading.specs.declared.word.Head.TheVariants as heads
use Rattle.hv_reading.specs.Words.{head_of}
use Rattle.hv_reading.specs.inside.Reading.{every, only}
use Rattle.hv_reading.specs.Lists.{conjuncts}

-- the one thing that stands behind `not`
abbrev pub behind_not : Head → Trees → Option Tree
behind_not heads.Not ts = only ts
behind_not _ ts = None

-- what `not` stands before, where a list of two members begins with it
abbrev pub negated : Tree → Option Tree
negated (word w s) = None
negated (list none s) = None
negated (list (more (word w p) ts) s) = behind_not (head_of w) ts
negated (list (more (list us p) ts) s) = None

-- a list of one
abbrev pub single : {A : Type 0} → A → List A
single a = a ∷ []

-- the members of a list, or one of them alone
abbrev pub listed_by : {A : Type 0} → (Tree → Option A) → Option Trees → Tree → Option (List A)
listed_by f (Some ts) e = every f ts
listed_by f None e = option_map single (f e)

-- `()`, one of them, or `(and ..)` of them
abbrev pub listed : {A : Type 0} → (Tree → Option A) → Tree → Option (List A)
listed f e = listed_by f (conjuncts e) e

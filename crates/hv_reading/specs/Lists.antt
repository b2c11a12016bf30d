-- What stands behind `and`, or as `()`.
use Rattle.std.specs.Prelude.{Option, Some, None}
use Rattle.hv_text.specs.Trees.{Tree, word, list, Trees, none, more}
use Rattle.hv_reading.specs.declared.word.Head.{Head}
use Rattle.hv_reading.specs.declared.word.Head.TheVariants as heads
use Rattle.hv_reading.specs.Words.{head_of}

-- what stands behind `and`
abbrev pub behind_and : Head → Trees → Option Trees
behind_and heads.And ts = Some ts
behind_and _ ts = None

-- the members of a list that stands as `()` or behind `and`
abbrev pub conjuncts : Tree → Option Trees
conjuncts (word w s) = None
conjuncts (list none s) = Some none
conjuncts (list (more (word w p) ts) s) = behind_and (head_of w) ts
conjuncts (list (more (list us p) ts) s) = None

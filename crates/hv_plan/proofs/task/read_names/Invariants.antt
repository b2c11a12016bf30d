use Rattle.std.proofs.Common.{◌≡◌, drop, map}
use Rattle.hv_text.specs.Names.{text_of}
use Rattle.hv_text.specs.Words.{piece_of}
use Rattle.hv_plan.specs.Forms.{every, behind, name_at}
use Rattle.hv_plan.proofs.task.read_names.Given as goal

-- the names so far and those of the words that are left are those of all words
abbrev pub invariant-loop-word : goal.invariant-loop-word
invariant-loop-word l =
    behind (map text_of l.names.items) (every name_at (map piece_of (drop l.word-index l.words))) ≡ every name_at (map piece_of l.words)

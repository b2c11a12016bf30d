use Rattle.std.proofs.Common.{◌≡◌, drop, take, map}
use Rattle.hv_text.specs.Words.{piece_of}
use Rattle.hv_plan.specs.Forms.{parts_of, with_front}
use Rattle.hv_plan.proofs.form.parts.Given as goal

-- the words so far, which are no arrow, stand before the parts of those that are left
abbrev pub invariant-loop-i : goal.invariant-loop-i
invariant-loop-i l = with_front (map piece_of (take l.i l.words)) (parts_of (map piece_of (drop l.i l.words))) ≡ parts_of (map piece_of l.words)

use Rattle.std.proofs.Common.{◌≡◌, ◌++◌, drop, map}
use Rattle.hv_text.specs.Names.{text_of}
use Rattle.hv_plan.specs.Canonical.{words_text}
use Rattle.hv_plan.proofs.print.put_words.Given as goal

abbrev pub invariant-loop-name : goal.invariant-loop-name
invariant-loop-name l = l.out.items ++ words_text (map text_of (drop l.name-index l.names)) ≡ l.initial.out.items ++ words_text (map text_of l.names)

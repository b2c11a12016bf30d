use Rattle.std.proofs.Common.{◌≡◌, length}
use Rattle.hv_world.specs.Types.{Typing}
use Rattle.hv_world.specs.inside.Lines.{AreListed, AreOpen, AreParts}
use Rattle.hv_world.proofs.nested.walk.Given as goal

-- types that are not over and parts are right, where they were
abbrev pub invariant-loop : goal.invariant-loop
invariant-loop l =
    (length l.spans ≡ length l.initial.spans)
    × ((w : Typing) → AreListed w l.graph l.lists → AreOpen w l.initial.line l.initial.waiting.items → AreParts w l.initial.line l.initial.spans
    → AreOpen w l.line l.waiting.items × AreParts w l.line l.spans)

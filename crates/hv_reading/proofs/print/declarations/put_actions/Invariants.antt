use Rattle.std.proofs.Common.{◌≡◌, ◌++◌, drop, map}
use Rattle.hv_reading.specs.CanonicalSections.{lines, section_of_each, action_section}
use Rattle.hv_syntax.specs.DeclarationViews.{action_view}
use Rattle.hv_reading.proofs.print.declarations.put_actions.Given as goal

abbrev pub invariant-loop-action : goal.invariant-loop-action
invariant-loop-action l = l.out.items ++ lines (section_of_each action_section (map action_view (drop l.action-index l.actions))) ≡ l.initial.out.items ++ lines (section_of_each action_section (map action_view l.actions))

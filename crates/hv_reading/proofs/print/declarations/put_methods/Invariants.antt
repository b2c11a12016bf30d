use Rattle.std.proofs.Common.{◌≡◌, ◌++◌, drop, map}
use Rattle.hv_reading.specs.CanonicalSections.{lines, section_of_each, method_section}
use Rattle.hv_syntax.specs.DeclarationViews.{method_view}
use Rattle.hv_reading.proofs.print.declarations.put_methods.Given as goal

abbrev pub invariant-loop-method : goal.invariant-loop-method
invariant-loop-method l = l.out.items ++ lines (section_of_each method_section (map method_view (drop l.method-index l.methods))) ≡ l.initial.out.items ++ lines (section_of_each method_section (map method_view l.methods))

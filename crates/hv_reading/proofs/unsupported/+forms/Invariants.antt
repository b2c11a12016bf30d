use Rattle.std.proofs.Common.{◌≡◌, drop}
use Rattle.hv_text.specs.Trees.{trees}
use Rattle.hv_reading.specs.Unsupported.{is_form_list}
use Rattle.hv_reading.proofs.unsupported.+forms.Given as goal

abbrev pub invariant-is_form_list-loop-e : goal.invariant-is_form_list-loop-e
invariant-is_form_list-loop-e l = is_form_list l.form (trees (drop l.e-index l.es)) ≡ is_form_list l.form (trees l.es)

use Rattle.std.proofs.lemmas.Map.Text.{is_eq-slice_cmp}
use Rattle.hv_text.specs.Names.{text_of}
use Rattle.hv_text.proofs.laws.names_agree.Goals as goal

pub returns-clause-order : goal.returns-clause-order
returns-clause-order c = is_eq-slice_cmp (text_of c.args.one) (text_of c.args.other)

use Rattle.std.proofs.Common.{rules, codes}
use Rattle.hv_text.specs.Names.{text_of}
use Rattle.hv_answer.proofs.WriteLemmas.{then_err}
use Rattle.hv_answer.proofs.write.write_name.Goals as goal

pub returns-clause-err : goal.returns-clause-err
returns-clause-err g c =
    then_err c.write_lower.result _ _ _ (codes " ") _ (text_of c.args.name.now) _ (search rules) (search rules) c.in_ok-write_all.ensures.ok c.write_lower.ensures.err

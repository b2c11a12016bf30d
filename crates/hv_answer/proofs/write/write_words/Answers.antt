use Rattle.std.proofs.Common.{rules}
use Rattle.hv_answer.specs.Text.{verdict_words}
use Rattle.hv_answer.proofs.WriteLemmas.{same_ok, same_err}
use Rattle.hv_answer.proofs.write.write_words.Goals as goal

pub returns-in-Undecided-clause-ok : goal.returns-in-Undecided-clause-ok
returns-in-Undecided-clause-ok g c =
    same_ok c.write_parts.result _ _ (verdict_words c.args.verdict) _ (search rules) c.write_parts.ensures.ok

pub returns-in-Undecided-clause-err : goal.returns-in-Undecided-clause-err
returns-in-Undecided-clause-err g c =
    same_err c.write_parts.result _ _ (verdict_words c.args.verdict) _ (search rules) c.write_parts.ensures.err

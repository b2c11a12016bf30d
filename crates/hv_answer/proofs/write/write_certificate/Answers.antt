use Rattle.std.proofs.Common.{rules}
use Rattle.hv_lists.proofs.Options.{on_err}
use Rattle.hv_certificate.specs.Texts.{root_text, nodes_text}
use Rattle.hv_answer.proofs.WriteLemmas.{first_fails, then_err, then_ok}
use Rattle.hv_answer.proofs.write.write_certificate.Goals as goal

pub returns-in_err-write_root-clause-err : goal.returns-in_err-write_root-clause-err
returns-in_err-write_root-clause-err g c =
    on_err c.from_residual.result _ (first_fails _ _ (root_text c.args.certificate.now.root) _ (nodes_text c.args.certificate.now.lines.items) (search rules) c.in_err-write_root.ensures.err)

pub returns-clause-ok : goal.returns-clause-ok
returns-clause-ok g c =
    then_ok c.write_nodes.result _ _ _ (root_text c.args.certificate.now.root) _ (nodes_text c.args.certificate.now.lines.items) _ (search rules) (search rules) c.in_ok-write_root.ensures.ok c.write_nodes.ensures.ok

pub returns-clause-err : goal.returns-clause-err
returns-clause-err g c =
    then_err c.write_nodes.result _ _ _ (root_text c.args.certificate.now.root) _ (nodes_text c.args.certificate.now.lines.items) _ (search rules) (search rules) c.in_ok-write_root.ensures.ok c.write_nodes.ensures.err

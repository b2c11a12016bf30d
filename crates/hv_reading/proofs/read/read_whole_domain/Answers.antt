use Rattle.hv_text.specs.Trees.{trees}
use Rattle.hv_syntax.specs.DomainViews.{domain_view}
use Rattle.hv_reading.proofs.TextLemmas.{domain_of_text, fault_of_domain}
use Rattle.hv_reading.proofs.read.read_whole_domain.Goals as goal

pub returns-clause-ok : goal.returns-clause-ok
returns-clause-ok c =
    domain_of_text c.args.text.now (trees c.deref.result.now) (rw c.deref.ensures.value c.in_ok-es.ensures.ok) domain_view c.read_domain_of.result c.read_domain_of.ensures

pub returns-clause-err : goal.returns-clause-err
returns-clause-err c =
    fault_of_domain c.args.text.now (trees c.deref.result.now) (rw c.deref.ensures.value c.in_ok-es.ensures.ok) domain_view c.read_domain_of.result c.read_domain_of.ensures

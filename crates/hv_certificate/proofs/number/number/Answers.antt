use Rattle.hv_certificate.proofs.WordLemmas.{number_low}
use Rattle.hv_certificate.proofs.number.number.Goals as goal

pub returns-clause-word : goal.returns-clause-word
returns-clause-word c = rw (← c.written.ensures)
    (number_low c.written.result.now c.number_of.result c.number_of.ensures.bytes c.number_of.ensures.id)

use Rattle.hv_certificate.proofs.LawLemmas.{same_bytes, same_certificate}
use Rattle.hv_certificate.proofs.laws.certificates_are_their_texts.Goals as goal

pub returns-clause-bytes : goal.returns-clause-bytes
returns-clause-bytes c = same_bytes

pub returns-clause-one : goal.returns-clause-one
returns-clause-one c = same_certificate

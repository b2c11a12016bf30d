use Rattle.hv_judge.proofs.LawCertificates.{one_recheck, explained_again}
use Rattle.hv_judge.proofs.law.one_recheck.Goals as goal

pub returns : goal.returns
returns c =
    let one = c.certificates_are_their_texts.ensures.one in
    let spelling = c.values_or_a_rejection.ensures.one_values in
    record { one = one_recheck one spelling; explained = explained_again one spelling }

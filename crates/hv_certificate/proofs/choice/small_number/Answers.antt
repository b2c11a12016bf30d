use Rattle.std.proofs.Common.{sym, ◌∙◌, arith}
use Rattle.std.proofs.lemmas.Fmt.{decimal_injective}
use Rattle.hv_certificate.proofs.choice.small_number.Goals as goal

pub returns-then-value-gt4294967295-clause-word : goal.returns-then-value-gt4294967295-clause-word
returns-then-value-gt4294967295-clause-word c = λ n h e.
    let same = decimal_injective c.in-Some.value n c.in-Some.ensures.id (omega arith) (sym c.in-Some.ensures.word ∙ e) in
    omega (arith, c.if-value-gt4294967295.true)

use Rattle.std.proofs.Common.{◌∙◌, sym}
use Rattle.hv_text.proofs.WordLemmas.{begins_by}
use Rattle.hv_text.proofs.words.first_letter.Goals as goal

pub returns-clause-word : goal.returns-clause-word
returns-clause-word c =
    begins_by c.args.text.now c.in_ok-first.first.now c.to_ascii_lowercase.result c.in_ok-first._others.now c.in_ok-first.ensures.cases.0
    (sym c.is_word_byte.ensures ∙ c.if-not-is_word_byte.false) c.to_ascii_lowercase.ensures.value

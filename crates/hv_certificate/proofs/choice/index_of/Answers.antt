use Rattle.std.proofs.Common.{sym, ◌∙◌}
use Rattle.hv_text.specs.Names.{text_of}
use Rattle.hv_certificate.proofs.FormLemmas.{last_two, no_index_mark, no_index_number, index_read}
use Rattle.hv_certificate.proofs.choice.index_of.Goals as goal

pub returns-then-not-is-clause-words : goal.returns-then-not-is-clause-words
returns-then-not-is-clause-words c =
    no_index_mark _ _ (text_of c.in-Some-split_last.mark.now) (text_of c.in-Some.last.now)
    (last_two c.args.words.now c.in-Some.words.now c.in-Some-split_last.words.now c.in-Some.last.now c.in-Some-split_last.mark.now
    c.in-Some.ensures.cases.0 c.in-Some-split_last.ensures.cases.0)
    (sym c.is.ensures ∙ c.if-not-is.true)

pub returns-in-Some-small_number-clause-words : goal.returns-in-Some-small_number-clause-words
returns-in-Some-small_number-clause-words c =
    index_read _ _ (text_of c.in-Some-split_last.mark.now) (text_of c.in-Some.last.now) c.in-Some-small_number.index
    (last_two c.args.words.now c.in-Some.words.now c.in-Some-split_last.words.now c.in-Some.last.now c.in-Some-split_last.mark.now
    c.in-Some.ensures.cases.0 c.in-Some-split_last.ensures.cases.0)
    (sym c.is.ensures ∙ c.if-not-is.false) c.in-Some-small_number.ensures.word

pub returns-in-None-clause-words : goal.returns-in-None-clause-words
returns-in-None-clause-words c =
    no_index_number _ _ (text_of c.in-Some-split_last.mark.now) (text_of c.in-Some.last.now)
    (last_two c.args.words.now c.in-Some.words.now c.in-Some-split_last.words.now c.in-Some.last.now c.in-Some-split_last.mark.now
    c.in-Some.ensures.cases.0 c.in-Some-split_last.ensures.cases.0)
    c.in-None.ensures.word

use Rattle.std.proofs.Common.{map}
use Rattle.hv_text.specs.Names.{text_of}
use Rattle.hv_certificate.proofs.WordLemmas.{name_word, names_words, line_not_ended, no_bytes}
use Rattle.hv_certificate.proofs.words.read_line.Goals as goal

pub returns-in_default-split_first : goal.returns-in_default-split_first
returns-in_default-split_first c =
    line_not_ended c.args.left.now (text_of c.in-Some.first) c.in-Some.left.now c.in_ok-left.left.now (map text_of c.read_words.new.words.items)
    c.in-Some.ensures.word.0 c.in_ok-left.ensures.words (name_word c.in-Some.first) (names_words c.read_words.new.words.items)
    c.in-Some.ensures.word.1 c.in_ok-left.ensures.behind c.in_ok-left.ensures.end
    (no_bytes c.in_ok-left.left.now c.in_default-split_first.ensures.cases)

pub returns-then-end-ne10 : goal.returns-then-end-ne10
returns-then-end-ne10 c =
    line_not_ended c.args.left.now (text_of c.in-Some.first) c.in-Some.left.now c.in_ok-left.left.now (map text_of c.read_words.new.words.items)
    c.in-Some.ensures.word.0 c.in_ok-left.ensures.words (name_word c.in-Some.first) (names_words c.read_words.new.words.items)
    c.in-Some.ensures.word.1 c.in_ok-left.ensures.behind c.in_ok-left.ensures.end
    (λ x e. c.if-end-ne10.true (cc (e, c.in-Some-split_first.ensures.cases.0)))

use Rattle.std.proofs.Common.{sym, ◌∙◌, map}
use Rattle.hv_text.specs.Names.{text_of}
use Rattle.hv_certificate.proofs.WordLemmas.{name_word, names_words}
use Rattle.hv_certificate.proofs.FormLemmas.{no_root_line, no_root_first, no_root_choice, root_read}
use Rattle.hv_certificate.proofs.read.read_root.Goals as goal

pub returns-in_default : goal.returns-in_default
returns-in_default c = no_root_line c.args.left.now (rw c.in_default.is at c.in_ok-line.ensures)

pub returns-then-not-is : goal.returns-then-not-is
returns-then-not-is c =
    no_root_first c.args.left.now (text_of c.in-Some.line.first) c.in-Some.line.behind.now (map text_of c.in-Some.line.words.now)
    (rw c.in-Some.is at c.in_ok-line.ensures) (name_word c.in-Some.line.first) (names_words c.in-Some.line.words.now)
    (sym c.is.ensures ∙ c.if-not-is.true)

pub returns-in_default-2 : goal.returns-in_default-2
returns-in_default-2 c =
    no_root_choice c.args.left.now (text_of c.in-Some.line.first) c.in-Some.line.behind.now (map text_of c.in-Some.line.words.now)
    (rw c.in-Some.is at c.in_ok-line.ensures) (name_word c.in-Some.line.first) (names_words c.in-Some.line.words.now)
    (rw c.in_default-2.is at c.in_ok-choice.ensures)

pub returns : goal.returns
returns c =
    let read = rw c.in-Some-2.is at c.in_ok-choice.ensures in (
      read.0,
      root_read c.args.left.now (text_of c.in-Some.line.first) c.in-Some.line.behind.now (map text_of c.in-Some.line.words.now) c.in-Some-2.choice
          (rw c.in-Some.is at c.in_ok-line.ensures) (sym c.is.ensures ∙ c.if-not-is.false) read.1,
    )

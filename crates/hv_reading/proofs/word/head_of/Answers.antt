use Rattle.std.proofs.Common.{◌≡◌, ◌<◌, ℕ, List, arith, ap, length, refl, ◌∙◌}
use Rattle.std.specs.Prelude.{codes}
use Rattle.std.specs.Char.{to_ascii_lowercase}
use Rattle.std.proofs.lemmas.List.{length-map}
use Rattle.hv_text.specs.Names.{text_of, bytes_of}
use Rattle.hv_reading.specs.Words.{head_of, symbol_if_name, sort_of}
use Rattle.hv_reading.proofs.SpellingLemmas.{longer}
use Rattle.hv_reading.proofs.word.head_of.Goals as goal

pub returns-else-written-le6 : goal.returns-else-written-le6
returns-else-written-le6 c =
    let w : List ℕ = text_of c.args.name in
    let long : 6 < length w = omega (arith, c.if-written-le6.false, ap length c.written.ensures, length-map (bytes_of c.args.name) to_ascii_lowercase) in
    let no_word : symbol_if_name (sort_of w) ≡ head_of w =
    rw (longer w (codes "and") (omega (arith, long)), longer w (codes "or") (omega (arith, long)), longer w (codes "not") (omega (arith, long)), longer w (codes "imply") (omega (arith, long)), longer w (codes "forall") long, longer w (codes "exists") long, longer w (codes "when") (omega (arith, long)), longer w (codes "=") (omega (arith, long))) refl in
    c.head_of_other.ensures ∙ no_word

use Rattle.std.proofs.Common.{◌≡◌, Some, sym, subst, ◌∙◌}
use Rattle.std.specs.Cmp.Lexicographic.{bytes_decides}
use Rattle.hv_text.specs.Names.{text_of}
use Rattle.hv_world.specs.inside.Tables.{places_by}
use Rattle.hv_world.proofs.NameLemmas.{beside_is}
use Rattle.hv_world.proofs.names.Names.place_at.Goals as goal

pub returns-then-eq : goal.returns-then-eq
returns-then-eq c =
    let other = text_of c.in_ok-other.other.now in
    let same : other ≡ text_of c.args.name = (bytes_decides other (text_of c.args.name)).0 (sym c.eq.ensures ∙ c.if-eq.true) in
    subst (λ n. places_by c.args.self.now n ≡ Some c.in_ok-other.place.now) same
    (sym (beside_is c.args.self.now.places.entries other) ∙ c.in_ok-other.ensures.value)

use Rattle.std.proofs.Common.{◌≡◌, ◌+◌, ◌<◌, ℕ, Some, nat_eq, ap, sym, subst, ◌∙◌, arith, slice_index}
use Rattle.std.specs.Map.{update}
use Rattle.hv_plan.specs.inside.Tables.{place_by, ArePlaces}
use Rattle.hv_plan.specs.declared.shape.table.Table.{Table}
use Rattle.hv_plan.proofs.PlaceTables.{among_put, put_again}
use Rattle.hv_plan.proofs.shape.repeats.note.Goals as goal
use Rattle.hv_plan.proofs.shape.repeats.note.Goals.{then-first_line-line+in_ok-put, else-first_line-line}

pub returns-in_default-clause-places : goal.returns-in_default-clause-places
returns-in_default-clause-places c =
    let ids = c.args.begins.now in
    among_put (place_by c.args.table.now) (place_by c.put.new.self) (slice_index ids c.args.place) c.in_ok-short.field-0 c.in_ok-first.ensures.places ids c.args.place (omega (arith, c.in_ok-short.ensures))
    (ap (slice_index ids) c.in_ok-short.ensures) c.requires.places

pub line_at-first_line-requires : goal.line_at-first_line-requires
line_at-first_line-requires c =
    let before = c.requires.places (slice_index c.args.begins.now c.args.place) c.in-Some.first (sym c.in_ok-first.ensures.before ∙ c.in-Some.is) in
    let lt : c.in-Some.first < c.args.place = before.0 in
    omega (arith, lt, c.requires.lines)

pub returns-clause-places : goal.returns-clause-places
returns-clause-places c =
    let ids = c.args.begins.now in
    let id = slice_index ids c.args.place in
    let old = place_by c.args.table.now in
    let mid = place_by c.put.new.self in
    let P : Table → Type 0 = λ t. ArePlaces t ids (c.args.place + 1) in
    elim c.if-first_line-line.branch [
      | then-first_line-line+in_ok-put w ↦
          let before = c.requires.places id c.in-Some.first (sym c.in_ok-first.ensures.before ∙ c.in-Some.is) in
          let lt : c.in-Some.first < c.args.place = before.0 in
          let new = place_by w.put-then-first_line-line.new.self in
          let put : (i : ℕ) → new i ≡ update nat_eq old id (Some c.in-Some.first) i = put_again old mid new id c.in_ok-short.field-0 c.in-Some.first c.in_ok-first.ensures.places w.in_ok-put.ensures.places in
          subst P (sym w.table-is) (among_put old new id c.in-Some.first put ids c.args.place (omega (arith, lt)) before.1 c.requires.places)
      | else-first_line-line w ↦
          subst P (sym w.table-is)
          (among_put old mid id c.in_ok-short.field-0 c.in_ok-first.ensures.places ids c.args.place (omega (arith, c.in_ok-short.ensures)) (ap (slice_index ids) c.in_ok-short.ensures) c.requires.places)
    ]

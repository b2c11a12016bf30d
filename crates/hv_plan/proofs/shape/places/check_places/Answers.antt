use Rattle.std.proofs.Common.{◌≡◌, ◌<◌, ◌∙◌, ℕ, List, None, Option, sym, subst, length, slice_index}
use Rattle.hv_plan.specs.LineViews.{plan_view}
use Rattle.hv_plan.specs.Values.{Plan}
use Rattle.hv_plan.specs.Shapes.{ids, all_children, parents}
use Rattle.hv_plan.specs.inside.Shaping.{IsFirst, IsMissed, is_known, lines_of_children}
use Rattle.hv_plan.specs.inside.Tables.{child_places, IsSecond, IsUnplaced}
use Rattle.hv_plan.proofs.PlaceTables.{as_many_places, no_repeat, places_within, repeats_by_place, unknown_by_place}
use Rattle.hv_plan.proofs.ShapeFaults.{all_known, as_many_lines, pairs_are, unknowns_are}
use Rattle.hv_plan.proofs.shape.places.check_places.Goals as goal

-- the places and the lines of children are as many
as_long : (p : Plan) (places : List ℕ) → places ≡ child_places p → length places ≡ length (lines_of_children p)
as_long p places are = as_many_places (ids p) (all_children p) places are ∙ as_many_lines (parents p)

-- the first line with a child that begins no line
abbrev IsUnknown : Plan → Option ℕ → Type 0
IsUnknown p o = IsFirst (IsMissed (is_known (ids p) (all_children p)) (lines_of_children p) (length (all_children p))) o

unknown : (p : Plan) (places : List ℕ) (count : ℕ) (o : Option ℕ) → places ≡ child_places p → count ≡ length (ids p) → IsUnplaced count places (lines_of_children p) o → IsUnknown p o
unknown p places count o are many first = unknown_by_place (ids p) (all_children p) places are (lines_of_children p) o (subst (λ n. IsUnplaced n places (lines_of_children p) o) many first)

known : (p : Plan) (places : List ℕ) (count : ℕ) (o : Option ℕ) → places ≡ child_places p → count ≡ length (ids p) → IsUnplaced count places (lines_of_children p) o → o ≡ None → IsUnknown p None
known p places count o are many first none = subst (IsUnknown p) none (unknown p places count o are many first)

second : (p : Plan) (places : List ℕ) (o : Option ℕ) → places ≡ child_places p → IsUnknown p None → IsSecond places (lines_of_children p) o → IsSecond (all_children p) (lines_of_children p) o
second p places o are none first = repeats_by_place (ids p) (all_children p) places are (all_known p none) (lines_of_children p) o first

pub unknown_line-requires : goal.unknown_line-requires
unknown_line-requires c = as_long (plan_view c.args.plan.now) c.args.places.now c.requires.places

pub none_at-requires-clause-first : goal.none_at-requires-clause-first
none_at-requires-clause-first c =
    let p = plan_view c.args.plan.now in
    unknowns_are p c.args.plan.now.order c.in_ok-unknown.unknown
    (unknown p c.args.places.now c.line_count-count.result c.in_ok-unknown.unknown c.requires.places c.line_count-count.ensures c.in_ok-unknown.ensures)

pub second_line-requires-clause-lines : goal.second_line-requires-clause-lines
second_line-requires-clause-lines c = as_long (plan_view c.args.plan.now) c.args.places.now c.requires.places

pub second_line-requires-clause-within : goal.second_line-requires-clause-within
second_line-requires-clause-within c = λ k w.
    let p = plan_view c.args.plan.now in
    let places = c.args.places.now in
    let none = known p places c.line_count-count.result c.in_ok-unknown.unknown c.requires.places c.line_count-count.ensures c.in_ok-unknown.ensures c.in_ok-none_at.ensures.none in
    subst (λ n. slice_index places k < n) (sym c.line_count-count.ensures) (places_within (ids p) (all_children p) places c.requires.places (all_known p none) k w)

pub none_at-requires-2-clause-first : goal.none_at-requires-2-clause-first
none_at-requires-2-clause-first c =
    let p = plan_view c.args.plan.now in
    let places = c.args.places.now in
    let none = known p places c.line_count-count.result c.in_ok-unknown.unknown c.requires.places c.line_count-count.ensures c.in_ok-unknown.ensures c.in_ok-none_at.ensures.none in
    pairs_are p c.args.plan.now.order c.in_ok-second.second (second p places c.in_ok-second.second c.requires.places none c.in_ok-second.ensures)

pub returns-clause-known : goal.returns-clause-known
returns-clause-known c =
    let p = plan_view c.args.plan.now in
    all_known p (known p c.args.places.now c.line_count-count.result c.in_ok-unknown.unknown c.requires.places c.line_count-count.ensures c.in_ok-unknown.ensures c.in_ok-none_at.ensures.none)

pub returns-clause-single : goal.returns-clause-single
returns-clause-single c =
    let p = plan_view c.args.plan.now in
    let places = c.args.places.now in
    let none = known p places c.line_count-count.result c.in_ok-unknown.unknown c.requires.places c.line_count-count.ensures c.in_ok-unknown.ensures c.in_ok-none_at.ensures.none in
    no_repeat (all_children p) (lines_of_children p)
    (subst (IsSecond (all_children p) (lines_of_children p)) c.in_ok-none_at-2.ensures.none (second p places c.in_ok-second.second c.requires.places none c.in_ok-second.ensures))

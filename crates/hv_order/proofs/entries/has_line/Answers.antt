use Rattle.std.proofs.Common.{◌≡◌, ◌-◌, List, ℕ, true, false, Some, None, slice_get, subst, sym, ◌∙◌, arith, eqb-true, eq-eqb}
use Rattle.std.proofs.lemmas.Option.{slice_get_past}
use Rattle.hv_lists.proofs.Places.{slice_get_here}
use Rattle.hv_world.specs.WorldViews.{world_view}
use Rattle.hv_plan.specs.BuiltTrees.{tree_view}
use Rattle.hv_certificate.specs.declared.certificate.Choice.{Choice}
use Rattle.hv_order.proofs.TreeLines.{line_has_id}
use Rattle.hv_order.proofs.EntryLemmas.{no_line, other_id, its_line}
use Rattle.hv_order.proofs.entries.has_line.Goals as goal

pub child_id-id-requires : goal.child_id-id-requires
child_id-id-requires c =
    line_has_id (world_view c.args._world.now) (tree_view c.args.tree.now) c.requires.tree c.args.place c.number_at.result (omega (arith, c.requires.behind)) c.number_at.ensures

pub returns-in-None-clause-not : goal.returns-in-None-clause-not
returns-in-None-clause-not c = λ off.
    let past = slice_get_past c.deref.result.now (c.args.place - 1) (c.in-None.ensures.lookup.3) in
    let P : List (ℕ × Choice × ℕ) → Type 0 = λ ls. slice_get ls (c.args.place - 1) ≡ None in
    no_line (world_view c.args._world.now) (tree_view c.args.tree.now) c.requires.tree c.args.certificate.now c.args.place c.requires.behind c.requires.place
    (subst P c.deref.ensures.value past)

pub returns-in-Some-clause-yes : goal.returns-in-Some-clause-yes
returns-in-Some-clause-yes c = λ on.
    let here = slice_get_here c.deref.result.now (c.args.place - 1) c.in-Some.line.now (c.in-Some.ensures.lookup.3).0 c.in-Some.ensures.lookup.1 in
    let P : List (ℕ × Choice × ℕ) → Type 0 = λ ls. slice_get ls (c.args.place - 1) ≡ Some c.in-Some.line.now in
    its_line (world_view c.args._world.now) (tree_view c.args.tree.now) c.requires.tree c.args.certificate.now c.args.place c.number_at.result c.child_id-id.result c.in-Some.line.now
    c.number_at.ensures (subst P c.deref.ensures.value here) c.child_id-id.ensures (eqb-true c.in-Some.line.now.0 c.child_id-id.result on)

pub returns-in-Some-clause-not : goal.returns-in-Some-clause-not
returns-in-Some-clause-not c = λ off.
    let here = slice_get_here c.deref.result.now (c.args.place - 1) c.in-Some.line.now (c.in-Some.ensures.lookup.3).0 c.in-Some.ensures.lookup.1 in
    let P : List (ℕ × Choice × ℕ) → Type 0 = λ ls. slice_get ls (c.args.place - 1) ≡ Some c.in-Some.line.now in
    other_id (world_view c.args._world.now) (tree_view c.args.tree.now) c.requires.tree c.args.certificate.now c.args.place c.number_at.result c.child_id-id.result c.in-Some.line.now
    c.requires.behind c.number_at.ensures (subst P c.deref.ensures.value here) c.child_id-id.ensures (λ e. let clash : false ≡ true = sym off ∙ eq-eqb c.in-Some.line.now.0 c.child_id-id.result e in cc)

use Rattle.std.proofs.Common.{map, subst}
use Rattle.std.specs.List.{Contains}
use Rattle.hv_world.specs.Bindings.{objects_in}
use Rattle.hv_world.specs.Effects.{SomeMakes}
use Rattle.hv_world.specs.Values.{effects_of}
use Rattle.hv_world.specs.Views.{effect_view}
use Rattle.hv_world.specs.WorldViews.{world_view}
use Rattle.hv_state.specs.Atoms.{Atoms}
use Rattle.hv_state.specs.inside.Makings.{IsMadeBySome}
use Rattle.hv_state.specs.inside.Rows.{atom_of, rows_in}
use Rattle.hv_state.proofs.MadeLemmas.{Joined, made_is, rows_of_atoms, atoms_of_rows}
use Rattle.hv_state.proofs.PlanLemmas.{same_through}
use Rattle.hv_state.proofs.ground.GroundAtoms.made.Goals as goal

pub invariant_of-result : goal.invariant_of-result
invariant_of-result c =
    let w = (world_view c.args.world.now).typing in
    let env = objects_in c.args.binding.now in
    let es = effects_of (map effect_view c.args.effects.now) in
    let rows = rows_in c.push_made.new.rows.items in
    let made : Atoms = λ g. IsMadeBySome w c.args.is_true g es env in
    rows_of_atoms rows made (subst (λ old. Joined (rows_in old) made rows) c.new-rows.ensures.items c.in_ok-push_made.ensures)

pub returns : goal.returns
returns c =
    let w = (world_view c.args.world.now).typing in
    let env = objects_in c.args.binding.now in
    let es = effects_of (map effect_view c.args.effects.now) in
    let rows = rows_in c.push_made.new.rows.items in
    let made : Atoms = λ g. IsMadeBySome w c.args.is_true g es env in
    let same = atoms_of_rows rows made (subst (λ old. Joined (rows_in old) made rows) c.new-rows.ensures.items c.in_ok-push_made.ensures) in
    same_through (Contains (map atom_of rows)) made (SomeMakes w c.args.is_true env es) same (made_is w c.args.is_true env es)

-- What the values of the code say.
use Rattle.std.specs.Prelude.{ℕ, map}
use Rattle.hv_world.specs.declared.id.TypeId.{TypeId}
use Rattle.hv_world.specs.declared.id.TaskName as code
use Rattle.hv_world.specs.declared.id.TaskName.TheVariants as names
use Rattle.hv_world.specs.declared.formula.Term as code_term
use Rattle.hv_world.specs.declared.formula.Term.TheVariants as terms
use Rattle.hv_world.specs.declared.formula.Atom as code_atom
use Rattle.hv_world.specs.declared.formula.Formula as code_formula
use Rattle.hv_world.specs.declared.formula.Formula.{fold-Formula}
use Rattle.hv_world.specs.declared.formula.Formula.TheOpen.{Formula-F}
use Rattle.hv_world.specs.declared.effect.Effect as code_effect
use Rattle.hv_world.specs.declared.effect.Effect.{fold-Effect}
use Rattle.hv_world.specs.declared.effect.Effect.TheOpen.{Effect-F}
use Rattle.hv_world.specs.declared.formula.Subtask as code_subtask
use Rattle.hv_world.specs.declared.formula.Constraint as code_constraint
use Rattle.hv_world.specs.Values.{Term, object, variable, Atom, atom, Formula, holds, and, or, not, imply, forall, exists, equal, formulas_of, Effect, becomes, for_each, effects_of, TaskName, compound, primitive, Subtask, subtask, Constraint, constraint}

abbrev pub type_number : TypeId → ℕ
type_number t = t.0

abbrev pub name_view : code.TaskName → TaskName
name_view (names.Compound t) = compound t.0
name_view (names.Primitive a) = primitive a.0

abbrev pub term_view : code_term.Term → Term
term_view (terms.Object o) = object o.0
term_view (terms.Variable v) = variable v

abbrev pub atom_view : code_atom.Atom → Atom
atom_view a = atom a.predicate.0 (map term_view a.terms.items)

-- one level, with each formula inside already seen
abbrev pub formula_step : Formula-F Formula → Formula
formula_step (Formula-F.Holds a) = holds (atom_view a)
formula_step (Formula-F.And v) = and (formulas_of v.items)
formula_step (Formula-F.Or v) = or (formulas_of v.items)
formula_step (Formula-F.Not f) = not f.value
formula_step (Formula-F.Imply f g) = imply f.value g.value
formula_step (Formula-F.Forall ts f) = forall (map type_number ts.items) f.value
formula_step (Formula-F.Exists ts f) = exists (map type_number ts.items) f.value
formula_step (Formula-F.Equal s t) = equal (term_view s) (term_view t)

abbrev pub formula_view : code_formula.Formula → Formula
formula_view = fold-Formula Formula formula_step

-- one level, with each effect inside already seen
abbrev pub effect_step : Effect-F Effect → Effect
effect_step (Effect-F.Becomes b a) = becomes b (atom_view a)
effect_step (Effect-F.Forall ts es) = for_each (map type_number ts.items) (effects_of es.items)

abbrev pub effect_view : code_effect.Effect → Effect
effect_view = fold-Effect Effect effect_step

abbrev pub subtask_view : code_subtask.Subtask → Subtask
subtask_view s = subtask (name_view s.name) (map term_view s.terms.items)

abbrev pub constraint_view : code_constraint.Constraint → Constraint
constraint_view c = constraint c.is_equal (term_view c.left) (term_view c.right)

-- How deep the grounding of effects goes.
use Rattle.std.proofs.Common.{◌≡◌, ◌<◌, ◌+◌, ℕ, zero, suc, List, [], ◌∷◌, length, map, get_or, arith, ap, rules}
use Rattle.std.specs.Global.{Vec}
use Rattle.hv_world.specs.declared.effect.Effect as code
use Rattle.hv_world.specs.declared.effect.Effect.{Becomes, Forall, the_lemmas}
use Rattle.hv_world.specs.declared.formula.Atom as code_atom
use Rattle.hv_world.specs.declared.id.TypeId.{TypeId}
use Rattle.hv_world.specs.Values.{Effect, Effects, becomes, for_each, no_effects, more_effects, effects_of}
use Rattle.hv_world.specs.Views.{atom_view, effect_view, type_number}

-- how many calls deep it may go: for each effect three, and one for each variable
abbrev mutual
  pub effect_levels : Effect → ℕ
  effect_levels (becomes b a) = 1
  effect_levels (for_each ts es) = most_effect_levels es + length ts + 3

  pub most_effect_levels : Effects → ℕ
  most_effect_levels no_effects = 0
  most_effect_levels (more_effects e es) = effect_levels e + most_effect_levels es

pub view-Becomes : (b : _) (a : code_atom.Atom) → effect_view (Becomes b a) ≡ becomes b (atom_view a)
view-Becomes b a = search (rules, the_lemmas)

pub view-Forall : (ts : Vec TypeId) (es : Vec code.Effect) → effect_view (Forall ts es) ≡ for_each (map type_number ts.items) (effects_of (map effect_view es.items))
view-Forall ts es = search (rules, the_lemmas)

-- an effect has fewer levels than several
pub effect_below : (xs : List code.Effect) (k : ℕ) (x : code.Effect) → k < length xs → x ≡ get_or xs k x → effect_levels (effect_view x) < most_effect_levels (effects_of (map effect_view xs)) + 1
effect_below [] k x lt e = absurd (omega arith)
effect_below (y ∷ ys) zero x lt e = let same : effect_levels (effect_view x) ≡ effect_levels (effect_view y) = ap (λ f. effect_levels (effect_view f)) e in omega (arith, same)
effect_below (y ∷ ys) (suc k) x lt e = let below : effect_levels (effect_view x) < most_effect_levels (effects_of (map effect_view ys)) + 1 = effect_below ys k x (omega arith) e in omega (arith, below)

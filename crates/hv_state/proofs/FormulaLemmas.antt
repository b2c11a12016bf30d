-- What the formulas of the code say.
use Rattle.std.proofs.Common.{◌≡◌, ◌<◌, ◌+◌, ℕ, zero, suc, List, [], ◌∷◌, length, map, get_or, arith, ap, rules}
use Rattle.std.specs.Global.{Vec, Box}
use Rattle.hv_world.specs.declared.formula.Atom.{Atom}
use Rattle.hv_world.specs.declared.formula.Formula.{Formula, Holds, And, Or, Forall, Exists, the_lemmas}
use Rattle.hv_world.specs.declared.id.TypeId.{TypeId}
use Rattle.hv_world.specs.Values.{holds, and, or, forall, exists, formulas_of}
use Rattle.hv_world.specs.Views.{atom_view, formula_view, type_number}
use Rattle.hv_state.proofs.Levels.{levels, most_levels}

pub view-Holds : (a : Atom) → formula_view (Holds a) ≡ holds (atom_view a)
view-Holds a = search (rules, the_lemmas)

pub view-And : (fs : Vec Formula) → formula_view (And fs) ≡ and (formulas_of (map formula_view fs.items))
view-And fs = search (rules, the_lemmas)

pub view-Or : (fs : Vec Formula) → formula_view (Or fs) ≡ or (formulas_of (map formula_view fs.items))
view-Or fs = search (rules, the_lemmas)

pub view-Forall : (ts : Vec TypeId) (b : Box Formula) → formula_view (Forall ts b) ≡ forall (map type_number ts.items) (formula_view b.value)
view-Forall ts b = search (rules, the_lemmas)

pub view-Exists : (ts : Vec TypeId) (b : Box Formula) → formula_view (Exists ts b) ≡ exists (map type_number ts.items) (formula_view b.value)
view-Exists ts b = search (rules, the_lemmas)

-- a part has fewer levels than the whole
pub part_below : (xs : List Formula) (k : ℕ) (x : Formula) → k < length xs → x ≡ get_or xs k x → levels (formula_view x) < most_levels (formulas_of (map formula_view xs)) + 1
part_below [] k x lt e = absurd (omega arith)
part_below (y ∷ ys) zero x lt e = let same : levels (formula_view x) ≡ levels (formula_view y) = ap (λ f. levels (formula_view f)) e in omega (arith, same)
part_below (y ∷ ys) (suc k) x lt e = let below : levels (formula_view x) < most_levels (formulas_of (map formula_view ys)) + 1 = part_below ys k x (omega arith) e in omega (arith, below)

-- A candidate whose precondition is true in a state in which its node may begin is possible.
use Rattle.std.proofs.Common.{◌≡◌, ◌≤◌, ◌<◌, ◌⊎◌, inl, inr, ℕ, Bool, true, false, List, [], ◌∷◌, Option, Some, None, length, nat_le, refl, sym, ap, ◌∙◌, subst, arith, if◌then◌else◌}
use Rattle.std.specs.List.{All}
use Rattle.std.proofs.lemmas.Bool.{cases_lt}
use Rattle.std.proofs.lemmas.List.{take_all}
use Rattle.std.proofs.lemmas.List.Elements.{All-head, All-tail}
use Rattle.hv_lists.proofs.Bools.{and_both}
use Rattle.hv_world.specs.Values.{Atom}
use Rattle.hv_world.specs.Bindings.{GroundAtom, atom_under}
use Rattle.hv_world.specs.Worlds.{Method}
use Rattle.hv_state.specs.Atoms.{Atoms}
use Rattle.hv_state.specs.Ever.{is_listed}
use Rattle.hv_state.specs.Needed.{needed}
use Rattle.hv_state.specs.Plans.{StateAt, AfterActions, Start}
use Rattle.hv_state.specs.Truth.{True}
use Rattle.hv_state.proofs.Cited.{needed_true}
use Rattle.hv_match.specs.Possible.{is_possible, are_possible}
use Rattle.hv_match.proofs.Cited.{unasked}
use Rattle.hv_order.specs.Settings.{Setting, last, HoldsAt}
use Rattle.hv_order.specs.inside.Listers.{IsEver}
use Rattle.hv_order.specs.inside.PlanFacts.{FitsNode, IsSetting}
use Rattle.hv_order.proofs.NodeFits.{plan_nodes}

-- behind the last state nothing changes
pub stays_past : (q : Setting) (k : ℕ) → last q ≤ k → StateAt q.plan k ≡ StateAt q.plan (last q)
stays_past q k past =
    ap (AfterActions q.plan.world (Start q.plan.world))
    (take_all k q.plan.actions past ∙ sym (take_all (length q.plan.actions) q.plan.actions (omega arith)))

holds_last : (q : Setting) (m : Method) (B : List ℕ) (k : ℕ) → last q ≤ k → HoldsAt q m B k → HoldsAt q m B (last q)
holds_last q m B k past holds on = let P : Atoms → Type 0 = λ S. True q.plan.world.typing S m.precondition B in subst P (stays_past q k past) (holds on)

module _ (q : Setting) (rows : List (List ℕ)) (k : ℕ) (all : (g : GroundAtom) → StateAt q.plan k g → is_listed rows g ≡ true) (B : List ℕ) where
  possible : (a : Atom) → StateAt q.plan k (atom_under B a) → is_possible (Some rows) B a ≡ true
  possible a h = by (nat_le (length a.terms) 3) where
    by : (b : Bool) → (if b then is_listed rows (atom_under B a) else true) ≡ true
    by true = all (atom_under B a) h
    by false = refl

  possibles : (as' : List Atom) → All (λ a. StateAt q.plan k (atom_under B a)) as' → are_possible (Some rows) B as' ≡ true
  possibles [] h = refl
  possibles (a ∷ as') h =
      and_both (is_possible (Some rows) B a) (are_possible (Some rows) B as') (possible a (All-head (λ b. StateAt q.plan k (atom_under B b)) a as' h))
      (possibles as' (All-tail (λ b. StateAt q.plan k (atom_under B b)) a as' h))

-- in a state of the plan
possible_within : (q : Setting) (v start : ℕ) (ever : Option (List (List ℕ))) → IsEver q v start ever → (m : Method) (B : List ℕ) (k f : ℕ) → start ≤ k → k ≤ last q → FitsNode q v k f → HoldsAt q m B k → are_possible ever B (needed m.precondition) ≡ true
possible_within q v start None is m B k f late within fits holds = unasked B (needed m.precondition)
possible_within q v start (Some rows) is m B k f late within fits holds =
    possibles q rows k (λ g. is.1 k f g late within fits) B (needed m.precondition)
    (needed_true q.plan.world.typing (StateAt q.plan k) B m.precondition (holds is.0))

pub possible_where_true : (q : Setting) → IsSetting q → (v start : ℕ) (ever : Option (List (List ℕ))) → IsEver q v start ever → start ≤ last q → (m : Method) (B : List ℕ) (k f : ℕ) → start ≤ k → FitsNode q v k f → HoldsAt q m B k → are_possible ever B (needed m.precondition) ≡ true
possible_where_true q is v start ever is_ever begun m B k f late fits holds = by (cases_lt (last q) k)
  where
    by : (last q < k) ⊎ (k ≤ last q) → are_possible ever B (needed m.precondition) ≡ true
    by (inl past) =
        possible_within q v start ever is_ever m B (last q) f begun (omega arith)
        ((plan_nodes q is).fits.earlier v k (last q) f (omega (arith, past)) fits) (holds_last q m B k (omega (arith, past)) holds)
    by (inr within) = possible_within q v start ever is_ever m B k f late within fits holds

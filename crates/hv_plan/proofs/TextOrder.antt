-- The lines of a plan that is read from a text stand in the order of the text.
use Rattle.std.proofs.Common.{◌≡◌, ◌≢◌, ◌+◌, ◌<◌, ◌≤◌, ℕ, zero, suc, Bool, true, false, List, [], ◌∷◌, ◌++◌, if◌then◌else◌, map, refl, sym, ap, ◌∙◌, subst, arith, length, get_or, slice_index}
use Rattle.std.specs.Prelude.{Result, Ok, Err, IfOk}
use Rattle.std.specs.List.Sorted.{IsStrictlyIncreasing}
use Rattle.std.proofs.lemmas.List.{append_assoc}
use Rattle.hv_text.specs.Words.{Piece}
use Rattle.hv_lists.specs.Lists.{Once}
use Rattle.hv_plan.specs.Values.{Action, Decomposition, Root, Plan}
use Rattle.hv_plan.specs.Lines.{NumberedLine, numbered, lines, is_start, is_end, behind_start, before_end, between}
use Rattle.hv_plan.specs.Forms.{Form, blank, action, decomposition, root}
use Rattle.hv_plan.specs.Spellings.{SpellsForm, no_words, an_action, a_decomposition, a_root, Each, no_more, one_more, Says, IsPlan, actions_among, decompositions_among, roots_among, SayPlan}
use Rattle.hv_plan.specs.Plans.{IsBody}
use Rattle.hv_plan.specs.Shapes.{line_numbers, IsInTextOrder}
use Rattle.hv_plan.proofs.HeadLists.{lines_are}
use Rattle.hv_plan.proofs.SpellingLemmas.{plan_table}

-- lines with rising numbers, from n on; and numbers that rise so
abbrev pub Rising : ℕ → List NumberedLine → Type 0
Rising n [] = Unit {0}
Rising n (l ∷ ls) = (n ≤ l.number) × Rising (l.number + 1) ls

abbrev pub Up : ℕ → List ℕ → Type 0
Up n [] = Unit {0}
Up n (x ∷ xs) = (n ≤ x) × Up (x + 1) xs

lower : (n m : ℕ) (ls : List NumberedLine) → n ≤ m → Rising m ls → Rising n ls
lower n m [] le r = tt
lower n m (l ∷ ls) le r = let h : m ≤ l.number = r.0 in (omega (arith, le, h), r.1)

down : (n m : ℕ) (xs : List ℕ) → n ≤ m → Up m xs → Up n xs
down n m [] le r = tt
down n m (x ∷ xs) le r = let h : m ≤ x = r.0 in (omega (arith, le, h), r.1)

numbered_rise : (n : ℕ) (ls : List (List ℕ)) → Rising n (numbered n ls)
numbered_rise n [] = tt
numbered_rise n (l ∷ ls) = (omega arith, numbered_rise (n + 1) ls)

behind_rise : (n : ℕ) (ls : List NumberedLine) → Rising n ls → Rising n (behind_start ls)
behind_rise n [] r = tt
behind_rise n (l ∷ ls) r = by (is_start l) (behind_rise (l.number + 1) ls r.1)
  where
    by : (b : Bool) → Rising (l.number + 1) (behind_start ls) → Rising n (if b then ls else behind_start ls)
    by true h = let le : n ≤ l.number = r.0 in lower n (l.number + 1) ls (omega (arith, le)) r.1
    by false h = let le : n ≤ l.number = r.0 in lower n (l.number + 1) (behind_start ls) (omega (arith, le)) h

before_rise : (n : ℕ) (ls : List NumberedLine) → Rising n ls → Rising n (before_end ls)
before_rise n [] r = tt
before_rise n (l ∷ ls) r = by (is_end l) (before_rise (l.number + 1) ls r.1)
  where
    by : (b : Bool) → Rising (l.number + 1) (before_end ls) → Rising n (if b then [] else l ∷ before_end ls)
    by true h = tt
    by false h = (r.0, h)

-- the number of a line is that of its form
abbrev pub IsOn : ℕ → Form → Type 0
IsOn n blank = Unit {0}
IsOn n (action a) = a.line ≡ n
IsOn n (decomposition d) = d.line ≡ n
IsOn n (root r) = r.line ≡ n

form_line : {n : ℕ} {ps : List Piece} {f : Form} → SpellsForm n ps f → IsOn n f
form_line no_words = tt
form_line (an_action p ps i w ws s t) = refl
form_line (a_decomposition p a m ps qs i w ws v is s t u x e) = refl
form_line (a_root w s ps is e f) = refl

abbrev pub action_lines : List Form → List ℕ
action_lines fs = map (λ a. a.line) (actions_among fs)

abbrev pub decomposition_lines : List Form → List ℕ
decomposition_lines fs = map (λ d. d.line) (decompositions_among fs)

abbrev pub root_lines : List Form → List ℕ
root_lines fs = map (λ r. r.line) (roots_among fs)

-- all are at least n
abbrev pub From : ℕ → List ℕ → Type 0
From n [] = Unit {0}
From n (x ∷ xs) = (n ≤ x) × From n xs

from_down : (n m : ℕ) (xs : List ℕ) → n ≤ m → From m xs → From n xs
from_down n m [] le f = tt
from_down n m (x ∷ xs) le f = let h : m ≤ x = f.0 in (omega (arith, le, h), from_down n m xs le f.1)

from_both : (n : ℕ) (xs ys : List ℕ) → From n xs → From n ys → From n (xs ++ ys)
from_both n [] ys f g = g
from_both n (x ∷ xs) ys f g = (f.0, from_both n xs ys f.1 g)

from_at : (n : ℕ) (xs : List ℕ) → From n xs → (k d : ℕ) → k < length xs → n ≤ get_or xs k d
from_at n [] f k d w = absurd (omega (arith, w))
from_at n (x ∷ xs) f zero d w = f.0
from_at n (x ∷ xs) f (suc k) d w = from_at n xs f.1 k d (omega (arith, w))

from_up : (n : ℕ) (xs : List ℕ) → Up n xs → From n xs
from_up n [] u = tt
from_up n (x ∷ xs) u = let h : n ≤ x = u.0 in (u.0, from_down n (x + 1) xs (omega (arith, h)) (from_up (x + 1) xs u.1))

-- one more number below all others
once_more : (x : ℕ) (xs : List ℕ) → ((k d : ℕ) → k < length xs → x ≢ get_or xs k d) → Once xs → Once (x ∷ xs)
once_more x xs apart once = λ a b d o w. by a b d o w
  where
    by : (a b d : ℕ) → a < b → b < length (x ∷ xs) → get_or (x ∷ xs) a d ≢ get_or (x ∷ xs) b d
    by zero zero d o w = absurd (omega (arith, o))
    by zero (suc b) d o w = apart b d (omega (arith, w))
    by (suc a) zero d o w = absurd (omega (arith, o))
    by (suc a) (suc b) d o w = once a b d (omega (arith, o)) (omega (arith, w))

-- a number among others, below all
once_between : (xs ys : List ℕ) (y : ℕ) → From (y + 1) xs → From (y + 1) ys → Once (xs ++ ys) → Once (xs ++ y ∷ ys)
once_between [] ys y f g once = once_more y ys (λ k d w e. let h : y + 1 ≤ get_or ys k d = from_at (y + 1) ys g k d w in omega (arith, h, e)) once
once_between (x ∷ xs) ys y f g once =
    once_more x (xs ++ y ∷ ys) (λ k d w e. apart xs f.0 (λ j c v. once 0 (suc j) c (omega arith) (omega (arith, v))) k d w e)
    (once_between xs ys y f.1 g (λ a b d o w. once (suc a) (suc b) d (omega (arith, o)) (omega (arith, w))))
  where
    apart : (zs : List ℕ) → y + 1 ≤ x → ((j c : ℕ) → j < length (zs ++ ys) → x ≢ get_or (zs ++ ys) j c) → (k d : ℕ) → k < length (zs ++ y ∷ ys) → x ≡ get_or (zs ++ y ∷ ys) k d → ⊥
    apart [] le others zero d w e = omega (arith, le, e)
    apart [] le others (suc k) d w e = others k d (omega (arith, w)) e
    apart (z ∷ zs) le others zero d w e = others zero d (omega arith) e
    apart (z ∷ zs) le others (suc k) d w e = apart zs le (λ j c v. others (suc j) c (omega (arith, v))) k d (omega (arith, w)) e

-- what holds of the forms of rising lines
pub record AreOrdered (n : ℕ) (fs : List Form) : Type 0 where
  pub actions : Up n (action_lines fs)
  pub decompositions : Up n (decomposition_lines fs)
  pub roots : From n (root_lines fs)
  pub once : Once (root_lines fs ++ (action_lines fs ++ decomposition_lines fs))

ordered_more : (n m : ℕ) (f : Form) (fs : List Form) → n ≤ m → IsOn m f → AreOrdered (m + 1) fs → AreOrdered n (f ∷ fs)
ordered_more n m blank fs le on o = record {
  actions = down n (m + 1) (action_lines fs) (omega (arith, le)) o.actions;
  decompositions = down n (m + 1) (decomposition_lines fs) (omega (arith, le)) o.decompositions;
  roots = from_down n (m + 1) (root_lines fs) (omega (arith, le)) o.roots;
  once = o.once;
}
ordered_more n m (action a) fs le on o =
    let P : ℕ → Type 0 = λ k. Up k (action_lines fs) in
    let Q : ℕ → Type 0 = λ k. From (k + 1) (root_lines fs) in
    let R : ℕ → Type 0 = λ k. From (k + 1) (action_lines fs ++ decomposition_lines fs) in
    let rest : From (m + 1) (action_lines fs ++ decomposition_lines fs) =
    from_both (m + 1) (action_lines fs) (decomposition_lines fs) (from_up (m + 1) (action_lines fs) o.actions) (from_up (m + 1) (decomposition_lines fs) o.decompositions) in
    record {
      actions = (omega (arith, le, on), subst P (ap (λ k. k + 1) (sym on)) o.actions);
      decompositions = down n (m + 1) (decomposition_lines fs) (omega (arith, le)) o.decompositions;
      roots = from_down n (m + 1) (root_lines fs) (omega (arith, le)) o.roots;
      once = once_between (root_lines fs) (action_lines fs ++ decomposition_lines fs) a.line (subst Q (sym on) o.roots) (subst R (sym on) rest) o.once;
    }
ordered_more n m (decomposition d) fs le on o =
    let P : ℕ → Type 0 = λ k. Up k (decomposition_lines fs) in
    let Q : ℕ → Type 0 = λ k. From (k + 1) (root_lines fs ++ action_lines fs) in
    let R : ℕ → Type 0 = λ k. From (k + 1) (decomposition_lines fs) in
    let front : From (m + 1) (root_lines fs ++ action_lines fs) = from_both (m + 1) (root_lines fs) (action_lines fs) o.roots (from_up (m + 1) (action_lines fs) o.actions) in
    record {
      actions = down n (m + 1) (action_lines fs) (omega (arith, le)) o.actions;
      decompositions = (omega (arith, le, on), subst P (ap (λ k. k + 1) (sym on)) o.decompositions);
      roots = from_down n (m + 1) (root_lines fs) (omega (arith, le)) o.roots;
      once = subst Once (append_assoc (root_lines fs) (action_lines fs) (d.line ∷ decomposition_lines fs))
          (once_between (root_lines fs ++ action_lines fs) (decomposition_lines fs) d.line (subst Q (sym on) front)
          (subst R (sym on) (from_up (m + 1) (decomposition_lines fs) o.decompositions)) (subst Once (sym (append_assoc (root_lines fs) (action_lines fs) (decomposition_lines fs))) o.once));
    }
ordered_more n m (root r) fs le on o =
    let R : ℕ → Type 0 = λ k. From (k + 1) (root_lines fs ++ (action_lines fs ++ decomposition_lines fs)) in
    let rest : From (m + 1) (root_lines fs ++ (action_lines fs ++ decomposition_lines fs)) =
    from_both (m + 1) (root_lines fs) (action_lines fs ++ decomposition_lines fs) o.roots
    (from_both (m + 1) (action_lines fs) (decomposition_lines fs) (from_up (m + 1) (action_lines fs) o.actions) (from_up (m + 1) (decomposition_lines fs) o.decompositions)) in
    record {
      actions = down n (m + 1) (action_lines fs) (omega (arith, le)) o.actions;
      decompositions = down n (m + 1) (decomposition_lines fs) (omega (arith, le)) o.decompositions;
      roots = (omega (arith, le, on), from_down n (m + 1) (root_lines fs) (omega (arith, le)) o.roots);
      once = once_between [] (root_lines fs ++ (action_lines fs ++ decomposition_lines fs)) r.line tt (subst R (sym on) rest) o.once;
    }

forms_ordered : {ls : List NumberedLine} {fs : List Form} (n : ℕ) → Each Says ls fs → Rising n ls → AreOrdered n fs
forms_ordered n no_more r = record { actions = tt; decompositions = tt; roots = tt; once = λ a b d o w. absurd (no_place b w) }
  where
    no_place : (k : ℕ) → k < 0 → ⊥
    no_place k w = omega arith
forms_ordered n (one_more l ls f fs s e) r = ordered_more n l.number f fs r.0 (form_line s.spelled) (forms_ordered (l.number + 1) e r.1)

increasing : (n : ℕ) (xs : List ℕ) → Up n xs → IsStrictlyIncreasing xs
increasing n [] u = λ k w. absurd (omega (arith, w))
increasing n (x ∷ xs) u = λ k w. by k w (increasing (x + 1) xs u.1)
  where
    by : (k : ℕ) → k + 1 < length (x ∷ xs) → ((j : ℕ) → j + 1 < length xs → slice_index xs j < slice_index xs (j + 1)) → slice_index (x ∷ xs) k < slice_index (x ∷ xs) (k + 1)
    by zero w rest =
        let h : x + 1 ≤ get_or xs 0 0 = from_at (x + 1) xs (from_up (x + 1) xs u.1) 0 0 (omega (arith, w)) in
        let e : zero + 1 ≡ suc zero = omega arith in
        let P : ℕ → Type 0 = λ j. x < slice_index (x ∷ xs) j in
        subst P (sym e) (omega (arith, h))
    by (suc k) w rest =
        let e : suc k + 1 ≡ suc (k + 1) = omega arith in
        let P : ℕ → Type 0 = λ j. slice_index (x ∷ xs) (suc k) < slice_index (x ∷ xs) j in
        subst P (sym e) (rest k (omega (arith, w)))

-- lines that rise say a plan in the order of the text
say_in_order : (n : ℕ) (ls : List NumberedLine) (p : Plan) → Rising n ls → SayPlan ls p → IsInTextOrder p
say_in_order n ls p rise says =
    let o : AreOrdered n says.forms = forms_ordered n says.each rise in
    let A : List Action → Type 0 = λ xs. IsStrictlyIncreasing (map (λ a. a.line) xs) in
    let D : List Decomposition → Type 0 = λ xs. IsStrictlyIncreasing (map (λ d. d.line) xs) in
    record {
      actions = subst A (sym says.actions) (increasing n (action_lines says.forms) o.actions);
      decompositions = subst D (sym says.decompositions) (increasing n (decomposition_lines says.forms) o.decompositions);
      once = subst Once (sym all_lines) o.once;
    }
  where
    all_lines : line_numbers p ≡ root_lines says.forms ++ (action_lines says.forms ++ decomposition_lines says.forms)
    all_lines =
        ap (λ xs. p.root.line ∷ xs) (lines_are p)
        ∙ (λ j. map (λ (r : Root). r.line) (sym says.root j) ++ (map (λ (a : Action). a.line) (says.actions j) ++ map (λ (d : Decomposition). d.line) (says.decompositions j)))

-- the plan of the lines from a number on, up to the first end marker
pub body_in_order : (n : ℕ) (ls : List (List ℕ)) (p : Plan) → IsBody (before_end (numbered n ls)) p → IsInTextOrder p
body_in_order n ls p body = say_in_order n (before_end (numbered n ls)) p (before_rise n (numbered n ls) (numbered_rise n ls)) ((plan_table (before_end (numbered n ls)) p).1 body)

-- the plan of a text
pub in_text_order : (text : List ℕ) (p : Plan) → IsPlan text p → IsInTextOrder p
in_text_order text p plan = say_in_order 1 (between text) p (before_rise 1 (behind_start (numbered 1 (lines text))) (behind_rise 1 (numbered 1 (lines text)) (numbered_rise 1 (lines text)))) plan.body

pub order_if_read : {X E : Type 0} (text : List ℕ) (view : X → Plan) (r : Result X E) → IfOk r (λ x. IsPlan text (view x)) → IfOk r (λ x. IsInTextOrder (view x))
order_if_read text view (Ok x) h = in_text_order text (view x) h
order_if_read text view (Err e) h = tt

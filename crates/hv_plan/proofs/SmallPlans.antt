-- A plan has no more lines than its text has bytes.
use Rattle.std.proofs.Common.{◌≡◌, ◌+◌, ◌≤◌, ℕ, suc, Bool, true, false, List, [], ◌∷◌, refl, ap, arith, length}
use Rattle.std.specs.Prelude.{◌==◌, if◌then◌else◌}
use Rattle.hv_plan.specs.Values.{Plan}
use Rattle.hv_plan.specs.Lines.{NumberedLine, with_byte, lines, numbered, lines_of, is_start, is_end, behind_start, before_end, between}
use Rattle.hv_plan.specs.Forms.{Form, blank, action, decomposition, root}
use Rattle.hv_plan.specs.Spellings.{Each, no_more, one_more, Says, IsPlan, actions_among, decompositions_among}

with_few : (b n : ℕ) (ls : List (List ℕ)) → length ls ≤ n → length (with_byte b ls) ≤ suc n
with_few b n [] le = let one : 1 ≤ suc n = omega arith in one
with_few b n (l ∷ ls) le = let h : suc (length ls) ≤ n = le in let more : suc (length ls) ≤ suc n = omega (arith, h) in more

lines_few : (bs : List ℕ) → length (lines bs) ≤ length bs
lines_few [] = let none : 0 ≤ 0 = omega arith in none
lines_few (b ∷ bs) = by (b == 10) (lines_few bs)
  where
    by : (c : Bool) → length (lines bs) ≤ length bs → length (if c then [] ∷ lines bs else with_byte b (lines bs)) ≤ suc (length bs)
    by true h = let more : suc (length (lines bs)) ≤ suc (length bs) = omega (arith, h) in more
    by false h = with_few b (length bs) (lines bs) h

numbered_few : (n : ℕ) (ls : List (List ℕ)) → length (numbered n ls) ≡ length ls
numbered_few n [] = refl
numbered_few n (l ∷ ls) = ap suc (numbered_few (n + 1) ls)

behind_few : (ls : List NumberedLine) → length (behind_start ls) ≤ length ls
behind_few [] = let none : 0 ≤ 0 = omega arith in none
behind_few (l ∷ ls) = by (is_start l) (behind_few ls)
  where
    by : (b : Bool) → length (behind_start ls) ≤ length ls → length (if b then ls else behind_start ls) ≤ suc (length ls)
    by true h = let more : length ls ≤ suc (length ls) = omega arith in more
    by false h = let more : length (behind_start ls) ≤ suc (length ls) = omega (arith, h) in more

before_few : (ls : List NumberedLine) → length (before_end ls) ≤ length ls
before_few [] = let none : 0 ≤ 0 = omega arith in none
before_few (l ∷ ls) = by (is_end l) (before_few ls)
  where
    by : (b : Bool) → length (before_end ls) ≤ length ls → length (if b then [] else l ∷ before_end ls) ≤ suc (length ls)
    by true h = let none : 0 ≤ suc (length ls) = omega arith in none
    by false h = let more : suc (length (before_end ls)) ≤ suc (length ls) = omega (arith, h) in more

one_form : (f : Form) (fs : List Form) (n : ℕ) → length (actions_among fs) + length (decompositions_among fs) ≤ n
    → length (actions_among (f ∷ fs)) + length (decompositions_among (f ∷ fs)) ≤ suc n
one_form blank fs n le = let more : length (actions_among fs) + length (decompositions_among fs) ≤ suc n = omega (arith, le) in more
one_form (action a) fs n le = let more : suc (length (actions_among fs)) + length (decompositions_among fs) ≤ suc n = omega (arith, le) in more
one_form (decomposition d) fs n le = let more : length (actions_among fs) + suc (length (decompositions_among fs)) ≤ suc n = omega (arith, le) in more
one_form (root r) fs n le = let more : length (actions_among fs) + length (decompositions_among fs) ≤ suc n = omega (arith, le) in more

forms_few : {ls : List NumberedLine} {fs : List Form} → Each Says ls fs → length (actions_among fs) + length (decompositions_among fs) ≤ length ls
forms_few no_more = let none : 0 + 0 ≤ 0 = omega arith in none
forms_few (one_more l ls f fs s e) = one_form f fs (length ls) (forms_few e)

pub small : (text : List ℕ) (p : Plan) → IsPlan text p → length p.actions + length p.decompositions ≤ length text
small text p plan =
    let said : length (actions_among plan.body.forms) + length (decompositions_among plan.body.forms) ≤ length (between text) = forms_few plan.body.each in
    let before : length (between text) ≤ length (behind_start (lines_of text)) = before_few (behind_start (lines_of text)) in
    let behind : length (behind_start (lines_of text)) ≤ length (lines_of text) = behind_few (lines_of text) in
    let many : length (lines_of text) ≡ length (lines text) = numbered_few 1 (lines text) in
    let few : length (lines text) ≤ length text = lines_few text in
    let actions : length p.actions ≡ length (actions_among plan.body.forms) = ap length plan.body.actions in
    let decompositions : length p.decompositions ≡ length (decompositions_among plan.body.forms) = ap length plan.body.decompositions in
    omega arith

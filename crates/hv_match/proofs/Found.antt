-- What a search that has found something says of what is to come.
use Rattle.std.proofs.Common.{◌≡◌, ◌≢◌, ℕ, zero, suc, ◌+◌, ◌<◌, ◌≤◌, Bool, true, false, List, [], ◌∷◌, ◌++◌, length, map, take, refl, ap, sym, subst, ◌∙◌, arith, append_assoc, All, if◌then◌else◌}
use Rattle.std.specs.Prelude.{MatchBool}
use Rattle.std.proofs.lemmas.List.{append-nil}
use Rattle.hv_lists.proofs.Places.{first_none}
use Rattle.hv_match.specs.inside.Parts.{parts, coming}
use Rattle.hv_match.specs.inside.Puzzles.{Puzzle, options, levels, is_good}
use Rattle.hv_match.specs.inside.Search.{below}
use Rattle.hv_match.specs.inside.States.{rest, to_come, IsState}
use Rattle.hv_match.specs.declared.state.State.{State}
use Rattle.hv_match.proofs.Bridge.{within_to}
use Rattle.hv_match.proofs.Fitting.{good_match}

-- what is found is wanted
pub found_good : (p : Puzzle) (at : State) (b : Bool) → MatchBool b ((at.is_over ≡ false) × (length at.chosen.items ≡ levels p) × (is_good p at.chosen.items ≡ true)) (at.is_over ≡ true) → b ≡ true → is_good p at.chosen.items ≡ true
found_good p at true m e = m.2
found_good p at false m e = absurd (let f : false ≡ true = e in cc)

-- its children are some of the node's
pub found_small : (p : Puzzle) (q : List ℕ) (n bound : ℕ) → length p.subtasks ≡ n → length p.children ≤ bound → is_good p q ≡ true → All (λ x. x < bound) (take n q)
found_small p q n bound e h g =
    let m = good_match p q g in
    subst (λ (k : ℕ). All (λ x. x < bound) (take k q)) e (within_to bound (take (length p.subtasks) q) (λ x i. (let r = m.within x i in omega (arith, r, h))))

nothing_seen : {X Y : Type 0} (f : X → Y) (xs : List X) → map f xs ≡ [] → xs ≡ []
nothing_seen f [] e = refl
nothing_seen f (x ∷ xs) e = cc

wanted_itself : (b : Bool) (q : List ℕ) → b ≡ true → (if b then q ∷ [] else []) ≡ [] → ⊥
wanted_itself true q g e = cc
wanted_itself false q g e = cc

rest_some : (f : List ℕ → List ℕ) (good : List ℕ → Bool) (k : ℕ) (p xs ns : List ℕ) (c : ℕ) → length ns ≡ length xs → length xs ≡ k → good (p ++ xs) ≡ true → rest f good k p xs ns c ≡ [] → ⊥
rest_some f good zero p [] ns c s l g e = wanted_itself (good p) p (ap good (sym (append-nil p)) ∙ g) e
rest_some f good (suc k) p [] ns c s l g e = absurd (omega arith)
rest_some f good zero p (x ∷ xs) ns c s l g e = absurd (omega arith)
rest_some f good (suc k) p (x ∷ xs) [] c s l g e = absurd (omega arith)
rest_some f good (suc k) p (x ∷ xs) (n ∷ ns) c s l g e =
    rest_some f good k (p ++ x ∷ []) xs ns c (omega arith) (omega arith) (ap good (append_assoc p (x ∷ []) xs) ∙ g)
    (first_none (rest f good k (p ++ x ∷ []) xs ns c) (below f good (suc k) p (n + 1)) e)

-- something is to come just where something is found
pub found_comes : (p : Puzzle) (at : State) (distinct width : ℕ) (b : Bool) → IsState (options p) (levels p) distinct width at
    → MatchBool b ((at.is_over ≡ false) × (length at.chosen.items ≡ levels p) × (is_good p at.chosen.items ≡ true)) (at.is_over ≡ true) → MatchBool b (coming p at ≢ []) (coming p at ≡ [])
found_comes p at distinct width true s m = λ e.
    (let all = rest (options p) (is_good p) (levels p) [] at.chosen.items at.numbers.items at.next in
    let none : to_come (options p) (is_good p) (levels p) at ≡ [] = nothing_seen (parts (length p.subtasks)) (to_come (options p) (is_good p) (levels p) at) e in
    rest_some (options p) (is_good p) (levels p) [] at.chosen.items at.numbers.items at.next s.even m.1 m.2
    (subst (λ (o : Bool). (if o then [] else all) ≡ []) m.0 none))
found_comes p at distinct width false s m =
    let all = rest (options p) (is_good p) (levels p) [] at.chosen.items at.numbers.items at.next in
    ap (λ (o : Bool). map (parts (length p.subtasks)) (if o then [] else all)) m

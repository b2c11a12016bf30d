-- Lists over the lines of a plan, and the steps of loops that make them.
use Rattle.std.proofs.Common.{◌≡◌, ◌+◌, ◌<◌, ℕ, zero, suc, List, [], ◌∷◌, ◌++◌, map, refl, sym, ap, ◌∙◌, arith, length, take, drop, get_or, slice_get, slice_index, Some, None}
use Rattle.std.proofs.lemmas.List.{map-append, append_assoc, drop_more, take_more}
use Rattle.hv_plan.specs.Values.{Action, Decomposition, Plan}
use Rattle.hv_plan.specs.Shapes.{head, ids}
use Rattle.hv_plan.specs.inside.Shaping.{lines_of_heads}

-- the ids of actions, and those of decomposition lines behind them; and so with their numbers
abbrev pub action_ids : Plan → List ℕ
action_ids p = map (λ a. a.id) p.actions

abbrev pub decomposition_ids : Plan → List ℕ
decomposition_ids p = map (λ d. d.id) p.decompositions

heads_ids : (ds : List Decomposition) → map (λ (a : Action). a.id) (map head ds) ≡ map (λ d. d.id) ds
heads_ids [] = refl
heads_ids (d ∷ ds) = ap (λ xs. d.id ∷ xs) (heads_ids ds)

heads_lines : (ds : List Decomposition) → map (λ (a : Action). a.line) (map head ds) ≡ map (λ d. d.line) ds
heads_lines [] = refl
heads_lines (d ∷ ds) = ap (λ xs. d.line ∷ xs) (heads_lines ds)

pub ids_are : (p : Plan) → ids p ≡ action_ids p ++ decomposition_ids p
ids_are p = map-append (λ (a : Action). a.id) p.actions (map head p.decompositions) ∙ ap (λ xs. action_ids p ++ xs) (heads_ids p.decompositions)

pub lines_are : (p : Plan) → lines_of_heads p ≡ map (λ a. a.line) p.actions ++ map (λ d. d.line) p.decompositions
lines_are p = map-append (λ (a : Action). a.line) p.actions (map head p.decompositions) ∙ ap (λ xs. map (λ (a : Action). a.line) p.actions ++ xs) (heads_lines p.decompositions)

-- the number of the line of a place
back_line : (xs ys : List Action) (k p : ℕ) → p ≡ k + length xs → slice_index (map (λ (a : Action). a.line) (xs ++ ys)) p ≡ slice_index (map (λ (a : Action). a.line) ys) k
back_line [] ys k p e = let same : p ≡ k = omega (arith, e) in ap (slice_index (map (λ (a : Action). a.line) ys)) same
back_line (x ∷ xs) ys k zero e = absurd (omega (arith, e))
back_line (x ∷ xs) ys k (suc p) e = back_line xs ys k p (omega (arith, e))

head_line : (ds : List Decomposition) (k : ℕ) (d : Decomposition) → slice_get ds k ≡ Some d → slice_index (map (λ (a : Action). a.line) (map head ds)) k ≡ d.line
head_line [] k d e = absurd (let clash : None ≡ Some d = e in cc)
head_line (x ∷ ds) zero d e = let same : x ≡ d = cc in ap (λ (y : Decomposition). y.line) same
head_line (x ∷ ds) (suc k) d e = head_line ds k d e

pub line_of_decomposition : (p : Plan) (place k : ℕ) (d : Decomposition) → place ≡ k + length p.actions → slice_get p.decompositions k ≡ Some d → d.line ≡ slice_index (lines_of_heads p) place
line_of_decomposition p place k d is e = sym (back_line p.actions (map head p.decompositions) k place is ∙ head_line p.decompositions k d e)

-- the step of a loop that pushes what a function gives of each
pub push_next : {Y : Type 0} (f : ℕ → Y) (xs : List ℕ) (i : ℕ) (old new all : List Y) → i < length xs → new ≡ old ++ f (slice_index xs i) ∷ []
    → old ++ map f (drop i xs) ≡ all → new ++ map f (drop (i + 1) xs) ≡ all
push_next f xs i old new all lt pushed so_far =
    ap (λ ys. ys ++ map f (drop (i + 1) xs)) pushed ∙ append_assoc old (f (slice_index xs i) ∷ []) (map f (drop (i + 1) xs))
    ∙ ap (λ ys. old ++ map f ys) (sym (drop_more xs i 0 lt)) ∙ so_far

-- what stands at a place, by an index
stands_at : {X : Type 0} (xs : List X) (i : ℕ) (x : X) → slice_get xs i ≡ Some x → (i < length xs) × (x ≡ get_or xs i x)
stands_at [] zero x e = cc
stands_at [] (suc i) x e = cc
stands_at (y ∷ xs) zero x e = let same : y ≡ x = cc in (omega arith, sym same)
stands_at (y ∷ xs) (suc i) x e = let (lt, is) = stands_at xs i x e in (omega arith, is)

-- the list up to behind a place
pub taken_at : {X : Type 0} (xs : List X) (i : ℕ) (x : X) → slice_get xs i ≡ Some x → take (i + 1) xs ≡ take i xs ++ x ∷ []
taken_at xs i x there =
    let (lt, is) = stands_at xs i x there in
    take_more xs i x lt ∙ ap (λ z. take i xs ++ z ∷ []) (sym is)

-- the step of a loop over items that appends a list for each
pub append_item : {X Y : Type 0} (f : List X → List Y) (g : X → List Y) → ((x : X) (xs : List X) → f (x ∷ xs) ≡ g x ++ f xs)
    → (x : X) (left rest : List X) (old new all : List Y) → left ≡ x ∷ rest → new ≡ old ++ g x → old ++ f left ≡ all → new ++ f rest ≡ all
append_item f g cons x left rest old new all next appended so_far =
    ap (λ ys. ys ++ f rest) appended ∙ append_assoc old (g x) (f rest) ∙ ap (λ ys. old ++ ys) (sym (cons x rest)) ∙ ap (λ ys. old ++ f ys) (sym next) ∙ so_far

-- The ways of the puzzle of a node are its count.
use Rattle.std.proofs.Common.{◌≡◌, ℕ, suc, ◌+◌, ◌*◌, ◌<◌, Bool, true, false, List, [], ◌∷◌, length, map, filter, get_or, slice_index, refl, sym, ap, ◌∙◌, arith, subst, Option, if◌then◌else◌}
use Rattle.std.specs.List.{AllZip, range_with_len}
use Rattle.hv_world.specs.Values.{Subtask}
use Rattle.hv_world.specs.Alike.{is_free, keys, class_sizes}
use Rattle.hv_world.specs.Worlds.{World, Method}
use Rattle.hv_match.specs.Counts.{factorial, product, AreSoMany, free, IsCount}
use Rattle.hv_match.specs.inside.Counting.{rising}
use Rattle.hv_match.specs.inside.Puzzles.{Puzzle, widths, ways}
use Rattle.hv_world.specs.Ranges.{IsRange}
use Rattle.hv_match.specs.inside.Ranges.{AreRanges, IsPuzzleOf}
use Rattle.hv_match.proofs.CountLemmas.{one_number}

range_size : (w : World) (r : List ℕ) (t n : ℕ) → IsRange w.typing r t → AreSoMany w t n → length r ≡ n
range_size w r t n a b =
    one_number w t (length r) n (record { objects = r; exact = a.exact; once = a.once; many = refl }) b

module _ (w : World) (p : Puzzle) (T : ℕ → ℕ) where
  sizes : (rs : List (List ℕ)) (ts : List ℕ) (i : ℕ) (ns : List ℕ) → AreRanges w.typing rs ts
      → AllZip (λ (j n : ℕ). AreSoMany w (T j) n) (filter (is_free p.task p.subtasks) (range_with_len i (length ts))) ns
      → ((j : ℕ) → j < length ts → T (i + j) ≡ get_or ts j 0) → product (widths p i rs) ≡ product ns
  sizes [] [] i [] a b h = refl
  sizes [] [] i (n ∷ ns) a b h = absurd b
  sizes [] (t ∷ ts) i ns a b h = absurd a
  sizes (r ∷ rs) [] i ns a b h = absurd a
  sizes (r ∷ rs) (t ∷ ts) i ns a b h = go (is_free p.task p.subtasks i) ns b (λ ms c. sizes rs ts (i + 1) ms a.1 c (λ j k. let e : i + 1 + j ≡ i + suc j = omega arith in rw e (h (suc j) (omega arith))))
    where
      first : T i ≡ t
      first = let z : i + 0 ≡ i = omega arith in let k = h 0 (omega arith) in rw z at k

      go : (f : Bool) (ns : List ℕ) → AllZip (λ (j n : ℕ). AreSoMany w (T j) n) (if f then i ∷ filter (is_free p.task p.subtasks) (range_with_len (i + 1) (length ts)) else filter (is_free p.task p.subtasks) (range_with_len (i + 1) (length ts))) ns
          → ((ms : List ℕ) → AllZip (λ (j n : ℕ). AreSoMany w (T j) n) (filter (is_free p.task p.subtasks) (range_with_len (i + 1) (length ts))) ms → product (widths p (i + 1) rs) ≡ product ms)
          → (if f then length r else 1) * product (widths p (i + 1) rs) ≡ product ns
      go true [] b k = absurd b
      go true (n ∷ ns) b k =
          let e : length r ≡ n = range_size w r t n a.0 (subst (λ z. AreSoMany w z n) first b.0) in
          rw (e, k ns b.1) refl
      go false ns b k = let e = k ns b in omega (arith, e)

pub ways_count : (w : World) (m : Method) (os : List ℕ) (cs : List (Option Subtask)) (p : Puzzle) (k : ℕ) → product (map factorial (class_sizes p.subtasks)) ≡ rising (keys p.subtasks)
    → IsPuzzleOf w m os cs p → IsCount w m k → ways p ≡ k
ways_count w m os cs p k orders is c =
    let free_are : free m ≡ filter (is_free p.task p.subtasks) (range_with_len 0 (length m.parameters)) =
    ap (λ ts. filter (is_free ts m.network.subtasks) (range_with_len 0 (length m.parameters))) (sym is.task)
    ∙ ap (λ ss. filter (is_free p.task ss) (range_with_len 0 (length m.parameters))) (sym is.subtasks) in
    let chosen = subst (λ is. AllZip (λ (j n : ℕ). AreSoMany w (slice_index m.parameters j) n) is c.choices) free_are c.are_choices in
    let s = sizes w p (λ j. slice_index m.parameters j) p.ranges m.parameters 0 c.choices is.ranges chosen (λ j h. let z : 0 + j ≡ j = omega arith in rw z refl) in
    let o : rising (keys p.subtasks) ≡ product (map factorial (class_sizes m.network.subtasks)) = sym orders ∙ ap (λ ss. product (map factorial (class_sizes ss))) is.subtasks in
    ap (λ (a : ℕ). a * product (widths p 0 p.ranges)) o ∙ ap (λ (b : ℕ). product (map factorial (class_sizes m.network.subtasks)) * b) s ∙ sym c.is

-- A candidate is a matching of keys.
use Rattle.std.proofs.Common.{◌≡◌, ℕ, List, [], ◌∷◌, length, map, slice_index, refl, sym, ap, ◌∙◌, arith, Option, Some, None, Contains}
use Rattle.std.specs.List.{AllZip}
use Rattle.std.proofs.lemmas.List.{length-map}
use Rattle.hv_lists.proofs.Contained.{at_head, in_tail}
use Rattle.hv_lists.proofs.Pairs.{same_length}
use Rattle.hv_world.specs.Bindings.{object_of}
use Rattle.hv_world.specs.Values.{Term, object, variable, Subtask, subtask}
use Rattle.hv_world.specs.Alike.{Key, key_with, key, keys, instance, subtask_instance, classes, number_in, class_of}
use Rattle.hv_world.specs.Values.{compound}
use Rattle.hv_match.specs.inside.Counting.{IsMatching}
use Rattle.hv_match.specs.inside.Puzzles.{Work, Puzzle, child_at, Done, IsMatch}
use Rattle.hv_match.specs.inside.Tables.{class_of_work}

work_key : List Subtask → Option Work → Key
work_key ss None = key_with (compound 0) []
work_key ss (Some c) = key ss (subtask c.name (map object c.objects))

pub child_key : Puzzle → ℕ → Key
child_key pz x = work_key pz.subtasks (child_at pz.children x)

pub instances_are : (B : List ℕ) (ts : List Term) → map object (map (object_of B) ts) ≡ map (instance (slice_index B)) ts
instances_are B [] = refl
instances_are B (object o ∷ ts) = ap (λ (l : List Term). object o ∷ l) (instances_are B ts)
instances_are B (variable v ∷ ts) = ap (λ (l : List Term). object (slice_index B v) ∷ l) (instances_are B ts)

-- what a child does that does a subtask under some objects is of the class of the subtask
pub class_is : (ss : List Subtask) → ((t : Subtask) (g : ℕ → ℕ) → Contains ss t → key ss (subtask_instance g t) ≡ key ss t) → (cs : List (Option Work)) (B : List ℕ) (x : ℕ) (t : Subtask) → Contains ss t → Done cs B x t
    → class_of_work ss (child_at cs x) ≡ class_of ss t
class_is ss instances cs B x t there d =
    ap (class_of_work ss) d ∙ ap (λ ts. class_of ss (subtask t.name ts)) (instances_are B t.terms) ∙ ap (λ k. number_in k (classes (keys ss))) (instances t (slice_index B) there)

module _ (pz : Puzzle) (instances : (s : Subtask) (g : ℕ → ℕ) → Contains pz.subtasks s → key pz.subtasks (subtask_instance g s) ≡ key pz.subtasks s) where
  done_key : (B : List ℕ) (x : ℕ) (s : Subtask) → Contains pz.subtasks s → Done pz.children B x s → child_key pz x ≡ key pz.subtasks s
  unfolding child_key work_key
  done_key B x s m d = ap (work_key pz.subtasks) d ∙ ap (λ ts. key pz.subtasks (subtask s.name ts)) (instances_are B s.terms) ∙ instances s (slice_index B) m

  all_keys : (B M : List ℕ) (ss : List Subtask) → ((s : Subtask) → Contains ss s → Contains pz.subtasks s) → AllZip (Done pz.children B) M ss → map (child_key pz) M ≡ map (key pz.subtasks) ss
  all_keys B [] [] i a = refl
  all_keys B [] (s ∷ ss) i a = absurd a
  all_keys B (x ∷ M) [] i a = absurd a
  all_keys B (x ∷ M) (s ∷ ss) i a = rw (done_key B x s (i s (at_head s ss s refl)) a.0, all_keys B M ss (λ z n. i z (in_tail s ss z n)) a.1) refl

  pub matching : (M B : List ℕ) → IsMatch pz M B → IsMatching (child_key pz) (keys pz.subtasks) M
  matching M B c =
      let l : length (keys pz.subtasks) ≡ length pz.children = length-map pz.subtasks (key pz.subtasks) ∙ sym (same_length (Done pz.children B) M pz.subtasks c.done) ∙ c.all in
      record {
        once = c.once;
        below = λ x n. omega (arith, l, c.within x n);
        keys = all_keys B M pz.subtasks (λ s n. n) c.done;
      }

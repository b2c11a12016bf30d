-- The numbers of the subtasks that have a label.
use Rattle.std.proofs.Common.{◌≡◌, ℕ, suc, ◌+◌, true, false, List, [], ◌∷◌, length, Option, Some, None, option_map, refl, ap, ◌∙◌, bytes_eq, arith, if◌then◌else◌}
use Rattle.std.proofs.Math.Path.{fun_ext}
use Rattle.hv_syntax.specs.Values.{Subtask, Pair}
use Rattle.hv_world.specs.Names.{names, place_in, number_or}
use Rattle.hv_world.specs.Known.{at_place}
use Rattle.hv_world.specs.Networks.{labels, labelled_from, labelled, numbered_pair}
use Rattle.hv_world.specs.inside.LabelViews.{holders}

-- one place further, behind one more
pub at_next : {A : Type 0} (x : A) (xs : List A) (p : Option ℕ) → at_place (x ∷ xs) (option_map suc p) ≡ at_place xs p
at_next x xs None = refl
at_next x xs (Some i) = refl

-- the number that stands beside the first place of a label is that of the first subtask that has it
pub number_of_label : (xs : List Subtask) (k n : ℕ) (l : List ℕ) → n ≡ k + length xs
    → number_or n (at_place (holders k xs) (place_in (names (labels xs)) l)) ≡ labelled_from k xs l
number_of_label [] k n l e = e ∙ (omega arith)
number_of_label (x ∷ xs) k n l e =
    elim x.label as (λ o. number_or n (at_place (elim o [ None ↦ holders (suc k) xs | Some w ↦ k ∷ holders (suc k) xs ]) (place_in (names (elim o [ None ↦ labels xs | Some w ↦ w ∷ labels xs ])) l))
    ≡ (if (elim o [ None ↦ false | Some w ↦ bytes_eq l w.text ]) then k else labelled_from (suc k) xs l)) [
      | None ↦ number_of_label xs (suc k) n l (omega (arith, e))
      | Some w ↦ elim (bytes_eq l w.text) as (λ b. number_or n (at_place (k ∷ holders (suc k) xs) (if b then Some 0 else option_map suc (place_in (names (labels xs)) l))) ≡ (if b then k else labelled_from (suc k) xs l)) [
        | true ↦ refl
        | false ↦ ap (number_or n) (at_next k (holders (suc k) xs) (place_in (names (labels xs)) l)) ∙ number_of_label xs (suc k) n l (omega (arith, e))
      ]
    ]

-- so for all labels
pub numbers_of_labels : (xs : List Subtask) (p : List ℕ → Option ℕ) (hs : List ℕ) (n : ℕ) → p ≡ place_in (names (labels xs)) → hs ≡ holders 0 xs → n ≡ length xs
    → (λ l. number_or n (at_place hs (p l))) ≡ labelled xs
numbers_of_labels xs p hs n placed held counted =
    fun_ext (λ l. ap (λ q. number_or n (at_place hs (q l))) placed ∙ ap (λ ks. number_or n (at_place ks (place_in (names (labels xs)) l))) held ∙ number_of_label xs 0 n l (omega (arith, counted)))

-- the two numbers of a pair
pub pair_numbered : (f : List ℕ → ℕ) (xs ys : List Subtask) (p : Pair) (l m : List ℕ) (a b : ℕ) → f ≡ labelled xs → xs ≡ ys → l ≡ p.earlier.text → m ≡ p.later.text → a ≡ f l → b ≡ f m
    → (a, b) ≡ numbered_pair ys p
pair_numbered f xs ys p l m a b known same before after e g =
    let earlier : a ≡ labelled ys p.earlier.text = e ∙ ap f before ∙ ap (λ h. h p.earlier.text) (known ∙ ap labelled same) in
    let later : b ≡ labelled ys p.later.text = g ∙ ap f after ∙ ap (λ h. h p.later.text) (known ∙ ap labelled same) in
    rw (earlier, later) refl

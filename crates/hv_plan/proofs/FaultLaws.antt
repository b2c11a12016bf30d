-- A text holds a plan or has one fault.
use Rattle.hv_text.specs.declared.fault.TheConstants.{MOST_BYTES}
use Rattle.std.proofs.Common.{◌≡◌, ◌≤◌, ◌<◌, ◌||◌, ℕ, Bool, true, false, List, [], ◌∷◌, ◌++◌, length, inl, inr, ◌⊎◌, Option, Some, None, Result, Ok, Err, refl, sym, ◌∙◌, subst, arith, if◌then◌else◌}
use Rattle.std.specs.Prelude.{nat_le}
use Rattle.std.proofs.lemmas.Grind.{common_steps}
use Rattle.std.proofs.lemmas.Bool.Decides.{leb_tells}
use Rattle.hv_plan.specs.Values.{Root, Plan}
use Rattle.hv_plan.specs.Lines.{NumberedLine, has_start, has_end, between}
use Rattle.hv_plan.specs.Forms.{Form, blank, action, decomposition, root, said}
use Rattle.hv_plan.specs.Plans.{roots_in, roots_of, actions_of, decompositions_of, is_root, fault_of, first_of, fault_from, IsBody}
use Rattle.hv_plan.specs.Spellings.{SayNoRoot, bad_byte, bad_line, id_too_large, IsPlan, IsFirstFault, no_form, second_root, IsPlanFault}
use Rattle.hv_plan.specs.declared.fault.PlanFault.{PlanFault}
use Rattle.hv_plan.specs.declared.fault.PlanFault.TheVariants as faults
use Rattle.hv_plan.proofs.SpellingLemmas.{plan_table, fault_table, rootless_sound, rootless_forms, roots_said, sound_forms}

-- the fault of a text, by a function
abbrev rootless : List Root → Option PlanFault
rootless [] = Some faults.NoRoot
rootless (r ∷ rs) = None

abbrev body_fault : List NumberedLine → Option PlanFault
body_fault ls = first_of (fault_from false ls) (rootless (roots_of ls))

abbrev marked_fault : Bool → Bool → Option PlanFault → Option PlanFault
marked_fault false ends f = Some faults.NoStart
marked_fault true false f = Some faults.NoEnd
marked_fault true true f = f

abbrev text_fault : List ℕ → Option PlanFault
text_fault text = if nat_le (length text) MOST_BYTES then marked_fault (has_start text) (has_end text) (body_fault (between text)) else Some faults.TooLong

small_tells : (a b : ℕ) → a ≤ b → nat_le a b ≡ true
small_tells a b h = grind (arith, common_steps, leb_tells)

large_tells : (a b : ℕ) → b < a → nat_le a b ≡ false
large_tells a b h = grind (arith, common_steps, leb_tells)

within : (text : List ℕ) (f : PlanFault) → length text ≤ MOST_BYTES → has_start text ≡ true → has_end text ≡ true → body_fault (between text) ≡ Some f → text_fault text ≡ Some f
within text f size starts ends body = let n = small_tells (length text) MOST_BYTES size in rw (n, starts, ends) body

first_found : (text : List ℕ) (f : PlanFault) → length text ≤ MOST_BYTES → has_start text ≡ true → has_end text ≡ true → IsFirstFault (between text) f → text_fault text ≡ Some f
first_found text f size starts ends body =
    let first = (fault_table (between text) f).0 body in
    within text f size starts ends (rw first refl)

rootless_found : (ls : List NumberedLine) → SayNoRoot ls → body_fault ls ≡ Some faults.NoRoot
rootless_found ls h =
    let none = rootless_sound ls h.forms h.each h.rootless false in
    let roots : roots_of ls ≡ [] = roots_said ls h.forms h.each ∙ h.rootless in
    rw (none, roots) refl

fault_found : (text : List ℕ) (f : PlanFault) → (f ≡ faults.Memory → ⊥) → IsPlanFault text f → text_fault text ≡ Some f
fault_found text (faults.BadByte n) m h = first_found text (faults.BadByte n) h.size h.starts h.ends h.body
fault_found text (faults.BadLine n) m h = first_found text (faults.BadLine n) h.size h.starts h.ends h.body
fault_found text (faults.IdTooLarge n) m h = first_found text (faults.IdTooLarge n) h.size h.starts h.ends h.body
fault_found text (faults.RepeatedRoot n) m h = first_found text (faults.RepeatedRoot n) h.size h.starts h.ends h.body
fault_found text faults.NoRoot m h = within text faults.NoRoot h.size h.starts h.ends (rootless_found (between text) h.body)
fault_found text faults.TooLong m h = let n = large_tells (length text) MOST_BYTES h in rw n refl
fault_found text faults.NoStart m (size, starts) = let n = small_tells (length text) MOST_BYTES size in rw (n, starts) refl
fault_found text faults.NoEnd m (size, starts, ends) = let n = small_tells (length text) MOST_BYTES size in rw (n, starts, ends) refl
fault_found text faults.Memory m h = absurd (m refl)

-- a text has one fault, want of memory aside
pub one_fault : (text : List ℕ) (f g : PlanFault) → IsPlanFault text f → IsPlanFault text g → (f ≡ faults.Memory → ⊥) → (g ≡ faults.Memory → ⊥) → f ≡ g
one_fault text f g h k m n = let same : Some f ≡ Some g = sym (fault_found text f m h) ∙ fault_found text g n k in cc

-- a text without a plan has a fault
abbrev pub HasFault : List ℕ → Type 0
HasFault text = (f : PlanFault) × (f ≡ faults.Memory → ⊥) × IsPlanFault text f

abbrev pub HasPlan : List ℕ → Type 0
HasPlan text = (p : Plan) × IsPlan text p

first_held : (text : List ℕ) (f : PlanFault) → length text ≤ MOST_BYTES → has_start text ≡ true → has_end text ≡ true → IsFirstFault (between text) f → HasFault text
first_held text f size starts ends first = go (between text) f refl first
  where
    go : (ls : List NumberedLine) (f : PlanFault) → between text ≡ ls → IsFirstFault ls f → HasFault text
    go ls _ e (no_form before after l forms _ split each few (bad_byte s h)) =
        (faults.BadByte l.number, λ m. cc, record { size = size; starts = starts; ends = ends; body = subst (λ xs. IsFirstFault xs (faults.BadByte l.number)) (sym e) (no_form before after l forms (faults.BadByte l.number) split each few (bad_byte s h)) })
    go ls _ e (no_form before after l forms _ split each few (bad_line h k)) =
        (faults.BadLine l.number, λ m. cc, record { size = size; starts = starts; ends = ends; body = subst (λ xs. IsFirstFault xs (faults.BadLine l.number)) (sym e) (no_form before after l forms (faults.BadLine l.number) split each few (bad_line h k)) })
    go ls _ e (no_form before after l forms _ split each few (id_too_large f h k large)) =
        (faults.IdTooLarge l.number, λ m. cc, record { size = size; starts = starts; ends = ends; body = subst (λ xs. IsFirstFault xs (faults.IdTooLarge l.number)) (sym e) (no_form before after l forms (faults.IdTooLarge l.number) split each few (id_too_large f h k large)) })
    go ls _ e (second_root before after l forms r s split each one says) =
        (faults.RepeatedRoot l.number, λ m. cc, record { size = size; starts = starts; ends = ends; body = subst (λ xs. IsFirstFault xs (faults.RepeatedRoot l.number)) (sym e) (second_root before after l forms r s split each one says) })

-- lines without a fault have one root at most
abbrev AtMostOne : Bool → List Root → Type 0
AtMostOne true rs = rs ≡ []
AtMostOne false rs = length rs ≤ 1

no_root_more : (b : Bool) → (b || false) ≡ b
no_root_more true = refl
no_root_more false = refl

some_more : (f : PlanFault) (o : Option PlanFault) → first_of (Some f) o ≡ None → ⊥
some_more f o e = let clash : Some f ≡ None = e in cc

few_roots : (rooted : Bool) (ls : List NumberedLine) → fault_from rooted ls ≡ None → AtMostOne rooted (roots_of ls)
few_roots true [] e = refl
few_roots false [] e = omega arith
few_roots rooted (l ∷ ls) e = go (said l) e (λ b. few_roots b ls)
  where
    of_root : (r : Root) (b : Bool) → first_of (if b then Some (faults.RepeatedRoot l.number) else None) (fault_from (b || true) ls) ≡ None
        → ((c : Bool) → fault_from c ls ≡ None → AtMostOne c (roots_of ls)) → AtMostOne b (r ∷ roots_of ls)
    of_root r true e later = absurd (some_more (faults.RepeatedRoot l.number) (fault_from true ls) e)
    of_root r false e later = let none : roots_of ls ≡ [] = later true e in subst (λ rs. length (r ∷ rs) ≤ 1) (sym none) (omega arith)

    go : (r : Result Form PlanFault) → first_of (fault_of rooted l.number r) (fault_from (rooted || is_root r) ls) ≡ None
        → ((c : Bool) → fault_from c ls ≡ None → AtMostOne c (roots_of ls)) → AtMostOne rooted (roots_in r ++ roots_of ls)
    go (Err f) e later = absurd (some_more f (fault_from (rooted || false) ls) e)
    go (Ok blank) e later = subst (λ b. AtMostOne b (roots_of ls)) (no_root_more rooted) (later (rooted || false) e)
    go (Ok (action a)) e later = subst (λ b. AtMostOne b (roots_of ls)) (no_root_more rooted) (later (rooted || false) e)
    go (Ok (decomposition d)) e later = subst (λ b. AtMostOne b (roots_of ls)) (no_root_more rooted) (later (rooted || false) e)
    go (Ok (root r)) e later = of_root r rooted e later

two_are_many : (r s : Root) (rs : List Root) → length (r ∷ s ∷ rs) ≤ 1 → ⊥
two_are_many r s rs h = omega arith

body_held : (text : List ℕ) → length text ≤ MOST_BYTES → has_start text ≡ true → has_end text ≡ true → (rs : List Root) → roots_of (between text) ≡ rs
    → fault_from false (between text) ≡ None → HasPlan text ⊎ HasFault text
body_held text size starts ends [] roots none =
    inr (faults.NoRoot, λ m. cc, record { size = size; starts = starts; ends = ends; body = rootless_forms (between text) roots (sound_forms false (between text) none) })
body_held text size starts ends (r ∷ []) roots none =
    let p : Plan = record { actions = actions_of (between text); root = r; decompositions = decompositions_of (between text) } in
    let body : IsBody (between text) p = record { sound = none; actions = refl; decompositions = refl; root = roots } in
    inl (p, record { size = size; starts = starts; ends = ends; body = (plan_table (between text) p).1 body })
body_held text size starts ends (r ∷ s ∷ rs) roots none = absurd (two_are_many r s rs (subst (λ xs. length xs ≤ 1) roots (few_roots false (between text) none)))

-- a text holds a plan or has a fault
pub plan_or_some_fault : (text : List ℕ) → HasPlan text ⊎ HasFault text
plan_or_some_fault text = at_size (leb_tells (length text) MOST_BYTES)
  where
    at_fault : length text ≤ MOST_BYTES → has_start text ≡ true → has_end text ≡ true → (o : Option PlanFault) → fault_from false (between text) ≡ o → HasPlan text ⊎ HasFault text
    at_fault size starts ends None e = body_held text size starts ends (roots_of (between text)) refl e
    at_fault size starts ends (Some f) e = inr (first_held text f size starts ends ((fault_table (between text) f).1 e))

    at_end : length text ≤ MOST_BYTES → has_start text ≡ true → (b : Bool) → has_end text ≡ b → HasPlan text ⊎ HasFault text
    at_end size starts true e = at_fault size starts e (fault_from false (between text)) refl
    at_end size starts false e = inr (faults.NoEnd, λ m. cc, (size, starts, e))

    at_start : length text ≤ MOST_BYTES → (b : Bool) → has_start text ≡ b → HasPlan text ⊎ HasFault text
    at_start size true e = at_end size e (has_end text) refl
    at_start size false e = inr (faults.NoStart, λ m. cc, (size, e))

    at_size : ((nat_le (length text) MOST_BYTES ≡ true) × (length text ≤ MOST_BYTES)) ⊎ ((nat_le (length text) MOST_BYTES ≡ false) × (MOST_BYTES < length text)) → HasPlan text ⊎ HasFault text
    at_size (inl (n, size)) = at_start size (has_start text) refl
    at_size (inr (n, large)) = inr (faults.TooLong, λ m. cc, large)
